-- Rows in slots, merged: one document for each slot.
use Rattle.std.proofs.Common.{◌≡◌, ℕ, zero, suc, ◌+◌, ◌<◌, ◌≤◌, ◌==◌, nat_lt, ◌&&◌, T, Bool, true}
use Rattle.std.proofs.Common.{false, cond, List, [], ◌∷◌, ◌++◌, map, length, take, get_or, set, replicate}
use Rattle.std.proofs.Common.{All, Option, Some, None, refl, sym, ap, subst, ◌∙◌, inl, inr, arith, ℤ, pos}
use Rattle.std.proofs.Common.{length-append, append-nil, if◌then◌else◌, rules}
use Rattle.std.proofs.lemmas.List.Elements.{All-cons, All-nil}
use Rattle.std.proofs.lemmas.Bool.{cases_eq, cond-true, cond-false, eq-eqb, ne_eqb}
use Rattle.std.proofs.lemmas.Bool.Decides.{nat_tests}
use Rattle.std.proofs.lemmas.Cmp.{nat_list_cmp_total}
use Rattle.std.proofs.lemmas.List.{get_or-set_other, get_or-set_same, length-map, length-replicate}
use Rattle.std.proofs.lemmas.List.{get_or-replicate, length-set, replicate-append-replicate}
use Rattle.std.specs.declared.cmp.Ordering.TheVariants.{Less}
use Rattle.std.specs.Ordering.{eq_by_cmp, is_lt}
use Rattle.std.specs.FinMap.{is_sorted}
use Rattle.std.specs.FinMap.Entries.{below_all}
use Rattle.agg_laws.specs.declared.aggregate_kind.AggKind.{AggKind}
use Rattle.agg_laws.specs.declared.aggregate_kind.AggKind.TheVariants as kinds
use Rattle.agg_laws.specs.declared.states.AggState.{AggState}
use Rattle.state_columns.specs.Columns.{Column, replaced, row_at, state_at}
use Rattle.state_columns.specs.Docs.{Doc, projected}
use Rattle.agg_laws.specs.Merged.{join_some, part, total, weights}
use Rattle.agg_laws.specs.Numbers.{least_of, greatest_of, lesser, greater, most_stored, most_values}
use Rattle.agg_laws.specs.Numbers.{AreWhole, IsWhole, NumberFits, NumberStored}
use Rattle.state_columns.specs.Region.{numbers_from}
use Rattle.agg_laws.specs.Rows.{head_of, tail_of, kinds_of, merged_rows, row_of, row_weight}
use Rattle.agg_laws.specs.Rows.{RowFits, RowStored}
use Rattle.agg_laws.specs.States.{kind_of, state_of, unit_of, merged, Fits, IsStored}
use Rattle.agg_laws.specs.laws.NumberBytes.{whole_64}
use Rattle.agg_laws.specs.laws.Rows as rows
use Rattle.agg_laws.specs.laws.States as states
use Rattle.agg_laws.specs.Tree.{dims_order, merged_docs}
use Rattle.state_columns.proofs.MergedLemmas.{join_assoc, join_none, join_swap, Merged_only}
use Rattle.state_columns.proofs.ListLemmas.{same_dims}
use Rattle.state_columns.proofs.DocLemmas.{rows_join}
use Rattle.state_columns.proofs.WeightLemmas.{weights-append, weights-Merged}
use Rattle.star_rows.specs.Columns.{rows_of}
use Rattle.star_rows.specs.Columns as columns
use Rattle.star_records.specs.Slots.{in_slot, slot_doc, values_of, AllHold, AreSlots, HoldsSlots}
use Rattle.star_rows.specs.Words.{ids_at, states_at}
use Rattle.star_records.proofs.FoldSteps.{docs_of, made, row_doc}
use Rattle.star_rows.proofs.RowLemmas.{projected_more}

-- ---- those of a slot

either : {X Y : Type 0} (f : X → Y) (b : Bool) (x : X) (xs : List X)
    → map f (cond b (x ∷ xs) xs) ≡ cond b (f x ∷ map f xs) (map f xs)
either f true x xs = refl
either f false x xs = refl

pub in_slot-map : {X Y : Type 0} (f : X → Y) (slot : ℕ) (slots : List ℕ) (xs : List X)
    → in_slot slot slots (map f xs) ≡ map f (in_slot slot slots xs)
in_slot-map f slot [] xs = refl
in_slot-map f slot (s ∷ slots) [] = refl
in_slot-map f slot (s ∷ slots) (x ∷ xs) =
    ap (λ ys. cond (s == slot) (f x ∷ ys) ys) (in_slot-map f slot slots xs)
    ∙ sym (either f (s == slot) x (in_slot slot slots xs))

one_more : {X : Type 0} (b : Bool) (x : X) (xs : List X) → length (cond b (x ∷ xs) xs) ≤ length xs + 1
one_more true x xs = omega arith
one_more false x xs = omega arith

pub in_slot-few : {X : Type 0} (slot : ℕ) (slots : List ℕ) (xs : List X)
    → length (in_slot slot slots xs) ≤ length xs
in_slot-few slot [] xs = omega arith
in_slot-few slot (s ∷ slots) [] = omega arith
in_slot-few slot (s ∷ slots) (x ∷ xs) =
    omega (arith, one_more (s == slot) x (in_slot slot slots xs), in_slot-few slot slots xs)

pushed : {X : Type 0} (b : Bool) (x : X) (xs ys : List X)
    → cond b (x ∷ (xs ++ ys)) (xs ++ ys) ≡ cond b (x ∷ xs) xs ++ ys
pushed true x xs ys = refl
pushed false x xs ys = refl

pub in_slot-append : {X : Type 0} (slot : ℕ) (slots more : List ℕ) (xs ys : List X)
    → length slots ≡ length xs
    → in_slot slot (slots ++ more) (xs ++ ys) ≡ in_slot slot slots xs ++ in_slot slot more ys
in_slot-append slot [] more [] ys e = refl
in_slot-append slot [] more (x ∷ xs) ys e = absurd (omega (arith, e))
in_slot-append slot (s ∷ slots) more [] ys e = absurd (omega (arith, e))
in_slot-append slot (s ∷ slots) more (x ∷ xs) ys e =
    ap (λ zs. cond (s == slot) (x ∷ zs) zs) (in_slot-append slot slots more xs ys (omega (arith, e)))
    ∙ pushed (s == slot) x (in_slot slot slots xs) (in_slot slot more ys)

some_more : {X : Type 0} (b : Bool) (x : X) (xs : List X) → 0 < length xs
    → 0 < length (cond b (x ∷ xs) xs)
some_more true x xs lt = omega arith
some_more false x xs lt = lt

pub in_slot-some : {X : Type 0} (slot : ℕ) (slots : List ℕ) (xs : List X) (k : ℕ)
    → length slots ≡ length xs → k < length xs → get_or slots k 0 ≡ slot
    → 0 < length (in_slot slot slots xs)
in_slot-some slot [] xs k e lt is = absurd (omega (arith, e, lt))
in_slot-some slot (s ∷ slots) [] k e lt is = absurd (omega (arith, lt))
in_slot-some slot (s ∷ slots) (x ∷ xs) zero e lt is =
    subst (λ (ys : List _). 0 < length ys)
    (sym (cond-true (s == slot) (x ∷ in_slot slot slots xs) (in_slot slot slots xs) (eq-eqb s slot is)))
    (omega arith)
in_slot-some slot (s ∷ slots) (x ∷ xs) (suc k) e lt is =
    some_more (s == slot) x (in_slot slot slots xs)
    (in_slot-some slot slots xs k (omega (arith, e)) (omega (arith, lt)) is)

-- ---- the states in slots

whole_more : (b : Bool) (x : ℤ) (ns : List ℤ) → IsWhole x → AreWhole ns → AreWhole (cond b (x ∷ ns) ns)
whole_more true x ns own rest = (own, rest)
whole_more false x ns own rest = rest

pub in_slot-whole : (slot : ℕ) (slots : List ℕ) (numbers : List ℤ) → AreWhole numbers
    → AreWhole (in_slot slot slots numbers)
in_slot-whole slot [] numbers whole = tt
in_slot-whole slot (s ∷ slots) [] whole = tt
in_slot-whole slot (s ∷ slots) (x ∷ numbers) whole =
    whole_more (s == slot) x (in_slot slot slots numbers) whole.0
    (in_slot-whole slot slots numbers whole.1)

module _ (kind : AggKind) (count : ℕ) (slots : List ℕ) (numbers : List ℤ) (column : Column)
    (slot : ℕ) (h : HoldsSlots kind count slots numbers column) (lt : slot < count) where
  pub holds-fits : AreWhole numbers → Fits (state_at column slot) (length (in_slot slot slots numbers))
  holds-fits whole =
      subst (λ (v : AggState). Fits v (length (in_slot slot slots numbers))) (sym (h.each slot lt))
      (states.fits_of kind (in_slot slot slots numbers) (in_slot-whole slot slots numbers whole))

  pub one-fits : (x : ℤ) → AreWhole numbers → IsWhole x → length numbers + 1 ≤ most_values
      → Fits (merged (state_at column slot) (state_of column.kind (x ∷ []))) most_values
  one-fits x whole own at_most =
      let l = in_slot-few slot slots numbers in
      states.fits_more _ (length (in_slot slot slots numbers) + 1) most_values
      (states.fits_both (state_at column slot) (state_of column.kind (x ∷ []))
      (length (in_slot slot slots numbers)) 1 (holds-fits whole)
      (states.fits_of column.kind (x ∷ []) (own, tt)))
      (omega (arith, at_most, l))

  -- one number more
  pub holds-more : (x : ℤ) → length slots ≡ length numbers
      → HoldsSlots kind count (slots ++ slot ∷ []) (numbers ++ x ∷ [])
      (replaced slot column (merged (state_at column slot) (state_of column.kind (x ∷ []))))
  holds-more x same =
      let v : AggState = merged (state_at column slot) (state_of column.kind (x ∷ [])) in
      let unit : AggState = unit_of column.kind in
      let within : slot < length column.states = omega (arith, lt, h.count_is) in
      record {
        kind_is = h.kind_is;
        count_is = length-set column.states slot v ∙ h.count_is;
        each = λ s s_lt.
            let xs : List ℤ = in_slot s slots numbers in
            let both : in_slot s (slots ++ slot ∷ []) (numbers ++ x ∷ [])
            ≡ xs ++ cond (slot == s) (x ∷ []) [] =
            in_slot-append s slots (slot ∷ []) numbers (x ∷ []) same in
            elim (cases_eq s slot) [
              | inl e ↦
                  ap (λ i. get_or (set column.states slot v) i unit) e
                  ∙ get_or-set_same column.states slot v unit within
                  ∙ ap (λ i. merged (state_at column i) (state_of column.kind (x ∷ []))) (sym e)
                  ∙ (λ i. merged (h.each s s_lt i) (state_of (h.kind_is i) (x ∷ [])))
                  ∙ sym (states.of_both kind xs (x ∷ []))
                  ∙ ap (λ (ys : List ℤ). state_of kind (xs ++ ys))
                  (sym (cond-true (slot == s) (x ∷ []) [] (eq-eqb slot s (sym e))))
                  ∙ ap (state_of kind) (sym both)
              | inr ne ↦
                  get_or-set_other column.states slot s v unit ne ∙ h.each s s_lt
                  ∙ ap (state_of kind) (sym (append-nil xs)
                  ∙ ap (λ (ys : List ℤ). xs ++ ys)
                  (sym (cond-false (slot == s) (x ∷ []) [] (ne_eqb slot s (λ e. ne (sym e)))))
                  ∙ sym both)
            ];
      }

pub holds-none : (kind : AggKind) (count : ℕ) (column : Column) → column.kind ≡ kind
    → column.states ≡ replicate count (unit_of kind) → HoldsSlots kind count [] [] column
holds-none kind count column kind_is is = record {
  kind_is = kind_is;
  count_is = ap length is ∙ length-replicate count (unit_of kind);
  each = λ s lt. (λ i. get_or (is i) s (unit_of (kind_is i)))
      ∙ get_or-replicate count s (unit_of kind) (unit_of kind) lt ∙ sym (states.of_none kind);
}

pub whole-push : (xs : List ℤ) (x : ℤ) → AreWhole xs → IsWhole x → AreWhole (xs ++ x ∷ [])
whole-push [] x h k = (k, tt)
whole-push (y ∷ ys) x h k = (h.0, whole-push ys x h.1 k)

pub whole-zero : IsWhole (pos 0)
whole-zero = whole_64 (pos 0) (search rules)

pub whole-zeros : (n : ℕ) → AreWhole (replicate n (pos 0))
whole-zeros zero = tt
whole-zeros (suc n) = (whole-zero, whole-zeros n)

pub one-zero : (n : ℕ) → replicate n (pos 0) ++ pos 0 ∷ [] ≡ replicate (n + 1) (pos 0)
one-zero n = replicate-append-replicate n 1 (pos 0)

pub fresh-count : (count : ℕ) (kind : AggKind) (column : Column)
    → column.states ≡ replicate count (unit_of kind) → length column.states ≡ count
fresh-count count kind column is = ap length is ∙ length-replicate count (unit_of kind)

pub fresh-units : (count : ℕ) (kind : AggKind) (column : Column) → column.kind ≡ kind
    → column.states ≡ replicate count (unit_of kind)
    → column.states ≡ replicate (length column.states) (unit_of column.kind)
fresh-units count kind column kind_is is =
    is ∙ (λ i. replicate (sym (fresh-count count kind column is) i) (unit_of (sym kind_is i)))

-- one pair more
pub hold-push : (count : ℕ) (slots : List ℕ) (ks : List AggKind) (ms : List (List ℤ))
    (cs : List Column) (k : AggKind) (m : List ℤ) (c : Column) → AllHold count slots ks ms cs
    → HoldsSlots k count slots m c → AreWhole m
    → AllHold count slots (ks ++ k ∷ []) (ms ++ m ∷ []) (cs ++ c ∷ [])
hold-push count slots [] [] [] k m c h own whole = (own, whole, tt)
hold-push count slots [] [] (d ∷ ds) k m c h own whole = absurd h
hold-push count slots [] (n ∷ ns) cs k m c h own whole = absurd h
hold-push count slots (j ∷ js) [] cs k m c h own whole = absurd h
hold-push count slots (j ∷ js) (n ∷ ns) [] k m c h own whole = absurd h
hold-push count slots (j ∷ js) (n ∷ ns) (d ∷ ds) k m c h own whole =
    (h.0, h.1, hold-push count slots js ns ds k m c h.2 own whole)

pub hold-step : (count : ℕ) (slots : List ℕ) (ks : List AggKind) (ms : List (List ℤ)) (at : ℕ)
    (cs cs' : List Column) (k : AggKind) (m : List ℤ) (c : Column)
    → take (at + 1) ks ≡ take at ks ++ k ∷ [] → take (at + 1) ms ≡ take at ms ++ m ∷ []
    → AllHold count slots (take at ks) (take at ms) cs → HoldsSlots k count slots m c → AreWhole m
    → cs' ≡ cs ++ c ∷ [] → AllHold count slots (take (at + 1) ks) (take (at + 1) ms) cs'
hold-step count slots ks ms at cs cs' k m c k_is m_is h own whole is =
    subst (λ (l : List Column). AllHold count slots (take (at + 1) ks) (take (at + 1) ms) l) (sym is)
    (subst (λ (l : List AggKind). AllHold count slots l (take (at + 1) ms) (cs ++ c ∷ [])) (sym k_is)
    (subst (λ (l : List (List ℤ)). AllHold count slots (take at ks ++ k ∷ []) l (cs ++ c ∷ []))
    (sym m_is) (hold-push count slots (take at ks) (take at ms) cs k m c h own whole)))

-- ---- a slot's row of states

pub long-columns : (count : ℕ) (slots : List ℕ) (ks : List AggKind) (ms : List (List ℤ))
    (cs : List Column) (slot : ℕ) → AllHold count slots ks ms cs → slot < count
    → All (λ c. slot < length c.states) cs
long-columns count slots [] [] [] slot h lt = All-nil (λ c. slot < length c.states)
long-columns count slots [] [] (d ∷ ds) slot h lt = absurd h
long-columns count slots [] (n ∷ ns) cs slot h lt = absurd h
long-columns count slots (j ∷ js) [] cs slot h lt = absurd h
long-columns count slots (j ∷ js) (n ∷ ns) [] slot h lt = absurd h
long-columns count slots (j ∷ js) (n ∷ ns) (c ∷ cs) slot h lt =
    let e = h.0.count_is in
    All-cons (λ c. slot < length c.states) c cs (omega (arith, e, lt))
    (long-columns count slots js ns cs slot h.2 lt)

-- what the values of rows are, number by number
heads : (m : List ℤ) (ms : List (List ℤ)) (is : List ℕ)
    → map head_of (map (λ i. columns.row_at (pos 0) i (m ∷ ms)) is) ≡ map (λ i. get_or m i (pos 0)) is
heads m ms [] = refl
heads m ms (i ∷ is) = ap (λ l. get_or m i (pos 0) ∷ l) (heads m ms is)

tails : (m : List ℤ) (ms : List (List ℤ)) (is : List ℕ)
    → map tail_of (map (λ i. columns.row_at (pos 0) i (m ∷ ms)) is)
    ≡ map (λ i. columns.row_at (pos 0) i ms) is
tails m ms [] = refl
tails m ms (i ∷ is) = ap (λ l. columns.row_at (pos 0) i ms ∷ l) (tails m ms is)

all_items : (m : List ℤ) (n : ℕ) → length m ≡ n → map (λ i. get_or m i (pos 0)) (numbers_from 0 n) ≡ m
all_items m n e = from [] m n e
  where
    later : (f : List ℤ) (m : List ℤ) (x : ℤ) (k : ℕ) → k ≡ length f
        → get_or (f ++ (x ∷ m)) k (pos 0) ≡ x
    later [] m x zero e = refl
    later [] m x (suc k) e = absurd (omega (arith, e))
    later (y ∷ ys) m x zero e = absurd (omega (arith, e))
    later (y ∷ ys) m x (suc k) e = later ys m x k (omega (arith, e))

    joined : (f : List ℤ) (x : ℤ) (m : List ℤ) → (f ++ (x ∷ [])) ++ m ≡ f ++ (x ∷ m)
    joined [] x m = refl
    joined (y ∷ ys) x m = ap (λ l. y ∷ l) (joined ys x m)

    from : (f m : List ℤ) (n : ℕ) → length m ≡ n
        → map (λ i. get_or (f ++ m) i (pos 0)) (numbers_from (length f) n) ≡ m
    from f [] zero e = refl
    from f [] (suc n) e = absurd (omega (arith, e))
    from f (x ∷ m) zero e = absurd (omega (arith, e))
    from f (x ∷ m) (suc n) e =
        let l : length (f ++ (x ∷ [])) ≡ suc (length f) =
        length-append f (x ∷ []) ∙ omega arith in
        λ j. later f m x (length f) refl j
        ∷ ((λ i. map (λ k. get_or (sym (joined f x m) i) k (pos 0)) (numbers_from (sym l i) n))
        ∙ from (f ++ (x ∷ [])) m n (omega (arith, e))) j

pub slot-row : (count : ℕ) (slots : List ℕ) (ks : List AggKind) (ms : List (List ℤ))
    (cs : List Column) (slot : ℕ) → AllHold count slots ks ms cs
    → All (λ m. length m ≡ length slots) ms → slot < count
    → row_at cs slot ≡ row_of ks (in_slot slot slots (values_of (length slots) ms))
slot-row count slots [] [] [] slot h lengths lt = refl
slot-row count slots [] [] (d ∷ ds) slot h lengths lt = absurd h
slot-row count slots [] (n ∷ ns) cs slot h lengths lt = absurd h
slot-row count slots (j ∷ js) [] cs slot h lengths lt = absurd h
slot-row count slots (j ∷ js) (n ∷ ns) [] slot h lengths lt = absurd h
slot-row count slots (k ∷ ks) (m ∷ ms) (c ∷ cs) slot h lengths lt =
    let is : List ℕ = numbers_from 0 (length slots) in
    let rows : List (List ℤ) = values_of (length slots) (m ∷ ms) in
    let first : map head_of (in_slot slot slots rows) ≡ in_slot slot slots m =
    sym (in_slot-map head_of slot slots rows)
    ∙ ap (in_slot slot slots) (heads m ms is ∙ all_items m (length slots) (lengths 0 m (omega arith))) in
    let others : map tail_of (in_slot slot slots rows)
    ≡ in_slot slot slots (values_of (length slots) ms) =
    sym (in_slot-map tail_of slot slots rows) ∙ ap (in_slot slot slots) (tails m ms is) in
    λ i. (h.0.each slot lt ∙ ap (state_of k) (sym first)) i
    ∷ (slot-row count slots ks ms cs slot h.2 (λ a d l. lengths (suc a) d (omega (arith, l))) lt
    ∙ ap (row_of ks) (sym others)) i

kind-of : (k : AggKind) (xs : List ℤ) → kind_of (state_of k xs) ≡ k
kind-of kinds.Count xs = refl
kind-of kinds.Sum xs = refl
kind-of kinds.Least xs = refl
kind-of kinds.Greatest xs = refl
kind-of kinds.Average xs = refl

pub row-kinds : (ks : List AggKind) (xs : List (List ℤ)) → kinds_of (row_of ks xs) ≡ ks
row-kinds [] xs = refl
row-kinds (k ∷ ks) xs = λ i. kind-of k (map head_of xs) i ∷ row-kinds ks (map tail_of xs) i

-- the state of some numbers can be stored
least_stored : (x : ℤ) (rest : Option ℤ) → NumberFits (lesser (Some x) rest)
    → NumberStored (lesser (Some x) rest)
least_stored x None h = h
least_stored x (Some y) h = h

greatest_stored : (x : ℤ) (rest : Option ℤ) → NumberFits (greater (Some x) rest)
    → NumberStored (greater (Some x) rest)
greatest_stored x None h = h
greatest_stored x (Some y) h = h

state-stored : (k : AggKind) (xs : List ℤ) → AreWhole xs → 0 < length xs → length xs ≤ most_stored
    → IsStored (state_of k xs)
state-stored k [] whole some at_most = absurd (omega (arith, some))
state-stored kinds.Count (x ∷ xs) whole some at_most = (omega (arith, some), at_most)
state-stored kinds.Sum (x ∷ xs) whole some at_most =
    states.fits_more (state_of kinds.Sum (x ∷ xs)) (length (x ∷ xs)) most_stored
    (states.fits_of kinds.Sum (x ∷ xs) whole) at_most
state-stored kinds.Least (x ∷ xs) whole some at_most =
    least_stored x (least_of xs) (states.fits_of kinds.Least (x ∷ xs) whole)
state-stored kinds.Greatest (x ∷ xs) whole some at_most =
    greatest_stored x (greatest_of xs) (states.fits_of kinds.Greatest (x ∷ xs) whole)
state-stored kinds.Average (x ∷ xs) whole some at_most =
    ((omega (arith, some), at_most), (states.fits_of kinds.Average (x ∷ xs) whole).1)

pub slot-stored : (count : ℕ) (slots : List ℕ) (ks : List AggKind) (ms : List (List ℤ))
    (cs : List Column) (slot at : ℕ) → AllHold count slots ks ms cs
    → All (λ m. length m ≡ length slots) ms → slot < count → length slots ≤ most_stored
    → at < length slots → get_or slots at 0 ≡ slot → RowStored (row_at cs slot)
slot-stored count slots [] [] [] slot at h lengths lt at_most in' is = tt
slot-stored count slots [] [] (d ∷ ds) slot at h lengths lt at_most in' is = absurd h
slot-stored count slots [] (n ∷ ns) cs slot at h lengths lt at_most in' is = absurd h
slot-stored count slots (j ∷ js) [] cs slot at h lengths lt at_most in' is = absurd h
slot-stored count slots (j ∷ js) (n ∷ ns) [] slot at h lengths lt at_most in' is = absurd h
slot-stored count slots (k ∷ ks) (m ∷ ms) (c ∷ cs) slot at h lengths lt at_most in' is =
    let l = lengths 0 m (omega arith) in
    let some = in_slot-some slot slots m at (sym l) (omega (arith, in', l)) is in
    let most = in_slot-few slot slots m in (
      subst IsStored (sym (h.0.each slot lt))
          (state-stored k (in_slot slot slots m) (in_slot-whole slot slots m h.1) some
          (omega (arith, most, l, at_most))),
      slot-stored count slots ks ms cs slot at h.2 (λ a d e. lengths (suc a) d (omega (arith, e))) lt
          at_most in' is,
    )

-- a row of values is light
whole_at : (m : List ℤ) (i : ℕ) → AreWhole m → i < length m → IsWhole (get_or m i (pos 0))
whole_at [] i h lt = absurd (omega (arith, lt))
whole_at (x ∷ m) zero h lt = h.0
whole_at (x ∷ m) (suc i) h lt = whole_at m i h.1 (omega (arith, lt))

row-fits : (count : ℕ) (slots : List ℕ) (ks : List AggKind) (ms : List (List ℤ)) (cs : List Column)
    (i : ℕ) → AllHold count slots ks ms cs → All (λ m. length m ≡ length slots) ms
    → i < length slots → RowFits (row_of ks (columns.row_at (pos 0) i ms ∷ [])) 1
row-fits count slots [] [] [] i h lengths lt = tt
row-fits count slots [] [] (d ∷ ds) i h lengths lt = absurd h
row-fits count slots [] (n ∷ ns) cs i h lengths lt = absurd h
row-fits count slots (j ∷ js) [] cs i h lengths lt = absurd h
row-fits count slots (j ∷ js) (n ∷ ns) [] i h lengths lt = absurd h
row-fits count slots (k ∷ ks) (m ∷ ms) (c ∷ cs) i h lengths lt =
    let l = lengths 0 m (omega arith) in (
      states.fits_of k (get_or m i (pos 0) ∷ []) (whole_at m i h.1 (omega (arith, lt, l)), tt),
      row-fits count slots ks ms cs i h.2 (λ a d e. lengths (suc a) d (omega (arith, e))) lt,
    )

rows-light : (ks : List AggKind) (dims : List (List ℕ)) (metrics : List (List ℤ)) (n : ℕ)
    → ((i : ℕ) → i < n → row_weight (row_of ks (columns.row_at (pos 0) i metrics ∷ [])) ≤ 1)
    → weights row_weight (projected ks (rows_of n dims metrics)) ≤ n
rows-light ks dims metrics zero h = omega arith
rows-light ks dims metrics (suc n) h =
    let row : List ℕ × List ℤ = (columns.row_at 0 n dims, columns.row_at (pos 0) n metrics) in
    let docs = projected ks (rows_of n dims metrics) in
    let a = ap (weights row_weight) (projected_more ks (rows_of n dims metrics) row)
    ∙ weights-append row_weight docs ((row.0, row_of ks (row.1 ∷ [])) ∷ []) in
    let b = rows-light ks dims metrics n (λ i l. h i (omega (arith, l))) in
    let c = h n (omega arith) in
    omega (arith, a, b, c)

pub merged-light : (count : ℕ) (slots : List ℕ) (ks : List AggKind) (ms : List (List ℤ))
    (cs : List Column) (dims : List (List ℕ)) (docs : List Doc) → AllHold count slots ks ms cs
    → All (λ m. length m ≡ length slots) ms
    → docs ≡ merged_docs merged_rows (projected ks (rows_of (length slots) dims ms))
    → weights row_weight docs ≤ length slots
merged-light count slots ks ms cs dims docs h lengths is =
    let all = projected ks (rows_of (length slots) dims ms) in
    let a = ap (weights row_weight) is in
    let b = weights-Merged row_weight dims_order merged_rows rows.row_weight_both all in
    let c = rows-light ks dims ms (length slots) (λ i l.
    rows.row_weight_least (row_of ks (columns.row_at (pos 0) i ms ∷ [])) 1
    (row-fits count slots ks ms cs i h lengths l)) in
    omega (arith, a, b, c)

-- ---- slot by slot

-- those that have this slot or one after it
abbrev pub from_slot : {X : Type 0} → ℕ → List ℕ → List X → List X
from_slot n [] xs = []
from_slot n (s ∷ slots) [] = []
from_slot n (s ∷ slots) (x ∷ xs) =
    if nat_lt s n then from_slot n slots xs else x ∷ from_slot n slots xs

from-all : {X : Type 0} (slots : List ℕ) (xs : List X) → length slots ≡ length xs
    → from_slot 0 slots xs ≡ xs
from-all [] [] e = refl
from-all [] (x ∷ xs) e = absurd (omega (arith, e))
from-all (s ∷ slots) [] e = absurd (omega (arith, e))
from-all (s ∷ slots) (x ∷ xs) e =
    cond-false (nat_lt s 0) (from_slot 0 slots xs) (x ∷ from_slot 0 slots xs) (grind (arith, nat_tests))
    ∙ ap (λ l. x ∷ l) (from-all slots xs (omega (arith, e)))

from-end : {X : Type 0} (n : ℕ) (slots : List ℕ) (xs : List X)
    → All (λ slot. slot < n) slots → from_slot n slots xs ≡ []
from-end n [] xs h = refl
from-end n (s ∷ slots) [] h = refl
from-end n (s ∷ slots) (x ∷ xs) h =
    let lt : s < n = h 0 0 (omega arith) in
    cond-true (nat_lt s n) (from_slot n slots xs) (x ∷ from_slot n slots xs) (grind (arith, nat_tests))
    ∙ from-end n slots xs (λ i d l. h (suc i) d (omega (arith, l)))

-- the total from a slot on is that of the slot and that from the next one on
parted_step : (p : List ℕ → Bool) (e : Doc) (all own later : List Doc) (a b c : Bool)
    → (a ≡ true → (b ≡ false) × (c ≡ true)) → (b ≡ true → c ≡ true)
    → (a ≡ false → b ≡ false → c ≡ false)
    → total merged_rows p all
    ≡ join_some merged_rows (total merged_rows p own) (total merged_rows p later)
    → total merged_rows p (cond a all (e ∷ all))
    ≡ join_some merged_rows (total merged_rows p (cond b (e ∷ own) own))
    (total merged_rows p (cond c later (e ∷ later)))
parted_step p e all own later true true c f g h so = absurd (let x = (f refl).0 in cc)
parted_step p e all own later true false true f g h so = so
parted_step p e all own later true false false f g h so = absurd (let x = (f refl).1 in cc)
parted_step p e all own later false true true f g h so =
    ap (join_some merged_rows (part p e)) so
    ∙ sym (join_assoc merged_rows rows_join (part p e) (total merged_rows p own)
    (total merged_rows p later))
parted_step p e all own later false true false f g h so = absurd (let x = g refl in cc)
parted_step p e all own later false false true f g h so = absurd (let x = h refl refl in cc)
parted_step p e all own later false false false f g h so =
    ap (join_some merged_rows (part p e)) so
    ∙ join_swap merged_rows rows_join (part p e) (total merged_rows p own)
    (total merged_rows p later)

parted : (p : List ℕ → Bool) (n : ℕ) (slots : List ℕ) (docs : List Doc)
    → total merged_rows p (from_slot n slots docs)
    ≡ join_some merged_rows (total merged_rows p (in_slot n slots docs))
    (total merged_rows p (from_slot (suc n) slots docs))
parted p n [] docs = refl
parted p n (s ∷ slots) [] = refl
parted p n (s ∷ slots) (e ∷ docs) =
    parted_step p e (from_slot n slots docs) (in_slot n slots docs) (from_slot (suc n) slots docs)
    (nat_lt s n) (s == n) (nat_lt s (suc n)) (lower s n) (own s n) (higher s n)
    (parted p n slots docs)
  where
    lower : (s n : ℕ) → nat_lt s n ≡ true → ((s == n) ≡ false) × (nat_lt s (suc n) ≡ true)
    lower s n e = (grind (arith, nat_tests), grind (arith, nat_tests))

    own : (s n : ℕ) → (s == n) ≡ true → nat_lt s (suc n) ≡ true
    own s n e = grind (arith, nat_tests)

    higher : (s n : ℕ) → nat_lt s n ≡ false → (s == n) ≡ false → nat_lt s (suc n) ≡ false
    higher s n e f = grind (arith, nat_tests)

module _ (ks : List AggKind) (dims : List (List ℕ)) (metrics : List (List ℤ)) where
  -- the total of rows of one combination
  run : (p : List ℕ → Bool) (key : List ℕ) (i : ℕ) (is : List ℕ)
      → All (λ j. ids_at dims j ≡ key) (i ∷ is)
      → total merged_rows p (docs_of ks dims metrics (i ∷ is))
      ≡ part p (key, row_of ks (map (λ j. columns.row_at (pos 0) j metrics) (i ∷ is)))
  run p key i [] h =
      join_none merged_rows rows_join (part p (row_doc ks dims metrics i))
      ∙ ap (λ k. part p (k, states_at ks metrics i)) (h 0 0 (omega arith))
  run p key i (j ∷ js) h =
      let v = columns.row_at (pos 0) i metrics in
      let rest = map (λ k. columns.row_at (pos 0) k metrics) (j ∷ js) in
      (λ a. join_some merged_rows (part p (h 0 0 (omega arith) a, states_at ks metrics i))
      (run p key j js (λ k d l. h (suc k) d (omega (arith, l))) a))
      ∙ both (p key) (states_at ks metrics i) (row_of ks rest)
      ∙ ap (λ s. part p (key, s)) (sym (rows.of_both ks (v ∷ []) rest))
    where
      both : (b : Bool) (s t : List AggState)
          → join_some merged_rows (cond b (Some s) None) (cond b (Some t) None)
          ≡ cond b (Some (merged_rows s t)) None
      both true s t = refl
      both false s t = refl

  module _ (slots known : List ℕ) (are : AreSlots (length slots) dims slots known) where
    abbrev all_docs : List Doc
    all_docs = docs_of ks dims metrics (numbers_from 0 (length slots))

    long_numbers : (from n : ℕ) → length (numbers_from from n) ≡ n
    long_numbers from zero = refl
    long_numbers from (suc n) = ap suc (long_numbers (suc from) n)

    -- the rows of a slot have its combination
    of_slot : (slot from : ℕ) (ss : List ℕ) → ((k : ℕ) → k < length ss
        → get_or ss k 0 ≡ get_or slots (from + k) 0) → from + length ss ≡ length slots
        → All (λ j. ids_at dims j ≡ ids_at dims (get_or known slot 0))
        (in_slot slot ss (numbers_from from (length ss)))
    of_slot slot from [] h e = All-nil (λ j. ids_at dims j ≡ ids_at dims (get_or known slot 0))
    of_slot slot from (s ∷ ss) h e =
        more (s == slot) refl
        (of_slot slot (suc from) ss
        (λ k l. let f : from + suc k ≡ suc from + k = omega arith in
        h (suc k) (omega (arith, l)) ∙ ap (λ j. get_or slots j 0) f) (omega (arith, e)))
      where
        own : (s == slot) ≡ true → ids_at dims from ≡ ids_at dims (get_or known slot 0)
        own t =
            let a : s ≡ slot = grind (arith, nat_tests, t) in
            let z : from + 0 ≡ from = omega arith in
            let b : get_or slots from 0 ≡ slot =
            sym (h 0 (omega arith) ∙ ap (λ j. get_or slots j 0) z) ∙ a in
            sym (are.same from (omega (arith, e)))
            ∙ ap (λ j. ids_at dims (get_or known j 0)) b

        more : (b : Bool) → (s == slot) ≡ b
            → All (λ j. ids_at dims j ≡ ids_at dims (get_or known slot 0))
            (in_slot slot ss (numbers_from (suc from) (length ss)))
            → All (λ j. ids_at dims j ≡ ids_at dims (get_or known slot 0))
            (cond b (from ∷ in_slot slot ss (numbers_from (suc from) (length ss)))
            (in_slot slot ss (numbers_from (suc from) (length ss))))
        more true t rest =
            All-cons (λ j. ids_at dims j ≡ ids_at dims (get_or known slot 0)) from
            (in_slot slot ss (numbers_from (suc from) (length ss))) (own t) rest
        more false t rest = rest

    -- the total of a slot's rows
    one_slot : (p : List ℕ → Bool) (slot : ℕ) → slot < length known
        → total merged_rows p (in_slot slot slots all_docs)
        ≡ part p (slot_doc ks dims metrics slots known slot)
    one_slot p slot lt =
        let is : List ℕ = numbers_from 0 (length slots) in
        let js : List ℕ = in_slot slot slots is in
        let at : ℕ = get_or known slot 0 in
        let in' : at < length slots = are.rows_in slot 0 lt in
        let n = long_numbers 0 (length slots) in
        let some : 0 < length js =
        in_slot-some slot slots is at (sym n) (omega (arith, in', n)) (are.own slot lt) in
        let same = of_slot slot 0 slots
        (λ k l. let f : k ≡ 0 + k = omega arith in ap (λ j. get_or slots j 0) f) (omega arith) in
        ap (total merged_rows p) (in_slot-map (row_doc ks dims metrics) slot slots is)
        ∙ whole js some same
        ∙ ap (λ (v : List (List ℤ)). part p (ids_at dims at, row_of ks v))
        (sym (in_slot-map (λ i. columns.row_at (pos 0) i metrics) slot slots is))
      where
        whole : (js : List ℕ) → 0 < length js
            → All (λ j. ids_at dims j ≡ ids_at dims (get_or known slot 0)) js
            → total merged_rows p (docs_of ks dims metrics js)
            ≡ part p (
              ids_at dims (get_or known slot 0),
              row_of ks (map (λ j. columns.row_at (pos 0) j metrics) js),
            )
        whole [] some h = absurd (omega (arith, some))
        whole (j ∷ js) some h = run p (ids_at dims (get_or known slot 0)) j js h

    totals : (p : List ℕ → Bool) (from n : ℕ) → from + n ≡ length known
        → total merged_rows p (map (slot_doc ks dims metrics slots known) (numbers_from from n))
        ≡ total merged_rows p (from_slot from slots all_docs)
    totals p from zero e =
        sym (ap (total merged_rows p) (from-end from slots all_docs
        (λ i d l. let b = are.below i d l in omega (arith, b, e))))
    totals p from (suc n) e =
        (λ i. join_some merged_rows (sym (one_slot p from (omega (arith, e))) i)
        (totals p (suc from) n (omega (arith, e)) i))
        ∙ sym (parted p from slots all_docs)

    less_true : (xs ys : List ℕ) → dims_order xs ys ≡ Less → is_lt (dims_order xs ys) ≡ true
    less_true xs ys e = ap is_lt e

    above : (s from n : ℕ) → s < from → from + n ≡ length known
        → below_all dims_order (ids_at dims (get_or known s 0))
        (map (slot_doc ks dims metrics slots known) (numbers_from from n)) ≡ true
    above s from zero lt e = refl
    above s from (suc n) lt e =
        (λ i. is_lt (are.up s from lt (omega (arith, e)) i)
        && above s (suc from) n (omega (arith, lt)) (omega (arith, e)) i)

    ascend : (from n : ℕ) → from + n ≡ length known
        → is_sorted dims_order (map (slot_doc ks dims metrics slots known) (numbers_from from n))
        ≡ true
    ascend from zero e = refl
    ascend from (suc n) e =
        (λ i. above from (suc from) n (omega arith) (omega (arith, e)) i
        && ascend (suc from) n (omega (arith, e)) i)

    as_test : (b : Bool) → b ≡ true → T b
    as_test true p = tt
    as_test false p = cc

    -- one document for each slot is the rows merged
    pub merged_slots : map (slot_doc ks dims metrics slots known) (numbers_from 0 (length known))
        ≡ merged_docs merged_rows (projected ks (rows_of (length slots) dims metrics))
    merged_slots =
        Merged_only dims_order nat_list_cmp_total same_dims merged_rows rows_join
        (map (slot_doc ks dims metrics slots known) (numbers_from 0 (length known))) all_docs
        (as_test _ (ascend 0 (length known) (omega arith)))
        (λ q. totals (eq_by_cmp dims_order q) 0 (length known) (omega arith)
        ∙ ap (total merged_rows (eq_by_cmp dims_order q))
        (from-all slots all_docs (sym (length-map (numbers_from 0 (length slots)) (row_doc ks dims metrics)
        ∙ long_numbers 0 (length slots)))))
        ∙ ap (merged_docs merged_rows) (sym (made ks dims metrics (length slots)))
