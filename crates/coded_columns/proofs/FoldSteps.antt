-- Numbers that are added to the states of keys.
use Rattle.std.proofs.Common.{◌≡◌, ◌≢◌, ◌∙◌, ◌<◌, ◌≤◌, ◌+◌, ◌+ℤ◌, ◌++◌, ◌∷◌, ◌==◌, [], ℕ, ℤ, zero, suc, pos, Bool, true, false, cond, List, length, get_or, set, ap, refl, sym, subst, arith, inl, inr, append-nil, append_assoc, count_by, to_z, of_z}
use Rattle.std.specs.List.{All}
use Rattle.std.proofs.lemmas.Bool.{cases_eq, cond-true, cond-false, eq-eqb, ne_eqb}
use Rattle.std.proofs.lemmas.List.{get_or-set_other, get_or-set_same}
use Rattle.std.proofs.Math.ListN.{length-set}
use Rattle.std.proofs.lemmas.List.{length-append}
use Rattle.std.proofs.lemmas.List.Elements.{All-head, All-tail}
use Rattle.std.specs.Int.{w64}
use Rattle.std.specs.Prelude.{FitsSigned}
use Rattle.std.proofs.lemmas.Int.{ints, to_z-of_z}
use Rattle.std.proofs.lemmas.List.Sums.{sum_by-cons}
use Rattle.agg_laws.specs.declared.aggregate_kind.AggKind.{AggKind}
use Rattle.agg_laws.specs.declared.states.AggState.{AggState}
use Rattle.state_columns.specs.Columns.{Column, replaced, state_at, with_values}
use Rattle.value_ids.specs.Coding.{AreBelow}
use Rattle.agg_laws.specs.Numbers.{AreWhole, IsWhole, SumFits, most_values, sum_of}
use Rattle.agg_laws.specs.States.{Fits, merged, state_of, unit_of}
use Rattle.agg_laws.specs.laws.States as states
use Rattle.agg_laws.specs.laws.Sums as sums
use Rattle.coded_columns.specs.Slots.{MoreStates, in_slot}
use Rattle.coded_columns.proofs.SlotLemmas.{in_slot-append}

-- ---- whole numbers

pub whole-at : (numbers : List ℤ) (i : ℕ) → AreWhole numbers → IsWhole (get_or numbers i (pos 0))
whole-at [] i whole = (omega (arith, ints), omega (arith, ints))
whole-at (x ∷ xs) zero whole = whole.0
whole-at (x ∷ xs) (suc i) whole = whole-at xs i whole.1

-- a number of 64 bits that is kept is the number
pub whole-kept : (x : ℤ) → IsWhole x → to_z w64 (of_z w64 x) ≡ x
whole-kept x whole = to_z-of_z w64 x (fits x whole)
  where
    fits : (x : ℤ) → IsWhole x → FitsSigned w64 x
    fits x whole = omega (arith, ints)

pub whole-both : (xs ys : List ℤ) → AreWhole xs → AreWhole ys → AreWhole (xs ++ ys)
whole-both [] ys h k = k
whole-both (x ∷ xs) ys h k = (h.0, whole-both xs ys h.1 k)

pub whole-from : (xs : List ℤ) → All IsWhole xs → AreWhole xs
whole-from [] all = tt
whole-from (x ∷ xs) all = (All-head IsWhole x xs all, whole-from xs (All-tail IsWhole x xs all))

whole_more : (b : Bool) (x : ℤ) (ns : List ℤ) → IsWhole x → AreWhole ns → AreWhole (cond b (x ∷ ns) ns)
whole_more true x ns own rest = (own, rest)
whole_more false x ns own rest = rest

pub in_slot-whole : (slot : ℕ) (slots : List ℕ) (numbers : List ℤ) → AreWhole numbers → AreWhole (in_slot slot slots numbers)
in_slot-whole slot [] numbers whole = tt
in_slot-whole slot (s ∷ slots) [] whole = tt
in_slot-whole slot (s ∷ slots) (x ∷ numbers) whole = whole_more (s == slot) x (in_slot slot slots numbers) whole.0 (in_slot-whole slot slots numbers whole.1)

-- one number more
more-next : (slots : List ℕ) (numbers : List ℤ) (old column : Column) (slot : ℕ) (x : ℤ) → MoreStates slots numbers old column → slot < length old.states → length slots ≡ length numbers
    → MoreStates (slots ++ slot ∷ []) (numbers ++ x ∷ []) old (replaced slot column (merged (state_at column slot) (state_of column.kind (x ∷ []))))
more-next slots numbers old column slot x m lt same =
    let v : AggState = merged (state_at column slot) (state_of column.kind (x ∷ [])) in
    let unit : AggState = unit_of column.kind in
    let kind : AggKind = old.kind in
    let within : slot < length column.states = omega (arith, lt, m.count_is) in
    record {
      kind_is = m.kind_is;
      count_is = length-set column.states slot v ∙ m.count_is;
      each = λ before are s s_lt.
          let xs : List ℤ = in_slot s slots numbers in
          let both : in_slot s (slots ++ slot ∷ []) (numbers ++ x ∷ []) ≡ xs ++ cond (slot == s) (x ∷ []) [] = in_slot-append s slots (slot ∷ []) numbers (x ∷ []) same in
          let so : state_at column s ≡ state_of kind (before s ++ xs) = m.each before are s s_lt in
          elim (cases_eq s slot) [
            | inl e ↦
                ap (λ i. get_or (set column.states slot v) i unit) e ∙ get_or-set_same column.states slot v unit within
                ∙ ap (λ i. merged (state_at column i) (state_of column.kind (x ∷ []))) (sym e)
                ∙ (λ i. merged (so i) (state_of (m.kind_is i) (x ∷ [])))
                ∙ sym (states.of_both kind (before s ++ xs) (x ∷ []))
                ∙ ap (state_of kind) (append_assoc (before s) xs (x ∷ []))
                ∙ ap (λ (ys : List ℤ). state_of kind (before s ++ (xs ++ ys))) (sym (cond-true (slot == s) (x ∷ []) [] (eq-eqb slot s (sym e))))
                ∙ ap (λ (ys : List ℤ). state_of kind (before s ++ ys)) (sym both)
            | inr ne ↦
                get_or-set_other column.states slot s v unit ne ∙ so
                ∙ ap (λ (ys : List ℤ). state_of kind (before s ++ ys)) (sym (append-nil xs) ∙ ap (λ (ys : List ℤ). xs ++ ys) (sym (cond-false (slot == s) (x ∷ []) [] (ne_eqb slot s (λ e. ne (sym e))))) ∙ sym both)
          ];
    }

-- each number comes to the state in its slot
more-all : (done : List ℕ) (taken : List ℤ) (old column : Column) (slots : List ℕ) (numbers : List ℤ) → MoreStates done taken old column → length done ≡ length taken
    → AreBelow (length old.states) slots → length numbers ≡ length slots → MoreStates (done ++ slots) (taken ++ numbers) old (with_values slots numbers column)
more-all done taken old column [] [] m same below e =
    subst (λ (ss : List ℕ). MoreStates ss (taken ++ []) old column) (sym (append-nil done)) (subst (λ (ns : List ℤ). MoreStates done ns old column) (sym (append-nil taken)) m)
more-all done taken old column [] (x ∷ numbers) m same below e = absurd (omega (arith, e))
more-all done taken old column (s ∷ slots) [] m same below e = absurd (omega (arith, e))
more-all done taken old column (s ∷ slots) (x ∷ numbers) m same below e =
    let new : Column = replaced s column (merged (state_at column s) (state_of column.kind (x ∷ []))) in
    let next = more-next done taken old column s x m (All-head (λ i. i < length old.states) s slots below) same in
    let longer : length (done ++ s ∷ []) ≡ length (taken ++ x ∷ []) = omega (arith, length-append done (s ∷ []), length-append taken (x ∷ []), same) in
    let rest = more-all (done ++ s ∷ []) (taken ++ x ∷ []) old new slots numbers next longer (All-tail (λ i. i < length old.states) s slots below) (omega (arith, e)) in
    subst (λ (ss : List ℕ). MoreStates ss (taken ++ x ∷ numbers) old (with_values slots numbers new)) (append_assoc done (s ∷ []) slots)
    (subst (λ (ns : List ℤ). MoreStates ((done ++ s ∷ []) ++ slots) ns old (with_values slots numbers new)) (append_assoc taken (x ∷ []) numbers) rest)

none-more : (column : Column) → MoreStates [] [] column column
none-more column = record {
  kind_is = refl;
  count_is = refl;
  each = λ before are s lt. are s lt ∙ ap (state_of column.kind) (sym (append-nil (before s)));
}

pub all-more : (column : Column) (slots : List ℕ) (numbers : List ℤ) → AreBelow (length column.states) slots → length numbers ≡ length slots → MoreStates slots numbers column (with_values slots numbers column)
all-more column slots numbers below same = more-all [] [] column column slots numbers (none-more column) refl below same

-- ---- counts

counted-one : (b : Bool) (x : ℤ) (n : ℕ) (xs : List ℤ) → length xs ≡ n → length (cond b (x ∷ xs) xs) ≡ cond b 1 0 + n
counted-one true x n xs e = omega (arith, e)
counted-one false x n xs e = omega (arith, e)

-- as many numbers are in a slot as rows have it
pub in_slot-count : (slot : ℕ) (slots : List ℕ) (numbers : List ℤ) → length numbers ≡ length slots → length (in_slot slot slots numbers) ≡ count_by (λ s. s == slot) slots
in_slot-count slot [] numbers e = refl
in_slot-count slot (s ∷ slots) [] e = absurd (omega (arith, e))
in_slot-count slot (s ∷ slots) (x ∷ numbers) e =
    counted-one (s == slot) x (count_by (λ s. s == slot) slots) (in_slot slot slots numbers) (in_slot-count slot slots numbers (omega (arith, e)))
    ∙ sym (sum_by-cons (λ s. cond (s == slot) 1 0) s slots)

-- ---- sums

-- one number more
pub sum-next : (first old new : List ℤ) (slots : List ℕ) (numbers : List ℤ) (at : ℕ) (x : ℤ) → length slots ≡ length numbers → get_or new at (pos 0) ≡ get_or old at (pos 0) +ℤ x
    → ((other : ℕ) → other ≢ at → get_or new other (pos 0) ≡ get_or old other (pos 0)) → ((slot : ℕ) → get_or old slot (pos 0) ≡ get_or first slot (pos 0) +ℤ sum_of (in_slot slot slots numbers))
    → (slot : ℕ) → get_or new slot (pos 0) ≡ get_or first slot (pos 0) +ℤ sum_of (in_slot slot (slots ++ at ∷ []) (numbers ++ x ∷ []))
sum-next first old new slots numbers at x same own others so_far slot =
    let xs : List ℤ = in_slot slot slots numbers in
    let last : List ℤ = cond (at == slot) (x ∷ []) [] in
    let both : sum_of (in_slot slot (slots ++ at ∷ []) (numbers ++ x ∷ [])) ≡ sum_of xs +ℤ sum_of last = ap sum_of (in_slot-append slot slots (at ∷ []) numbers (x ∷ []) same) ∙ sums.of_both xs last in
    elim (cases_eq slot at) [
      | inl e ↦
          let one : sum_of last ≡ x = ap sum_of (cond-true (at == slot) (x ∷ []) [] (eq-eqb at slot (sym e))) ∙ omega (arith, ints) in
          let here : get_or new slot (pos 0) ≡ get_or old slot (pos 0) +ℤ x = ap (λ k. get_or new k (pos 0)) e ∙ own ∙ ap (λ k. get_or old k (pos 0) +ℤ x) (sym e) in
          omega (arith, ints, here, so_far slot, both, one)
      | inr ne ↦
          let none : sum_of last ≡ pos 0 = ap sum_of (cond-false (at == slot) (x ∷ []) [] (ne_eqb at slot (λ e. ne (sym e)))) in
          omega (arith, ints, others slot ne, so_far slot, both, none)
    ]

-- each sum fits one row more
pub sums-fit : (old new : List ℤ) (at n : ℕ) (x : ℤ) → IsWhole x → get_or new at (pos 0) ≡ get_or old at (pos 0) +ℤ x
    → ((other : ℕ) → other ≢ at → get_or new other (pos 0) ≡ get_or old other (pos 0)) → ((slot : ℕ) → slot < length old → SumFits (get_or old slot (pos 0)) n) → at < length old
    → (slot : ℕ) → slot < length old → SumFits (get_or new slot (pos 0)) (n + 1)
sums-fit old new at n x whole own others h lt slot s_lt =
    elim (cases_eq slot at) [
      | inl e ↦
          subst (λ (s : ℤ). SumFits s (n + 1)) (sym (ap (λ k. get_or new k (pos 0)) e ∙ own))
          (sums.fits_both (get_or old at (pos 0)) x n 1 (h at lt) (let w = whole in (omega (arith, ints), omega (arith, ints))))
      | inr ne ↦
          subst (λ (s : ℤ). SumFits s (n + 1)) (sym (others slot ne))
          (sums.fits_more (get_or old slot (pos 0)) n (n + 1) (h slot s_lt) (omega arith))
    ]
