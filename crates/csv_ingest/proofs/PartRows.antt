-- The rows of a part of a text, from its cells column by column.
use Rattle.std.proofs.Common.{◌≡◌, ◌≢◌, ◌∙◌, ◌<◌, ◌≤◌, ◌+◌, ◌-◌, ◌*◌, ◌++◌, ◌==◌, ◌⊎◌, inl, inr, ℕ, zero, suc, pos, List, [], ◌∷◌, length, set, get_or, Bool, false, true, Option, Some, None, Result, Ok, refl, sym, ap, subst, arith, append-nil, append_assoc, length-append, add-one}
use Rattle.std.proofs.lemmas.Bool.Decides.{nat_tests}
use Rattle.std.proofs.lemmas.List.{get_or-set_other, get_or-set_same, length-set}
use Rattle.std.proofs.Math.ListN.{get_or-append}
use Rattle.values.specs.Columns.{Listed, pushed}
use Rattle.values.specs.declared.value.Value.{Value}
use Rattle.values.specs.declared.value.Value.TheVariants.{Whole}
use Rattle.table_schema.specs.declared.field.Field.{Field}
use Rattle.csv_row.specs.Row.{cell_value}
use Rattle.csv_row.specs.declared.fault.CsvKind.{CsvKind}
use Rattle.csv_ingest.specs.Parts.{AddsPart, AddsValues, IsLineAt, IsPart, cell_at, cells_at, field_value, line_cells, mark_at}
use Rattle.csv_ingest.specs.declared.parts.Part.{Part}

-- ---- lines by their places

pub line-more : (r step : ℕ) → (r + 1) * step ≡ r * step + step
line-more r step = ap (λ k. k * step) (add-one r) ∙ (omega arith)

pub all-more : (P : ℕ → Type 0) (i : ℕ) → ((r : ℕ) → r < i → P r) → P i → (r : ℕ) → r < i + 1 → P r
all-more P i all one r lt = by (r == i) refl
  where
    by : (b : Bool) → (r == i) ≡ b → P r
    by true e = let same : i ≡ r = grind (arith, nat_tests) in subst P same one
    by false e = all r (grind (arith, nat_tests))

pub step-wide : (text marks : List ℕ) (width step at : ℕ) → IsLineAt text marks width step at → width ≤ step
step-wide text marks width step at l = by l.ends
  where
    by : ((step ≡ width) × (mark_at text marks (at + width) ≡ 10))
        ⊎ ((step ≡ width + 1) × (mark_at text marks (at + width) ≡ 13) × (mark_at text marks (at + step) ≡ 10) × (get_or marks (at + step) 0 ≡ get_or marks (at + width) 0 + 1)) → width ≤ step
    by (inl (is, feed)) = omega (arith, is)
    by (inr (is, cr, feed, next)) = omega (arith, is)

pub end-feed : (text marks : List ℕ) (width step at : ℕ) → IsLineAt text marks width step at → mark_at text marks (at + step) ≡ 10
end-feed text marks width step at l = by l.ends
  where
    by : ((step ≡ width) × (mark_at text marks (at + width) ≡ 10))
        ⊎ ((step ≡ width + 1) × (mark_at text marks (at + width) ≡ 13) × (mark_at text marks (at + step) ≡ 10) × (get_or marks (at + step) 0 ≡ get_or marks (at + width) 0 + 1)) → mark_at text marks (at + step) ≡ 10
    by (inl (is, feed)) = ap (λ k. mark_at text marks (at + k)) is ∙ feed
    by (inr (is, cr, feed, next)) = feed

-- the end of a line that is there
pub end-within : (part : Part) → IsPart part → (r : ℕ) → r < part.rows → (r + 1) * part.step < length part.places.now
end-within part is r lt = let l = is.lines r lt in omega (arith, l.within, line-more r part.step)

pub last-within : (part : Part) → IsPart part → 0 < part.rows → part.last < length part.places.now
last-within part is some =
    let r = part.rows - 1 in
    let all : r + 1 ≡ part.rows = omega (arith, some) in
    let e = end-within part is r (omega (arith, some)) in
    subst (λ k. k < length part.places.now) (ap (λ k. k * part.step) all ∙ sym is.last) e

-- a cell of a line that is there
pub cell-within : (part : Part) → IsPart part → (r at : ℕ) → r < part.rows → at < part.width → r * part.step + at + 1 < length part.places.now
cell-within part is r at lt below =
    let l = is.lines r lt in
    let wide = step-wide part.text.now part.places.now part.width part.step (r * part.step) l in
    omega (arith, l.within, wide, below)

pub cells-get : (text marks : List ℕ) (i n k : ℕ) → k < n → get_or (cells_at text marks i n) k [] ≡ cell_at text marks (i + k)
cells-get text marks i zero k lt = absurd (omega (arith, lt))
cells-get text marks i (suc n) zero lt = let same : i ≡ i + 0 = omega arith in ap (cell_at text marks) same
cells-get text marks i (suc n) (suc k) lt = let same : suc i + k ≡ i + suc k = omega arith in cells-get text marks (suc i) n k (omega (arith, lt)) ∙ ap (cell_at text marks) same

pub cells-count : (text marks : List ℕ) (i n : ℕ) → length (cells_at text marks i n) ≡ n
cells-count text marks i zero = refl
cells-count text marks i (suc n) = ap suc (cells-count text marks (suc i) n)

-- the value of a field that has a place
pub field-at : (part : Part) (field : Field) (place : Option ℕ) (at r : ℕ) → place ≡ Some at → at - 1 < part.width
    → field_value field place (line_cells part r) ≡ cell_value field (cell_at part.text.now part.places.now (r * part.step + (at - 1)))
field-at part field place at r is lt =
    ap (λ p. field_value field p (line_cells part r)) is
    ∙ ap (cell_value field) (cells-get part.text.now part.places.now (r * part.step) part.width (at - 1) lt)

-- ---- one column

module _ (given : ℕ → Result Value CsvKind) where
  pub adds-none : (old : Listed) → AddsValues given 0 old old
  adds-none old = record { values = []; count = refl; each = λ r lt. absurd (omega (arith, lt)); new_is = ap (λ vs. record { are_texts = old.are_texts; values = vs }) (sym (append-nil old.values)) }

  pub adds-more : (rows : ℕ) (old mid new : Listed) (v : Value) → AddsValues given rows old mid → given rows ≡ Ok v → new ≡ pushed mid v → AddsValues given (rows + 1) old new
  adds-more rows old mid new v a is new_is = record {
    values = a.values ++ v ∷ [];
    count = length-append a.values (v ∷ []) ∙ ap (λ n. n + 1) a.count;
    each = λ r lt. each r lt (r == rows) refl;
    new_is = new_is ∙ ap (λ c. pushed c v) a.new_is ∙ ap (λ vs. record { are_texts = old.are_texts; values = vs }) (append_assoc old.values a.values (v ∷ []));
  }
    where
      zero_value : Value
      zero_value = Whole (pos 0)

      each : (r : ℕ) → r < rows + 1 → (b : Bool) → (r == rows) ≡ b → given r ≡ Ok (get_or (a.values ++ v ∷ []) r zero_value)
      each r lt true e =
          let same : r ≡ rows = grind (arith, nat_tests) in
          let there : r ≡ length a.values + 0 = omega (arith, same, a.count) in
          ap given same ∙ is ∙ ap Ok (sym (ap (λ k. get_or (a.values ++ v ∷ []) k zero_value) (same ∙ sym a.count) ∙ last a.values))
        where
          last : (vs : List Value) → get_or (vs ++ v ∷ []) (length vs) zero_value ≡ v
          last [] = refl
          last (x ∷ xs) = last xs
      each r lt false e =
          let less : r < rows = grind (arith, nat_tests) in
          a.each r less ∙ ap Ok (sym (get_or-append a.values (v ∷ []) zero_value r (omega (arith, less, a.count))))

pub adds-given : (given other : ℕ → Result Value CsvKind) (rows : ℕ) (old new : Listed) → ((r : ℕ) → r < rows → other r ≡ given r) → AddsValues given rows old new → AddsValues other rows old new
adds-given given other rows old new same a = record { values = a.values; count = a.count; each = λ r lt. same r lt ∙ a.each r lt; new_is = a.new_is }

-- ---- all columns

-- the values of a field, whose place is in the list
abbrev AddsAt : Part → List (Option ℕ) → Field → ℕ → Listed → Listed → Type 0
AddsAt part places f k old new = AddsValues (λ r. field_value f (get_or places k None) (line_cells part r)) part.rows old new

-- the values of the fields before a place were added
pub record AddsSome (part : Part) (fields : List Field) (places : List (Option ℕ)) (old new : List Listed) (i : ℕ) : Type 0 where
  pub width : length new ≡ length old
  pub each : (k : ℕ) (d : Listed) (f : Field) → k < i → k < length old → AddsValues (λ r. field_value (get_or fields k f) (get_or places k None) (line_cells part r)) part.rows (get_or old k d) (get_or new k d)
  pub rest : (k : ℕ) (d : Listed) → i ≤ k → get_or new k d ≡ get_or old k d

pub some-none : (part : Part) (fields : List Field) (places : List (Option ℕ)) (old : List Listed) → AddsSome part fields places old old 0
some-none part fields places old = record { width = refl; each = λ k d f lt below. absurd (omega (arith, lt)); rest = λ k d le. refl }

pub some-more : (part : Part) (fields : List Field) (places : List (Option ℕ)) (old mid : List Listed) (i : ℕ) (c c' : Listed) (field : Field) → AddsSome part fields places old mid i → i < length old → i < length fields
    → c ≡ get_or mid i c → field ≡ get_or fields i field
    → AddsValues (λ r. field_value field (get_or places i None) (line_cells part r)) part.rows c c' → AddsSome part fields places old (set mid i c') (i + 1)
some-more part fields places old mid i c c' field a below lt c_is f_is added = record {
  width = length-set mid i c' ∙ a.width;
  each = λ k d f k_lt k_below. each k d f k_lt k_below (k == i) refl;
  rest = λ k d le. let apart : k ≢ i = λ e. omega (arith, e, le) in get_or-set_other mid i k c' d apart ∙ a.rest k d (omega (arith, le));
}
  where
    here : (d : Listed) (f : Field) → AddsAt part places (get_or fields i f) i (get_or old i d) (get_or (set mid i c') i d)
    here d f =
        let old_is : c ≡ get_or old i d = c_is ∙ get-any mid i c d (omega (arith, below, a.width)) ∙ a.rest i d (omega arith) in
        let new_is : c' ≡ get_or (set mid i c') i d = sym (get_or-set_same mid i c' d (omega (arith, below, a.width))) in
        let field_is : field ≡ get_or fields i f = f_is ∙ get-any fields i field f lt in
        subst (λ g. AddsAt part places g i (get_or old i d) (get_or (set mid i c') i d)) field_is (subst (λ n. AddsAt part places field i (get_or old i d) n) new_is (subst (λ o. AddsAt part places field i o c') old_is added))
      where
        get-any : {A : Type 0} (xs : List A) (k : ℕ) (x y : A) → k < length xs → get_or xs k x ≡ get_or xs k y
        get-any [] k x y k_lt = absurd (omega (arith, k_lt))
        get-any (z ∷ zs) zero x y k_lt = refl
        get-any (z ∷ zs) (suc k) x y k_lt = get-any zs k x y (omega (arith, k_lt))

    each : (k : ℕ) (d : Listed) (f : Field) → k < i + 1 → k < length old → (b : Bool) → (k == i) ≡ b → AddsAt part places (get_or fields k f) k (get_or old k d) (get_or (set mid i c') k d)
    each k d f k_lt k_below true e =
        let same : i ≡ k = grind (arith, nat_tests) in
        subst (λ j. AddsAt part places (get_or fields j f) j (get_or old j d) (get_or (set mid i c') j d)) same (here d f)
    each k d f k_lt k_below false e =
        let less : k < i = grind (arith, nat_tests) in
        let apart : k ≢ i = λ s. omega (arith, s, less) in
        subst (λ n. AddsAt part places (get_or fields k f) k (get_or old k d) n) (sym (get_or-set_other mid i k c' d apart)) (a.each k d f less k_below)

pub some-all : (part : Part) (fields : List Field) (places : List (Option ℕ)) (old new : List Listed) (i : ℕ) → length old ≤ i → AddsSome part fields places old new i → AddsPart part fields places old new
some-all part fields places old new i all a = record { width = a.width; each = λ k d f lt. a.each k d f (omega (arith, lt, all)) lt }
