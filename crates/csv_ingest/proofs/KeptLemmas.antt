-- Columns of which some are kept.
use Rattle.std.proofs.Common.{◌≡◌, ◌≢◌, ◌∙◌, ◌<◌, ◌≤◌, ◌+◌, ◌-◌, ◌*◌, ◌++◌, ◌==◌, ◌⊎◌, inl, inr, ℕ, zero, suc, pos, ℤ, List, [], ◌∷◌, length, set, get_or, Bool, true, false, nat_lt, Option, Some, None, Result, Ok, IfSome, refl, sym, ap, subst, arith, append-nil, append_assoc, length-append}
use Rattle.std.proofs.lemmas.Bool.Decides.{nat_tests}
use Rattle.std.proofs.lemmas.List.{get_or-set_other, get_or-set_same, length-set}
use Rattle.data_types.specs.Numbers.{whole_of}
use Rattle.data_types.specs.declared.kind.FieldKind.TheVariants.{Long, Text}
use Rattle.values.specs.Columns.{Listed, pushed}
use Rattle.values.specs.declared.value.Value.{Value}
use Rattle.values.specs.declared.value.Value.TheVariants.{Whole}
use Rattle.table_schema.specs.declared.field.Field.{Field}
use Rattle.csv_row.specs.Row.{cell_value}
use Rattle.csv_row.specs.declared.fault.CsvKind.{CsvKind}
use Rattle.csv_ingest.specs.Parts.{AddsValues, IsPart, cell_at, field_value, line_cells}
use Rattle.csv_ingest.specs.Kept.{Grown, KeepsPart, KeepsValues}
use Rattle.csv_ingest.specs.Plain.{HasPlainCells}
use Rattle.csv_ingest.specs.declared.parts.Part.{Part}
use Rattle.csv_ingest.proofs.DigitLemmas.{number-value}
use Rattle.csv_ingest.proofs.PartRows.{AddsSome, field-at, some-more, some-none}
use Rattle.csv_ingest.proofs.PlainLemmas.{plain-cell}

-- ---- one column

adds-grown : (given : ℕ → Result Value CsvKind) (rows : ℕ) (old new : Listed) → AddsValues given rows old new → Grown rows old new
adds-grown given rows old new a = record { values = a.values; count = a.count; new_is = a.new_is }

-- a column that is read
pub all-kept : (keep : Bool) (given : ℕ → Result Value CsvKind) (rows : ℕ) (old new : Listed) → AddsValues given rows old new → KeepsValues keep given rows old new
all-kept keep given rows old new a = record { read = new; adds = a; kept = λ _. refl; grown = adds-grown given rows old new a }

-- values that are there, row by row, are a list
gathered : (given : ℕ → Result Value CsvKind) (rows : ℕ) → ((r : ℕ) → r < rows → (v : Value) × (given r ≡ Ok v)) → (values : List Value) × (length values ≡ rows) × ((r : ℕ) → r < rows → given r ≡ Ok (get_or values r (Whole (pos 0))))
gathered given zero each = ([], refl, λ r lt. absurd (omega (arith, lt)))
gathered given (suc n) each =
    let first = each 0 (omega arith) in
    let (values, count, is) = gathered (λ r. given (suc r)) n (λ r lt. each (suc r) (omega (arith, lt))) in
    (first.0 ∷ values, ap suc count, at first.0 first.1 values is)
  where
    at : (v : Value) → given 0 ≡ Ok v → (values : List Value) → ((r : ℕ) → r < n → given (suc r) ≡ Ok (get_or values r (Whole (pos 0)))) → (r : ℕ) → r < suc n → given r ≡ Ok (get_or (v ∷ values) r (Whole (pos 0)))
    at v one values is zero lt = one
    at v one values is (suc r) lt = is r (omega (arith, lt))

-- a column that is passed over
pub passed-over : (keep : Bool) (given : ℕ → Result Value CsvKind) (rows : ℕ) (old new : Listed) → keep ≡ false → ((r : ℕ) → r < rows → (v : Value) × (given r ≡ Ok v)) → Grown rows old new → KeepsValues keep given rows old new
passed-over keep given rows old new not each grown =
    let (values, count, is) = gathered given rows each in
    record {
      read = record { are_texts = old.are_texts; values = old.values ++ values };
      adds = record { values = values; count = count; each = is; new_is = refl };
      kept = λ e. absurd cc;
      grown = grown;
    }

-- each cell of a field of plain lines has a value
pub plain-field : (part : Part) → IsPart part → HasPlainCells part → (field : Field) → field.kind ≡ Long → (place : Option ℕ) → IfSome place (λ n. 1 ≤ n) → IfSome place (λ n. n ≤ part.width)
    → (r : ℕ) → r < part.rows → (v : Value) × (field_value field place (line_cells part r) ≡ Ok v)
plain-field part is plain field kind None first within r lt = (field.default, refl)
plain-field part is plain field kind (Some at) first within r lt =
    by (plain-cell part is plain r (at - 1) lt (omega (arith, first, within)))
  where
    cell : List ℕ
    cell = cell_at part.text.now part.places.now (r * part.step + (at - 1))

    there : field_value field (Some at) (line_cells part r) ≡ cell_value field cell
    there = field-at part field (Some at) at r refl (omega (arith, first, within))

    number : field.kind ≡ Text → ⊥
    number text = let no : Long ≡ Text = sym kind ∙ text in absurd cc

    by : (cell ≡ []) ⊎ ((n : ℤ) × (whole_of Long cell ≡ Ok n)) → (v : Value) × (field_value field (Some at) (line_cells part r) ≡ Ok v)
    by (inl none) = (field.default, there ∙ ap (cell_value field) none)
    by (inr (n, is_number)) = (Whole n, there ∙ (number-value field cell number n (ap (λ k. whole_of k cell) kind ∙ is_number)).1)

-- so many zeros
pub zeros-none : (old : Listed) → Grown 0 old old
zeros-none old = record { values = []; count = refl; new_is = ap (λ vs. record { are_texts = old.are_texts; values = vs }) (sym (append-nil old.values)) }

pub zeros-more : (rows : ℕ) (old mid new : Listed) (added : List Value) → Grown rows old mid → old.are_texts ≡ false → new ≡ record { are_texts = false; values = mid.values ++ added } → Grown (rows + length added) old new
zeros-more rows old mid new added g sort is = record {
  values = g.values ++ added;
  count = length-append g.values added ∙ ap (λ n. n + length added) g.count;
  new_is = is ∙ ap (λ t. record { are_texts = t; values = mid.values ++ added }) (sym sort) ∙ ap (λ c. record { are_texts = old.are_texts; values = c.values ++ added }) g.new_is ∙ ap (λ vs. record { are_texts = old.are_texts; values = vs }) (append_assoc old.values g.values added);
}

-- a step of a loop that adds them
pub zeros-step : (rows left count done : ℕ) (old mid new : Listed) (added : List Value) → done + left ≡ rows → count ≤ left → length added ≡ count → old.are_texts ≡ false → Grown done old mid → new ≡ record { are_texts = false; values = mid.values ++ added } → (x : ℕ) × (x + (left - count) ≡ rows) × Grown x old new
zeros-step rows left count done old mid new added all within many sort g is = (done + length added, omega (arith, all, within, many), zeros-more done old mid new added g sort is)

-- ---- all columns

get-any : {A : Type 0} (xs : List A) (k : ℕ) (x y : A) → k < length xs → get_or xs k x ≡ get_or xs k y
get-any [] k x y lt = absurd (omega (arith, lt))
get-any (z ∷ zs) zero x y lt = refl
get-any (z ∷ zs) (suc k) x y lt = get-any zs k x y (omega (arith, lt))

-- a column of those before a place
pub record KeepsOne (keep : Bool) (rows : ℕ) (old read new : Listed) : Type 0 where
  pub kept : keep ≡ true → new ≡ read
  pub grown : Grown rows old new
  pub count : length new.values ≡ length read.values

-- both columns have as many values more
both-grown : (given : ℕ → Result Value CsvKind) (rows : ℕ) (old read new : Listed) → AddsValues given rows old read → Grown rows old new → length new.values ≡ length read.values
both-grown given rows old read new a g =
    ap (λ c. length c.values) g.new_is ∙ length-append old.values g.values
    ∙ ap (λ n. length old.values + n) (g.count ∙ sym a.count)
    ∙ sym (ap (λ c. length c.values) a.new_is ∙ length-append old.values a.values)

-- the values of the fields before a place
pub record KeepsSome (kept : List Bool) (part : Part) (fields : List Field) (places : List (Option ℕ)) (old new : List Listed) (i : ℕ) : Type 0 where
  pub read : List Listed
  pub adds : AddsSome part fields places old read i
  pub width : length new ≡ length old
  pub each : (k : ℕ) (d : Listed) → k < i → k < length old → KeepsOne (get_or kept k true) part.rows (get_or old k d) (get_or read k d) (get_or new k d)
  pub rest : (k : ℕ) (d : Listed) → i ≤ k → get_or new k d ≡ get_or old k d

module _ (kept : List Bool) (part : Part) (fields : List Field) (places : List (Option ℕ)) where
  pub keeps-none : (old : List Listed) → KeepsSome kept part fields places old old 0
  keeps-none old = record { read = old; adds = some-none part fields places old; width = refl; each = λ k d lt below. absurd (omega (arith, lt)); rest = λ k d le. refl }

  pub keeps-more : (old mid : List Listed) (i : ℕ) (c c' : Listed) (field : Field) → KeepsSome kept part fields places old mid i → i < length old → i < length fields
      → c ≡ get_or mid i c → field ≡ get_or fields i field
      → KeepsValues (get_or kept i true) (λ r. field_value field (get_or places i None) (line_cells part r)) part.rows c c' → KeepsSome kept part fields places old (set mid i c') (i + 1)
  keeps-more old mid i c c' field s below lt c_is f_is v = record {
    read = set s.read i v.read;
    adds = some-more part fields places old s.read i c v.read field s.adds below lt (c_is ∙ s.rest i c (omega arith) ∙ sym (s.adds.rest i c (omega arith))) f_is v.adds;
    width = length-set mid i c' ∙ s.width;
    each = λ k d k_lt k_below. each k d k_lt k_below (k == i) refl;
    rest = λ k d le. let apart : k ≢ i = λ e. omega (arith, e, le) in get_or-set_other mid i k c' d apart ∙ s.rest k d (omega (arith, le));
  }
    where
      here : (d : Listed) → KeepsOne (get_or kept i true) part.rows (get_or old i d) (get_or (set s.read i v.read) i d) (get_or (set mid i c') i d)
      here d =
          let old_is : c ≡ get_or old i d = c_is ∙ get-any mid i c d (omega (arith, below, s.width)) ∙ s.rest i d (omega arith) in
          let new_is : get_or (set mid i c') i d ≡ c' = get_or-set_same mid i c' d (omega (arith, below, s.width)) in
          let read_is : get_or (set s.read i v.read) i d ≡ v.read = get_or-set_same s.read i v.read d (omega (arith, below, s.adds.width)) in
          record {
            kept = λ keep. new_is ∙ v.kept keep ∙ sym read_is;
            grown = subst (λ n. Grown part.rows (get_or old i d) n) (sym new_is) (subst (λ o. Grown part.rows o c') old_is v.grown);
            count = ap (λ n. length n.values) new_is ∙ both-grown _ part.rows c v.read c' v.adds v.grown ∙ sym (ap (λ n. length n.values) read_is);
          }

      each : (k : ℕ) (d : Listed) → k < i + 1 → k < length old → (b : Bool) → (k == i) ≡ b → KeepsOne (get_or kept k true) part.rows (get_or old k d) (get_or (set s.read i v.read) k d) (get_or (set mid i c') k d)
      each k d k_lt k_below true e =
          let same : i ≡ k = grind (arith, nat_tests) in
          subst (λ j. KeepsOne (get_or kept j true) part.rows (get_or old j d) (get_or (set s.read i v.read) j d) (get_or (set mid i c') j d)) same (here d)
      each k d k_lt k_below false e =
          let less : k < i = grind (arith, nat_tests) in
          let apart : k ≢ i = λ s. omega (arith, s, less) in
          let old_one = s.each k d less k_below in
          record {
            kept = λ keep. get_or-set_other mid i k c' d apart ∙ old_one.kept keep ∙ sym (get_or-set_other s.read i k v.read d apart);
            grown = subst (λ n. Grown part.rows (get_or old k d) n) (sym (get_or-set_other mid i k c' d apart)) old_one.grown;
            count = ap (λ n. length n.values) (get_or-set_other mid i k c' d apart) ∙ old_one.count ∙ sym (ap (λ n. length n.values) (get_or-set_other s.read i k v.read d apart));
          }

  pub keeps-all : (old new : List Listed) (i : ℕ) → length old ≤ i → KeepsSome kept part fields places old new i → KeepsPart kept part fields places old new
  keeps-all old new i all s = record {
    read = s.read;
    adds = record { width = s.adds.width; each = λ k d f lt. s.adds.each k d f (omega (arith, lt, all)) lt };
    same = record { width = s.width ∙ sym s.adds.width; each = λ k d keep. at k d keep; counts = λ k d. long k d };
    grown = λ k d lt. (s.each k d (omega (arith, lt, all)) lt).grown;
  }
    where
      beyond : {A : Type 0} (xs : List A) (k : ℕ) (d : A) → length xs ≤ k → get_or xs k d ≡ d
      beyond [] k d le = refl
      beyond (x ∷ xs) zero d le = absurd (omega (arith, le))
      beyond (x ∷ xs) (suc k) d le = beyond xs k d (omega (arith, le))

      at : (k : ℕ) (d : Listed) → get_or kept k true ≡ true → get_or new k d ≡ get_or s.read k d
      at k d keep = by (nat_lt k (length old)) refl
        where
          by : (b : Bool) → nat_lt k (length old) ≡ b → get_or new k d ≡ get_or s.read k d
          by true e = let lt : k < length old = grind (arith, nat_tests) in (s.each k d (omega (arith, lt, all)) lt).kept keep
          by false e =
              let le : length old ≤ k = grind (arith, nat_tests) in
              beyond new k d (omega (arith, le, s.width)) ∙ sym (beyond s.read k d (omega (arith, le, s.adds.width)))

      long : (k : ℕ) (d : Listed) → length (get_or new k d).values ≡ length (get_or s.read k d).values
      long k d = by (nat_lt k (length old)) refl
        where
          by : (b : Bool) → nat_lt k (length old) ≡ b → length (get_or new k d).values ≡ length (get_or s.read k d).values
          by true e = let lt : k < length old = grind (arith, nat_tests) in (s.each k d (omega (arith, lt, all)) lt).count
          by false e =
              let le : length old ≤ k = grind (arith, nat_tests) in
              ap (λ c. length c.values) (beyond new k d (omega (arith, le, s.width)) ∙ sym (beyond s.read k d (omega (arith, le, s.adds.width))))
