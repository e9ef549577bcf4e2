-- The ids that a key is packed from.
use Rattle.std.proofs.Common.{◌≡◌, ◌≢◌, ◌∙◌, ◌<◌, ◌≤◌, ◌+◌, ◌*◌, ◌/◌, ◌%◌, ℕ, Option, Some, None, List, length, get_or, take, ap, sym, subst, arith, inl, inr}
use Rattle.std.proofs.lemmas.Bool.{cases_eq}
use Rattle.std.proofs.lemmas.Nat.{div-mul-add, mod-mul-add}
use Rattle.coded_columns.specs.declared.coded.Coded.{Coded}
use Rattle.coded_columns.specs.declared.coded.SegmentColumns.{SegmentColumns}
use Rattle.coded_columns.specs.Coded.{column_of}
use Rattle.coded_columns.specs.IdColumns.{HasIds}
use Rattle.coded_columns.specs.Keys.{AreIdsAt, IsIdAt, key_at, packed_with}
use Rattle.coded_columns.proofs.KeySteps.{key-next}

-- a key of one column is the id
id-alone : (column : Option Coded) (row key : ℕ) → packed_with column 0 row ≡ key → IsIdAt column row key
id-alone None row key e = tt
id-alone (Some column) row key e = omega (arith, e)

-- the last id of a key is what is left after a division, and the key without it the quotient
pub last-id : (count : ℕ) (column : Coded) (row before key : ℕ) → HasIds count column → row < count → before * length column.dictionary.now.values + get_or column.ids.now row 0 ≡ key
    → (key % length column.dictionary.now.values ≡ get_or column.ids.now row 0) × (key / length column.dictionary.now.values ≡ before)
last-id count column row before key has lt e =
    let width : ℕ = length column.dictionary.now.values in
    let id : ℕ = get_or column.ids.now row 0 in
    let id_lt : id < width = has.below row 0 (omega (arith, lt, has.count)) in
    (ap (λ k. k % width) (sym e) ∙ mod-mul-add before width id id_lt, ap (λ k. k / width) (sym e) ∙ div-mul-add before width id id_lt)

-- a column that has an id for a row has a value
pub some-value : (count : ℕ) (column : Coded) → HasIds count column → 0 < count → 0 < length column.dictionary.now.values
some-value count column has some = omega (arith, has.below 0 0 (omega (arith, some, has.count)))

module _ (segment : SegmentColumns) (groups : List ℕ) (row : ℕ) where
  abbrev pub HasId : List ℕ → ℕ → Type 0
  HasId ids i = IsIdAt (column_of segment (get_or groups i 0)) row (get_or ids i 0)

  -- the key by some of the columns is that by one less, with an id more
  pub key-last : (left i rest : ℕ) → left ≡ i + 1 → left ≤ length groups → key_at segment (take left groups) row ≡ rest
      → packed_with (column_of segment (get_or groups i 0)) (key_at segment (take i groups) row) row ≡ rest
  key-last left i rest next le e =
      sym (key-next segment groups i row (omega (arith, next, le))) ∙ ap (λ n. key_at segment (take n groups) row) (sym next) ∙ e

  -- one id more is put, before the others
  pub id-put : (left i : ℕ) (old new : List ℕ) → left ≡ i + 1 → HasId new i → ((j : ℕ) → j ≢ i → get_or new j 0 ≡ get_or old j 0)
      → ((j : ℕ) → left ≤ j → j < length groups → HasId old j) → (j : ℕ) → i ≤ j → j < length groups → HasId new j
  id-put left i old new next own others puts j le lt =
      elim (cases_eq j i) [
        | inl e ↦ subst (HasId new) (sym e) own
        | inr ne ↦
            subst (IsIdAt (column_of segment (get_or groups j 0)) row) (sym (others j ne)) (puts j (omega (arith, next, le, ne)) lt)
      ]

  -- the first id is the key by the first column
  pub id-first : (left rest : ℕ) (old new : List ℕ) → left ≡ 1 → left ≤ length groups → key_at segment (take left groups) row ≡ rest → get_or new 0 0 ≡ rest
      → ((j : ℕ) → j ≢ 0 → get_or new j 0 ≡ get_or old j 0) → ((j : ℕ) → left ≤ j → j < length groups → HasId old j)
      → length new ≡ length groups → AreIdsAt segment groups row new
  id-first left rest old new one le e own others puts same =
      let column : Option Coded = column_of segment (get_or groups 0 0) in
      let first : IsIdAt column row rest = id-alone column row rest (key-last left 0 rest one le e) in
      record {
        count = same;
        each = λ j lt. id-put left 0 old new one (subst (IsIdAt column row) (sym own) first) others puts j (omega arith) lt;
      }
