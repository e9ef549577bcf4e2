-- No row satisfies the query where no value of some column satisfies the conjuncts on it.
use Rattle.std.proofs.Common.{◌≡◌, ◌∙◌, ◌==◌, ℕ, Bool, true, false, not, ◌&&◌, ◌||◌, cond, List, [], ◌∷◌, ◌++◌, length, append_assoc, refl, sym, ap, subst, arith}
use Rattle.std.proofs.lemmas.Bool.{eqb-true, false≢true}
use Rattle.std.specs.List.{filter, list_all, list_any}
use Rattle.values.specs.declared.value.Value.{Value}
use Rattle.values.specs.Order.{value_eq}
use Rattle.values.specs.Tests.{holds, is_member}
use Rattle.values.proofs.Bounds.{same_value}
use Rattle.table_schema.specs.declared.query.Conjunct.{Conjunct}
use Rattle.table_schema.specs.declared.query.Conjunct.TheVariants.{One, Many}
use Rattle.table_schema.specs.declared.table.Table.{Table}
use Rattle.table_schema.specs.Conditions.{all_hold, cell, conjunct_holds}
use Rattle.value_ids.specs.Dictionary.{distinct}
use Rattle.value_ids.proofs.DistinctLemmas.{distinct_members}
use Rattle.segment_head.specs.Heads.{IsLoaded, Seen}
use Rattle.segment_file.specs.Image.{values_in}
use Rattle.segment_file.specs.Ordered.{value_in}
use Rattle.segment_file.specs.Parts.{columns_of}
use Rattle.segment_plan.specs.Laws.{EmptyHasNone, NoneHolds, TellsOf}
use Rattle.segment_plan.specs.Matched.{is_filtered, matched, passes, values_of}
use Rattle.segment_plan.specs.Matched as head
use Rattle.segment_plan.specs.Plan.{leaves_none}
use Rattle.segment_plan.proofs.Pruned.{member_more}

both : (a b : Bool) → a && b ≡ true → (a ≡ true) × (b ≡ true)
both true b e = (refl, e)
both false b e = absurd (false≢true e)

-- ---- a value of which a test holds is counted

none_counted : (p : Value → Bool) (values : List Value) (v : Value) → length (filter p values) ≡ 0 → is_member values v ≡ true → p v ≡ false
none_counted p [] v none there = absurd (false≢true there)
none_counted p (w ∷ ws) v none there = go (none_counted p ws v) (p w) refl (value_eq v w) refl none there
  where
    go : (length (filter p ws) ≡ 0 → is_member ws v ≡ true → p v ≡ false) → (b : Bool) → p w ≡ b → (s : Bool) → value_eq v w ≡ s → length (cond b (w ∷ filter p ws) (filter p ws)) ≡ 0 → s || is_member ws v ≡ true → p v ≡ false
    go later true is s same none there = absurd (omega (arith, none))
    go later false is true same none there = ap p (same_value v w same) ∙ is
    go later false is false same none there = later none there

-- ---- a row that satisfies all conjuncts passes in each column

passes_so : (row : List Value) (column : ℕ) (conjunct : Conjunct) → conjunct_holds row conjunct ≡ true → passes column (value_in column row) conjunct ≡ true
passes_so row column (Many condition) e = refl
passes_so row column (One named condition) e = go (named == column) refl
  where
    go : (b : Bool) → (named == column) ≡ b → not b || holds (value_in column row) condition ≡ true
    go false apart = refl
    go true same = let is : named ≡ column = eqb-true named column same in subst (λ c. holds (cell row c) condition ≡ true) is e

all_pass : (row : List Value) (column : ℕ) (conjuncts : List Conjunct) → all_hold row conjuncts ≡ true → list_all (passes column (value_in column row)) conjuncts ≡ true
all_pass row column [] e = refl
all_pass row column (conjunct ∷ conjuncts) e =
    let parts = both (conjunct_holds row conjunct) (all_hold row conjuncts) e in
    (λ i. passes_so row column conjunct parts.0 i && all_pass row column conjuncts parts.1 i)

fails_so : (row : List Value) (column : ℕ) (conjuncts : List Conjunct) → list_all (passes column (value_in column row)) conjuncts ≡ false → all_hold row conjuncts ≡ false
fails_so row column conjuncts fails = go (all_hold row conjuncts) refl
  where
    go : (b : Bool) → all_hold row conjuncts ≡ b → b ≡ false
    go false is = refl
    go true is = absurd (false≢true (sym fails ∙ all_pass row column conjuncts is))

-- ---- each row, by a column that is left without a value

each_fails : (column : ℕ) (conjuncts : List Conjunct) (all before rows : List (List Value)) → matched conjuncts column (distinct (values_in column all)) ≡ 0 → all ≡ before ++ rows → NoneHolds conjuncts rows
each_fails column conjuncts all before [] none is = tt
each_fails column conjuncts all before (row ∷ rows) none is =
    let v : Value = value_in column row in
    let there : is_member (distinct (values_in column all)) v ≡ true = distinct_members v (values_in column all) ∙ ap (λ x. is_member (values_in column x) v) is ∙ member_more column before rows row in (
      fails_so row column conjuncts (none_counted (λ value. list_all (passes column value) conjuncts) (distinct (values_in column all)) v none there),
      each_fails column conjuncts all (before ++ row ∷ []) rows none (is ∙ sym (append_assoc before (row ∷ []) rows)),
    )

module _ (conjuncts : List Conjunct) (table : Table) (rows : List (List Value)) (seen : Seen) (tells : TellsOf table rows seen) (loaded : (column : ℕ) → is_filtered conjuncts column ≡ true → IsLoaded seen column) where
  column_fails : (column : ℕ) → leaves_none conjuncts seen column ≡ true → NoneHolds conjuncts rows
  column_fails column e =
      let parts = both (is_filtered conjuncts column) (matched conjuncts column (head.values_in seen column) == 0) e in
      let d = loaded column parts.0 in
      let values : head.values_in seen column ≡ distinct (values_in column rows) = ap values_of d.1 ∙ ap (λ x. x.values) (tells.dictionaries_are column d.0 d.1) in
      each_fails column conjuncts rows [] rows (ap (matched conjuncts column) (sym values) ∙ eqb-true (matched conjuncts column (head.values_in seen column)) 0 parts.1) refl

  some_fails : (columns : List ℕ) → list_any (leaves_none conjuncts seen) columns ≡ true → NoneHolds conjuncts rows
  some_fails [] e = absurd (false≢true e)
  some_fails (column ∷ columns) e = go (some_fails columns) (leaves_none conjuncts seen column) refl e
    where
      go : (list_any (leaves_none conjuncts seen) columns ≡ true → NoneHolds conjuncts rows) → (b : Bool) → leaves_none conjuncts seen column ≡ b → b || list_any (leaves_none conjuncts seen) columns ≡ true → NoneHolds conjuncts rows
      go later true is e = column_fails column is
      go later false is e = later e

pub empty_has_none : EmptyHasNone
empty_has_none conjuncts table rows seen tells loaded emptied = some_fails conjuncts table rows seen tells loaded (columns_of table) emptied
