-- The tests of HAVING, by the form of the condition.
use Rattle.std.proofs.Common.{◌≡◌, ◌∙◌, ℕ, ℤ, ◌<◌, nat_lt, Bool, true, List, length, map, sym, ap, rules, tests}
use Rattle.values.specs.declared.value.Value.{Value}
use Rattle.values.specs.declared.test.CompareOp.{CompareOp}
use Rattle.table_schema.specs.declared.query.Having.{Having}
use Rattle.table_schema.specs.declared.query.Having.TheVariants as asked
use Rattle.table_schema.specs.declared.query.Having.TheOpen.{Having-F}
use Rattle.table_schema.specs.declared.query.Having.TheFolds.{fold-roll-Having}
use Rattle.table_schema.specs.ValidQuery as valid
use Rattle.group_table.specs.Kept.{KeptGroups}
use Rattle.broker_merge.specs.Having.{are_tests}

below_so : (n m : ℕ) → nat_lt n m ≡ true → n < m
below_so n m e = search (rules, tests)

module _ (t : KeptGroups) (h : Having) where
  abbrev step : Having-F Bool → Bool
  step = valid.having_step (λ place value. nat_lt place t.columns) (λ place. nat_lt place (length t.kinds))

  pub column_of : (place : ℕ) (op : CompareOp) (v : Value) → h ≡ asked.Group place op v → are_tests t h ≡ true → place < t.columns
  column_of place op v is own = below_so place t.columns
      (sym (ap (are_tests t) (sym (asked.rolls-Group place op v)) ∙ fold-roll-Having Bool step (Having-F.Group place op v)) ∙ ap (are_tests t) (sym is) ∙ own)

  pub agg_of : (place : ℕ) (op : CompareOp) (n : ℤ) → h ≡ asked.Agg place op n → are_tests t h ≡ true → place < length t.kinds
  agg_of place op n is own = below_so place (length t.kinds)
      (sym (ap (are_tests t) (sym (asked.rolls-Agg place op n)) ∙ fold-roll-Having Bool step (Having-F.Agg place op n)) ∙ ap (are_tests t) (sym is) ∙ own)
