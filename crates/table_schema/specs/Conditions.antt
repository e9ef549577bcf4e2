-- Which rows satisfy a condition.
use Rattle.std.specs.Prelude.{ℕ, pos, Bool, List, slice_index_or}
use Rattle.std.specs.List.{list_all}
use Rattle.values.specs.declared.value.Value.{Value}
use Rattle.values.specs.declared.value.Value.TheVariants.{Whole}
use Rattle.values.specs.Tests.{holds, all_true, any_true}
use Rattle.table_schema.specs.declared.query.Conjunct.{Conjunct}
use Rattle.table_schema.specs.declared.query.Conjunct.TheVariants.{One, Many}
use Rattle.table_schema.specs.declared.query.Wide.{Wide}
use Rattle.table_schema.specs.declared.query.Wide.TheOpen.{Wide-F}
use Rattle.table_schema.specs.declared.query.Wide.TheFolds.{fold-Wide}

-- the value of a field in a row, by its number; beyond the row's end the number 0
abbrev pub cell : List Value → ℕ → Value
cell row field = slice_index_or row field (Whole (pos 0))

-- one condition, with whether the row satisfies each inner one in its place
abbrev pub wide_step : List Value → Wide-F Bool → Bool
wide_step row (Wide-F.Leaf field test) = holds (cell row field) test
wide_step row (Wide-F.All inner) = all_true inner
wide_step row (Wide-F.Any inner) = any_true inner

-- whether the row satisfies the condition
abbrev pub wide_holds : List Value → Wide → Bool
wide_holds row = fold-Wide Bool (wide_step row)

-- whether the row satisfies the conjunct, a test of one field or a condition on several
abbrev pub conjunct_holds : List Value → Conjunct → Bool
conjunct_holds row (One field test) = holds (cell row field) test
conjunct_holds row (Many wide) = wide_holds row wide

-- whether the row satisfies each conjunct
abbrev pub all_hold : List Value → List Conjunct → Bool
all_hold row conjuncts = list_all (conjunct_holds row) conjuncts
