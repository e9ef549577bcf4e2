use Rattle.std.proofs.Common.{ℕ, ◌<◌, List, All, get_or}
use Rattle.values.specs.declared.value.Value.{Value}
use Rattle.value_ids.specs.Dictionary.{IsUnicode}
use Rattle.embedded.proofs.rows.look_at_rows.Given as goal

abbrev pub invariant-loop-row : goal.invariant-loop-row
invariant-loop-row l = (k : ℕ) (d : List Value) → k < l.row-index → All IsUnicode (get_or l.rows k d)
