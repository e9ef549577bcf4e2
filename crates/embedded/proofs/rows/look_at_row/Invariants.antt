use Rattle.std.proofs.Common.{ℕ, ◌<◌, get_or}
use Rattle.values.specs.declared.value.Value.{Value}
use Rattle.value_ids.specs.Dictionary.{IsUnicode}
use Rattle.embedded.proofs.rows.look_at_row.Given as goal

abbrev pub invariant-loop-value : goal.invariant-loop-value
invariant-loop-value l = (k : ℕ) (d : Value) → k < l.value-index → IsUnicode (get_or l.row k d)
