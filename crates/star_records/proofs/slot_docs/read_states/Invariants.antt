use Rattle.std.proofs.Common.{◌≡◌, take}
use Rattle.state_columns.specs.Columns.{row_at}
use Rattle.star_records.proofs.slot_docs.read_states.Given as goal

abbrev pub invariant-loop-column : goal.invariant-loop-column
invariant-loop-column l = l.out.items ≡ row_at (take l.column-index l.columns) l.slot
