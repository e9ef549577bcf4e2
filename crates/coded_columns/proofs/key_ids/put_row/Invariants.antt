use Rattle.std.proofs.Common.{◌<◌, ℕ, get_or}
use Rattle.coded_columns.specs.Coded.{column_of}
use Rattle.coded_columns.specs.Keys.{IsIdAt}
use Rattle.coded_columns.proofs.key_ids.put_row.Given as goal

abbrev pub invariant-loop-i : goal.invariant-loop-i
invariant-loop-i l = (j : ℕ) → j < l.i → IsIdAt (column_of l.segment (get_or l.groups j 0)) l.row (get_or l.ids j 0)
