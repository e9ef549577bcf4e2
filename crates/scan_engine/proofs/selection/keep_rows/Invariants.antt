use Rattle.values.specs.Columns.{row_of}
use Rattle.table_schema.specs.Conditions.{conjunct_holds}
use Rattle.scan_engine.proofs.SelectionLemmas.{KeepsBelow}
use Rattle.scan_engine.proofs.selection.keep_rows.Given as goal

abbrev pub invariant-loop-at : goal.invariant-loop-at
invariant-loop-at l = KeepsBelow l.at (λ at. conjunct_holds (row_of l.table.columns.now.columns at) l.conjunct) l.fn.marks l.marks
