use Rattle.std.proofs.Common.{take}
use Rattle.values.specs.Columns.{row_of}
use Rattle.table_schema.specs.Conditions.{all_hold}
use Rattle.scan_engine.specs.Selection.{Keeps}
use Rattle.scan_engine.proofs.selection.keep_all.Given as goal

abbrev pub invariant-loop-conjunct : goal.invariant-loop-conjunct
invariant-loop-conjunct l = Keeps (λ at. all_hold (row_of l.table.columns.now.columns at) (take l.conjunct-index l.conjuncts)) l.fn.marks l.marks
