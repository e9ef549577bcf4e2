use Rattle.std.proofs.Common.{take}
use Rattle.doc_lists.proofs.WordSteps.{RunsMarked}
use Rattle.doc_lists.proofs.marks.mark_runs.Given as goal

abbrev pub invariant-loop-run : goal.invariant-loop-run
invariant-loop-run l = RunsMarked (take l.run-index l.runs) l.fn.marks l.marks
