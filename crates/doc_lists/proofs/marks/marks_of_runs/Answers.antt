use Rattle.std.proofs.Common.{arith}
use Rattle.doc_lists.proofs.Stretches.{next_within}
use Rattle.doc_lists.proofs.marks.marks_of_runs.Goals as goal

pub no_marks-requires : goal.no_marks-requires
no_marks-requires c =
    let within = next_within 0 c.args.runs.now (omega arith) c.requires in
    omega (arith, within, c.next_after.ensures)
