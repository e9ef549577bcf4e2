use Rattle.std.proofs.Common.{arith}
use Rattle.doc_lists.proofs.WordSteps.{or_all}
use Rattle.doc_lists.proofs.marks.add_marks.Goals as goal

pub returns : goal.returns
returns c = or_all c.args.marks.now c.args.others.now c.loop-at.marks (λ j lt. c.loop-at.invariant.done j (omega (arith, lt))) (λ j le. c.loop-at.invariant.left j (omega (arith, le)))
