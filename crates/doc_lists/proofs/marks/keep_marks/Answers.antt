use Rattle.std.proofs.Common.{arith}
use Rattle.doc_lists.proofs.WordSteps.{and_all}
use Rattle.doc_lists.proofs.marks.keep_marks.Goals as goal

pub returns : goal.returns
returns c = and_all c.args.marks.now c.args.others.now c.loop-at.marks c.requires c.loop-at.auto.marks (λ j lt. c.loop-at.invariant.done j (omega (arith, lt)))
