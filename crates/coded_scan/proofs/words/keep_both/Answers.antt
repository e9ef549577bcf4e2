use Rattle.std.proofs.Common.{arith}
use Rattle.coded_scan.proofs.MarkSteps.{both-all}
use Rattle.coded_scan.proofs.words.keep_both.Goals as goal

pub returns : goal.returns
returns c = λ many holds other a b. both-all many holds other c.args.words.now c.args.others.now c.loop-at.words c.requires c.loop-at.auto.words (λ j lt. c.loop-at.invariant.done j (omega arith)) a b
