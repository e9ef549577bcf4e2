use Rattle.std.proofs.Common.{arith}
use Rattle.value_ids.proofs.RunLemmas.{counted_all}
use Rattle.value_ids.proofs.id_set.count_from.Goals as goal

pub returns : goal.returns
returns c =
    counted_all c.args.first c.args.start c.args.ids.now c.loop-at.ids c.requires.start c.loop-at.auto.ids c.loop-at.invariant.before (λ k from lt. c.loop-at.invariant.counted k from (omega (arith, c.loop-at-test.false, c.loop-at.auto.ids, lt)))
