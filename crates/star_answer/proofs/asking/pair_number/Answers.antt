use Rattle.std.proofs.Common.{arith}
use Rattle.table_schema.specs.Aggs.{same_agg}
use Rattle.star_answer.proofs.AskSteps.{not_among}
use Rattle.star_answer.proofs.asking.pair_number.Goals as goal

pub unreachable-requires : goal.unreachable-requires
unreachable-requires c =
    not_among (λ pair. same_agg pair c.args.agg.now) c.args.pairs.now c.loop-number.number
    (omega (arith, c.loop-number-test.false)) c.loop-number.invariant c.requires.among
