use Rattle.std.proofs.Common.{◌+◌, arith}
use Rattle.std.proofs.lemmas.Simd.{take_more_put_chunk}
use Rattle.bit_column.proofs.EightSteps.{eight-filled}
use Rattle.bit_column.proofs.long_eights.put_long_eight.Goals as goal

pub returns-clause-filled : goal.returns-clause-filled
returns-clause-filled c = λ first place so_far.
    eight-filled c.args.bytes.now c.args.ids.now _ c.long_eight-lanes.result c.args.at c.args.plan.bit first c.args.width.bits c.args.to c.long_eight-lanes.ensures.long c.long_eight-lanes.ensures.each place
    (take_more_put_chunk c.args.to c.args.ids.now c.long_eight-lanes.result (c.args.to + 8) (omega (arith, c.long_eight-lanes.ensures.long)) c.requires.to) so_far

pub returns-clause-put : goal.returns-clause-put
returns-clause-put c = take_more_put_chunk c.args.to c.args.ids.now c.long_eight-lanes.result (c.args.to + 8) (omega (arith, c.long_eight-lanes.ensures.long)) c.requires.to
