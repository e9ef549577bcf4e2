use Rattle.std.proofs.Common.{◌+◌, arith}
use Rattle.std.proofs.lemmas.Simd.{take_more_put_chunk}
use Rattle.bit_column.proofs.LaneSteps.{four-filled}
use Rattle.bit_column.proofs.lanes.put_four.Goals as goal

pub returns : goal.returns
returns c = λ first place so_far.
    four-filled c.args.bytes.now c.args.ids.now _ c.four.result c.args.at c.args.plan.bit first c.args.width.bits c.args.to c.four.ensures.long c.four.ensures.each place
    (take_more_put_chunk c.args.to c.args.ids.now c.four.result (c.args.to + 4) (omega (arith, c.four.ensures.long)) c.requires.to) so_far
