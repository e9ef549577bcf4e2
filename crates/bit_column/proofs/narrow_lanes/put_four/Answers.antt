use Rattle.std.proofs.Common.{◌≡◌, ◌+◌, ℕ, List, arith, map, subst, sym}
use lib.Lanes.{put_chunk}
use Rattle.std.proofs.lemmas.List.{map-id}
use Rattle.std.proofs.lemmas.Simd.{take_more_put_chunk, Each1-from_get_or}
use Rattle.bit_column.specs.Bits.{bits_of}
use Rattle.bit_column.specs.Unpacked.{IsFilled}
use Rattle.bit_column.proofs.LaneSteps.{four-filled}
use Rattle.bit_column.proofs.NarrowSteps.{narrow-lane}
use Rattle.bit_column.proofs.narrow_lanes.put_four.Goals as goal

pub overflow_cast-ids : goal.overflow_cast-ids
overflow_cast-ids c =
    Each1-from_get_or _ c.four.result 0 (λ i lt. narrow-lane c.four.result c.args.bytes.now c.args.at c.args.plan.bit c.args.width.bits i c.requires.narrow c.four.ensures.long c.four.ensures.each lt)

pub returns : goal.returns
returns c = λ first place so_far.
    let same : map (λ (a : ℕ). a) c.four.result ≡ c.four.result = map-id c.four.result in
    subst (λ (l : List ℕ). IsFilled first c.args.width.bits (c.args.to + 4) (bits_of 8 c.args.bytes.now) (put_chunk c.args.to c.args.ids.now l)) (sym same)
    (four-filled c.args.bytes.now c.args.ids.now _ c.four.result c.args.at c.args.plan.bit first c.args.width.bits c.args.to c.four.ensures.long c.four.ensures.each place
    (take_more_put_chunk c.args.to c.args.ids.now c.four.result (c.args.to + 4) (omega (arith, c.four.ensures.long)) c.requires.to) so_far)
