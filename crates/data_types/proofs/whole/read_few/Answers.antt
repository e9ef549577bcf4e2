use Rattle.std.proofs.Common.{◌<◌, ◌^◌, arith}
use Rattle.data_types.proofs.Digits.{at_most, read_whole}
use Rattle.data_types.proofs.whole.read_few.Goals as goal

pub overflow_mul-number : goal.overflow_mul-number
overflow_mul-number c =
    let small : c.loop-byte.number < 10 ^ 17 = at_most 17 c.loop-byte.byte-index c.loop-byte.number (omega (arith, c.loop-byte-test.true, c.requires.at_most)) c.loop-byte.invariant.small in
    omega (arith, small)

pub overflow_add-number : goal.overflow_add-number
overflow_add-number c =
    let small : c.loop-byte.number < 10 ^ 17 = at_most 17 c.loop-byte.byte-index c.loop-byte.number (omega (arith, c.loop-byte-test.true, c.requires.at_most)) c.loop-byte.invariant.small in
    omega (arith, small, c.if-digit-gt9.false)

pub returns : goal.returns
returns c =
    let small : c.loop-byte.number < 10 ^ 18 = at_most 18 c.loop-byte.byte-index c.loop-byte.number (omega (arith, c.loop-byte.auto.byte-index-end, c.requires.at_most)) c.loop-byte.invariant.small in
    read_whole c.args.digits.now c.loop-byte.byte-index c.loop-byte.number c.requires.some (omega (arith, c.loop-byte-test.false)) c.loop-byte.invariant.same (omega (arith, small))
