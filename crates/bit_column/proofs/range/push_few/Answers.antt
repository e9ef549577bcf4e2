use Rattle.std.proofs.Common.{◌≡◌, ◌+◌, ◌*◌, arith}
use Rattle.bit_column.specs.Bits.{bits_of, field}
use Rattle.bit_column.proofs.ShortSteps.{few-bad, few-below, few-field, few-grown, few-room}
use Rattle.bit_column.proofs.range.push_few.Goals as goal

pub returns-in-Err-clause-bad : goal.returns-in-Err-clause-bad
returns-in-Err-clause-bad c =
    let width = c.args.width.bits in
    let bit = c.args.bit in
    let i = c.loop-i.i in
    let id = c.number_in-id.result in
    let digits = bits_of 8 c.args.bytes.now in
    let within = few-room width bit c.args.number i (omega (arith, c.loop-i-test.true)) c.requires in
    let is : id ≡ field width (bit + i * width) digits = few-field width (bit + i * width) c.word_at-word.result id digits within c.word_at-word.ensures c.number_in-id.ensures in
    λ bad. few-bad width bit c.args.number i id c.args.count digits (omega (arith, c.loop-i-test.true)) is (c.in-Err.ensures.bad bad)

pub loop-i-preserved : goal.loop-i-preserved
loop-i-preserved c =
    let width = c.args.width.bits in
    let bit = c.args.bit in
    let i = c.loop-i.i in
    let id = c.number_in-id.result in
    let digits = bits_of 8 c.args.bytes.now in
    let within = few-room width bit c.args.number i (omega (arith, c.loop-i-test.true)) c.requires in
    let is : id ≡ field width (bit + i * width) digits = few-field width (bit + i * width) c.word_at-word.result id digits within c.word_at-word.ensures c.number_in-id.ensures in
    record {
      grown = few-grown width bit i id digits c.args.ids.now.items c.loop-i.ids.items c.push_id.new.ids.items is c.loop-i.invariant.grown c.in-Ok.ensures.ids;
      below = few-below width bit i id c.args.count digits is c.loop-i.invariant.below c.in-Ok.ensures.below;
    }
