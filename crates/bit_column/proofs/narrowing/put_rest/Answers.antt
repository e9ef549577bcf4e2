use Rattle.std.proofs.Common.{◌≡◌, ◌∙◌, ◌+◌, ◌*◌, ℕ, arith}
use Rattle.std.proofs.lemmas.List.{take-set-le}
use Rattle.bit_column.specs.Bits.{bits_of}
use Rattle.bit_column.proofs.WordSteps.{one_more}
use Rattle.bit_column.proofs.narrowing.put_rest.Goals as goal

pub loop-to-preserved : goal.loop-to-preserved
loop-to-preserved c =
    let width : ℕ = c.args.width.bits in
    let to : ℕ = c.loop-to.to in
    let next : to * width + width ≡ (to + 1) * width = grind arith in
    record {
      filled = one_more c.args.bit width to (8 * c.loop-to.byte + c.loop-to.begins) c.narrow_id.result (bits_of 8 c.args.bytes.now) c.loop-to.ids (omega (arith, c.loop-to-test.true, c.loop-to.auto.ids)) c.narrow_id.ensures c.loop-to.invariant.place c.loop-to.invariant.filled;
      place = omega (arith, c.loop-to.invariant.place, next);
      begins = omega arith;
      after = omega (arith, c.loop-to.invariant.after);
      kept = take-set-le (8 * c.args.groups) c.loop-to.ids to _ c.loop-to.invariant.after ∙ c.loop-to.invariant.kept;
    }
