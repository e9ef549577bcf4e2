use Rattle.std.proofs.Common.{arith, inl, inr}
use Rattle.std.proofs.lemmas.Bool.Decides.{nat_tests}
use Rattle.data_types.proofs.Digits.{refused, read_whole}
use Rattle.data_types.proofs.whole.read_many.Goals as goal
use Rattle.data_types.proofs.whole.read_many.Goals.{then-digit-gt9-via-then-digit-gt9, then-digit-gt9-via-else-digit-gt9+then-number-gt-MOST_BEFORE_A_DIGIT}

pub returns-then-digit-gt9 : goal.returns-then-digit-gt9
returns-then-digit-gt9 c =
    rw c.refusal.ensures (refused c.args.digits.now c.loop-byte.byte-index c.loop-byte.number (omega arith) c.loop-byte.invariant.same
    (elim c.then-digit-gt9.branch [
      | then-digit-gt9-via-then-digit-gt9 w ↦ inl (c.digit_of-digit.ensures.other w.if-digit-gt9.true)
      | then-digit-gt9-via-else-digit-gt9+then-number-gt-MOST_BEFORE_A_DIGIT w ↦ inr w.if-number-gt-MOST_BEFORE_A_DIGIT.true
    ]))

pub returns : goal.returns
returns c = read_whole c.args.digits.now c.loop-byte.byte-index c.loop-byte.number (grind (arith, nat_tests)) (omega arith) c.loop-byte.invariant.same c.loop-byte.invariant.small
