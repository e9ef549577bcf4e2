use Rattle.std.proofs.Common.{arith, ◌==◌}
use Rattle.star_answer.proofs.AskSteps.{not_among}
use Rattle.star_answer.proofs.asking.place_of.Goals as goal

pub unreachable-requires : goal.unreachable-requires
unreachable-requires c =
    not_among (λ m. m == c.args.column) c.args.split.now c.loop-place.place
    (omega (arith, c.loop-place-test.false)) c.loop-place.invariant c.requires.among
