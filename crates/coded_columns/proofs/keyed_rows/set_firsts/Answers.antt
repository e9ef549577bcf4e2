use Rattle.std.proofs.Common.{◌<◌, ℕ, get_or, length, refl, arith, inl}
use Rattle.coded_columns.proofs.KeySteps.{first-next}
use Rattle.coded_columns.proofs.keyed_rows.set_firsts.Goals as goal

pub loop-at-init : goal.loop-at-init
loop-at-init c = λ k. inl (refl, λ none j lt. absurd (omega (arith, lt)))

pub loop-at-preserved : goal.loop-at-preserved
loop-at-preserved c =
    let at : ℕ = c.loop-at.at in
    let below : get_or c.args.keys.now at 0 < length c.loop-at.firsts = omega (arith, c.requires.below at 0 c.loop-at-test.true, c.loop-at.auto.firsts) in
    first-next at c.args.keys.now c.args.placed.places.now c.args.firsts.now c.loop-at.firsts c.meet_row.new.firsts c.loop-at-test.true below c.loop-at.invariant c.meet_row.ensures
