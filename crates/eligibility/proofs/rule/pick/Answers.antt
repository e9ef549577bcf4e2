use Rattle.std.proofs.Common.{◌≡◌, sym, ◌∙◌}
use Rattle.eligibility.proofs.Picked.{found_here, found_later}
use Rattle.eligibility.proofs.rule.pick.Goals as goal

pub returns-then-eligible : goal.returns-then-eligible
returns-then-eligible c =
    sym (found_here c.args.query.now c.loop-number.number c.args.trees.now c.index-trees-number.result c.loop-number-test.true c.index-trees-number.is (sym c.eligible.ensures ∙ c.if-eligible.true)) ∙ c.loop-number.invariant

pub loop-number-preserved : goal.loop-number-preserved
loop-number-preserved c =
    sym (found_later c.args.query.now c.loop-number.number c.args.trees.now c.index-trees-number.result c.loop-number-test.true c.index-trees-number.is (sym c.eligible.ensures ∙ c.if-eligible.false)) ∙ c.loop-number.invariant
