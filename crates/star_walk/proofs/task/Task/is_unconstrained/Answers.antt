use Rattle.std.proofs.Common.{◌≡◌, ◌<◌, length, sym, ap, ◌∙◌, ◌-◌, arith}
use Rattle.star_tree.specs.Picks.{are_unconstrained}
use Rattle.star_walk.specs.Walking.{task_of}
use Rattle.star_walk.proofs.WalkSteps.{quiet_step, quiet_ends, quiet_none}
use Rattle.star_walk.proofs.task.Task.is_unconstrained.Goals as goal

pub loop-dim-preserved : goal.loop-dim-preserved
loop-dim-preserved c =
    let k = length c.args.self.now.matched in
    let lt : c.loop-dim.dim < k = omega arith in
    c.loop-dim.invariant
    ∙ quiet_step (task_of c.args.self.now.matched c.args.self.now.grouped) k c.loop-dim.dim lt
    (sym c.constrains.ensures ∙ c.if-constrains.false)

pub returns-then-constrains : goal.returns-then-constrains
returns-then-constrains c =
    let k = length c.args.self.now.matched in
    let lt : c.loop-dim.dim < k = omega arith in
    sym (c.loop-dim.invariant
    ∙ quiet_ends (task_of c.args.self.now.matched c.args.self.now.grouped) k c.loop-dim.dim lt
    (sym c.constrains.ensures ∙ c.if-constrains.true))

pub returns : goal.returns
returns c =
    let k = length c.args.self.now.matched in
    let t = task_of c.args.self.now.matched c.args.self.now.grouped in
    let end : c.loop-dim.dim ≡ k = omega arith in
    sym (c.loop-dim.invariant ∙ ap (λ j. are_unconstrained t (k - j) j) end ∙ quiet_none t k)
