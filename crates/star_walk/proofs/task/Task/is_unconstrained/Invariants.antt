use Rattle.std.proofs.Common.{◌≡◌, ◌-◌, length}
use Rattle.star_tree.specs.Picks.{are_unconstrained}
use Rattle.star_walk.specs.Walking.{task_of}
use Rattle.star_walk.proofs.task.Task.is_unconstrained.Given as goal

abbrev pub invariant-loop-dim : goal.invariant-loop-dim
invariant-loop-dim l =
    are_unconstrained (task_of l.self.matched l.self.grouped) (length l.self.matched - l.level) l.level
    ≡ are_unconstrained (task_of l.self.matched l.self.grouped) (length l.self.matched - l.dim) l.dim
