use Rattle.std.proofs.Common.{◌≡◌, drop}
use Rattle.star_walk.specs.Walking.{has_star_among}
use Rattle.star_walk.proofs.walking.has_star.Given as goal

abbrev pub invariant-loop-child : goal.invariant-loop-child
invariant-loop-child l = has_star_among l.subtrees ≡ has_star_among (drop l.child-index l.subtrees)
