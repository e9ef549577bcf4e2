use Rattle.std.proofs.Common.{◌≡◌, ◌++◌, take, drop}
use Rattle.value_ids.specs.Coding.{renumbered}
use Rattle.value_ids.proofs.ranks.rank_places.Given as goal

abbrev pub invariant-places : goal.invariant-places
invariant-places l = l.ids ≡ renumbered l.ranks (take l.at l.fn.ids) ++ drop l.at l.fn.ids
