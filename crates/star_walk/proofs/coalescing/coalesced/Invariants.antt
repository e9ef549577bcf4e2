use Rattle.std.proofs.Common.{◌≡◌, ◌++◌, drop}
use Rattle.star_walk.specs.Coalescing.{coalesced_from, coalesced}
use Rattle.star_walk.proofs.coalescing.coalesced.Given as goal

-- what was put, and what comes of the open pick and the ones left, is what comes of all
abbrev pub invariant-loop-i : goal.invariant-loop-i
invariant-loop-i l = l.all ++ coalesced_from l.held (drop l.i l.list) ≡ coalesced l.list
