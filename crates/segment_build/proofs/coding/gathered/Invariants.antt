use Rattle.std.proofs.Common.{◌≡◌, map, get_or, take}
use Rattle.segment_build.proofs.coding.gathered.Given as goal

abbrev pub invariant-loop-place : goal.invariant-loop-place
invariant-loop-place g l = (d : g.row.T.Denot) → l.gathered.items ≡ map (λ place. get_or l.list place d) (take l.place-index l.places)
