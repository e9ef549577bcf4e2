use Rattle.std.proofs.Common.{◌≡◌, map, take}
use Rattle.segment_head.specs.Stored.{live}
use Rattle.segment_head.proofs.stored.live_segments.Given as goal

abbrev pub invariant-loop-name : goal.invariant-loop-name
invariant-loop-name l = l.stored.items ≡ map live (take l.name-index l.names)
