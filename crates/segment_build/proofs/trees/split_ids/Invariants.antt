use Rattle.std.proofs.Common.{◌≡◌, map, take}
use Rattle.segment_build.specs.Coded.{ids_at}
use Rattle.segment_build.proofs.trees.split_ids.Given as goal

abbrev pub invariant-loop-column : goal.invariant-loop-column
invariant-loop-column l = l.all.items ≡ map (ids_at l.coded) (take l.column-index l.split)
