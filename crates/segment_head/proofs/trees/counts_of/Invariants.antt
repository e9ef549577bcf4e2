use Rattle.std.proofs.Common.{◌≡◌, map, take}
use Rattle.segment_file.specs.Reading.{count_at}
use Rattle.segment_head.proofs.trees.counts_of.Given as goal

abbrev pub invariant-loop-column : goal.invariant-loop-column
invariant-loop-column l = l.counts.items ≡ map (count_at l.dictionaries) (take l.column-index l.columns)
