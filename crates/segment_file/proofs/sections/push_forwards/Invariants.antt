use Rattle.std.proofs.Common.{◌≡◌, ◌++◌, map}
use Rattle.std.specs.List.{range_with_len}
use Rattle.segment_file.specs.declared.part.Part.TheVariants.{Forward}
use Rattle.segment_file.proofs.sections.push_forwards.Given as goal

abbrev pub invariant-loop-column : goal.invariant-loop-column
invariant-loop-column l = l.parts.items ≡ l.initial.parts.items ++ map Forward (range_with_len 0 l.column)
