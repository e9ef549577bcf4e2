use Rattle.std.proofs.Common.{◌≡◌, ◌++◌, map}
use Rattle.std.specs.List.{range_with_len}
use Rattle.segment_file.specs.declared.part.Part.TheVariants.{Dictionary}
use Rattle.segment_file.proofs.sections.push_dictionaries.Given as goal

abbrev pub invariant-loop-column : goal.invariant-loop-column
invariant-loop-column l = l.parts.items ≡ l.initial.parts.items ++ map Dictionary (range_with_len 0 l.column)
