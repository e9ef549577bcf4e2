use Rattle.std.proofs.Common.{◌≡◌, ◌++◌, map, drop}
use Rattle.segment_file.specs.Parts.{marked, marked_from}
use Rattle.segment_file.specs.declared.part.Part.TheVariants.{Range}
use Rattle.segment_file.proofs.sections.push_ranges.Given as goal

abbrev pub invariant-loop-column : goal.invariant-loop-column
invariant-loop-column l = l.parts.items ++ map Range (marked_from l.column (drop l.column l.marks)) ≡ l.initial.parts.items ++ map Range (marked l.marks)
