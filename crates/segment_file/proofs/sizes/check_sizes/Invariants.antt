use Rattle.std.proofs.Common.{All, List, ℕ, take}
use Rattle.segment_file.specs.Reading.{AreRead, FitsSize}
use Rattle.segment_file.proofs.sizes.check_sizes.Given as goal

abbrev pub invariant-loop-section : goal.invariant-loop-section
invariant-loop-section l = (heads : List (List ℕ)) → AreRead l.table l.rows heads l.dictionaries l.trees → All (FitsSize l.table l.rows heads) (take l.section-index l.sections)
