use Rattle.std.proofs.Common.{◌≡◌, ◌++◌, drop}
use Rattle.segment_file.specs.Bounds.{bounds_of}
use Rattle.segment_head.proofs.check.all_bounds.Given as goal

abbrev pub invariant-loop-dictionary : goal.invariant-loop-dictionary
invariant-loop-dictionary l = l.bounds.items ++ bounds_of (drop l.dictionary-index l.dictionaries) ≡ bounds_of l.dictionaries
