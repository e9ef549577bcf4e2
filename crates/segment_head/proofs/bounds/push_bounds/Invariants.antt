use Rattle.std.proofs.Common.{◌≡◌, ◌++◌, drop}
use Rattle.segment_file.specs.Bounds.{bounds_bytes, bounds_of}
use Rattle.segment_head.proofs.bounds.push_bounds.Given as goal

abbrev pub invariant-loop-dictionary : goal.invariant-loop-dictionary
invariant-loop-dictionary l = l.out.items ++ bounds_bytes (bounds_of (drop l.dictionary-index l.dictionaries)) ≡ l.initial.out.items ++ bounds_bytes (bounds_of l.dictionaries)
