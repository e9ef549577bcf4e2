use Rattle.std.proofs.Common.{◌≡◌, ◌+◌, ◌++◌, drop, sum}
use Rattle.segment_file.specs.Front.{directory, extents_from}
use Rattle.segment_file.proofs.front.push_directory.Given as goal

abbrev pub invariant-loop-at : goal.invariant-loop-at
invariant-loop-at l = record {
  written : l.out.items ++ directory (extents_from l.offset (drop l.at l.sections) (drop l.at l.sizes)) ≡ l.initial.out.items ++ directory (extents_from l.start l.sections l.sizes);
  offset : l.offset + sum (drop l.at l.sizes) ≡ l.start + sum l.sizes;
}
