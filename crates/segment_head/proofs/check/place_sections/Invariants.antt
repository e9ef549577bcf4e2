use Rattle.std.proofs.Common.{◌≡◌, ◌+◌, ◌++◌, map, drop, sum}
use Rattle.segment_file.specs.Front.{extents_from}
use Rattle.segment_head.specs.Heads.{placed}
use Rattle.segment_head.proofs.check.place_sections.Given as goal

abbrev pub invariant-loop-at : goal.invariant-loop-at
invariant-loop-at l = record {
  made : l.sections.items ++ map (placed l.file) (extents_from l.offset (drop l.at l.parts) (drop l.at l.sizes)) ≡ map (placed l.file) (extents_from l.start l.parts l.sizes);
  offset : l.offset + sum (drop l.at l.sizes) ≡ l.start + sum l.sizes;
}
