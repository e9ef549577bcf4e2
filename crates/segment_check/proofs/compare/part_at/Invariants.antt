use Rattle.std.proofs.Common.{◌≡◌, ◌+◌, drop, sum}
use Rattle.segment_file.specs.Front.{extents_from}
use Rattle.segment_check.specs.Checked as spec
use Rattle.segment_check.proofs.compare.part_at.Given as goal

-- the section is among those that are left
abbrev pub invariant-parts : goal.invariant-parts
invariant-parts l = record {
  left : spec.part_at (extents_from l.offset (drop l.number l.parts) (drop l.number l.sizes)) l.at ≡ spec.part_at (extents_from l.start l.parts l.sizes) l.at;
  offset : l.offset + sum (drop l.number l.sizes) ≡ l.start + sum l.sizes;
}
