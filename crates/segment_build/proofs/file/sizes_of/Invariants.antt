use Rattle.std.proofs.Common.{◌≡◌, length, map, take}
use Rattle.segment_build.specs.Made.{each_bytes}
use Rattle.segment_build.proofs.file.sizes_of.Given as goal

abbrev pub invariant-loop-section : goal.invariant-loop-section
invariant-loop-section l = l.sizes.items ≡ map length (each_bytes (take l.section-index l.sections))
