use Rattle.std.proofs.Common.{◌≡◌, ◌++◌, take}
use Rattle.std.specs.List.{concat}
use Rattle.segment_build.specs.Made.{each_bytes}
use Rattle.segment_build.proofs.file.push_all.Given as goal

abbrev pub invariant-loop-section : goal.invariant-loop-section
invariant-loop-section l = l.file.items ≡ l.fn.file.items ++ concat (each_bytes (take l.section-index l.sections))
