use Rattle.std.proofs.Common.{◌≡◌, drop}
use Rattle.std.specs.List.{find}
use Rattle.segment_file.specs.Parts.{is_same}
use Rattle.segment_head.proofs.head.Head.place.Given as goal

abbrev pub invariant-loop-section : goal.invariant-loop-section
invariant-loop-section l = find (λ s. is_same s.part l.part) (drop l.section-index l.section-items) ≡ find (λ s. is_same s.part l.part) l.self.sections
