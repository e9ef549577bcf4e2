use Rattle.std.proofs.Common.{◌≡◌, ℕ, true}
use Rattle.text_scan.specs.Named.{StayMarked, is_marked}
use Rattle.text_scan.proofs.NamedLemmas.{Below}
use Rattle.text_scan.proofs.named.mark_groups.Given as goal

abbrev pub invariant-groups : goal.invariant-groups
invariant-groups l = record {
  stay : StayMarked l.fn.marks l.marks;
  marked : Below ℕ (λ column. is_marked l.marks column ≡ true) l.groups l.i;
}
