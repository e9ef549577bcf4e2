use Rattle.std.proofs.Common.{◌-◌, ◌≡◌, ℕ, ◌<◌, ◌≤◌}
use Rattle.star_builder.specs.Building.{id_of}
use Rattle.star_builder.proofs.groups.run_end.Given as goal

abbrev pub invariant-loop-to : goal.invariant-loop-to
invariant-loop-to l = record {
  after : l.from < l.to;
  within : l.to ≤ l.end;
  alike : (i : ℕ) → l.from ≤ i → i < l.to → id_of l.level i l.docs.docs ≡ l.id;
  is : l.id ≡ id_of l.level l.from l.docs.docs;
}

abbrev pub decreases-loop-to : goal.decreases-loop-to
decreases-loop-to l = l.end - l.to
