use Rattle.std.proofs.Common.{◌≡◌, ◌<◌, ℕ, nat_eq, true}
use Rattle.std.specs.List.{list_any}
use Rattle.cursors.specs.declared.cursor.Cursor.{Cursor}
use Rattle.cursors.proofs.places.free_owner.Given as goal

abbrev pub invariant-owners : goal.invariant-owners
invariant-owners l = record {
  taken : (k : ℕ) → k < l.owner → list_any (λ (cursor : Cursor). nat_eq k cursor.owner) l.cursors ≡ true;
}
