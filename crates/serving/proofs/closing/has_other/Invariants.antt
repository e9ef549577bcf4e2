use Rattle.std.proofs.Common.{◌≡◌, ◌≢◌, ◌<◌, ℕ, Some, false, slice_get}
use Rattle.serving.specs.Closed.{has_file}
use Rattle.cursors.specs.declared.cursor.Cursor.{Cursor}
use Rattle.serving.proofs.closing.has_other.Given as goal

abbrev pub invariant-cursors : goal.invariant-cursors
invariant-cursors l = (i : ℕ) (d : Cursor) → i < l.other → i ≢ l.at → slice_get l.cursors i ≡ Some d → has_file l.name d.files.items ≡ false
