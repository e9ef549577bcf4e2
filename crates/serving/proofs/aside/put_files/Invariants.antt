use Rattle.std.proofs.Common.{◌≡◌, ◌≤◌, length}
use Rattle.serving.specs.Aside.{with_files}
use Rattle.serving.proofs.aside.put_files.Given as goal

abbrev pub invariant-cursors : goal.invariant-cursors
invariant-cursors l = record {
  same : with_files l.files.items l.cursors.items ≡ with_files l.fn.files.items l.fn.cursors.items;
  long : length l.files.items ≤ length l.cursors.items;
}

abbrev pub decreases-cursors : goal.decreases-cursors
decreases-cursors l = length l.files.items
