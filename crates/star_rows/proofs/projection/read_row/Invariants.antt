use Rattle.std.proofs.Common.{◌≡◌, length, map, take, slice_get, Some}
use Rattle.star_rows.proofs.projection.read_row.Given as goal

abbrev pub invariant-loop-i : goal.invariant-loop-i
invariant-loop-i g l = record {
  items : map Some l.out.items ≡ map (λ c. slice_get c l.row) (take l.i l.columns);
  lengths : length l.out.items ≡ l.i;
}
