use Rattle.std.proofs.Common.{◌≡◌, length, map, take, slice_get, Some}
use Rattle.star_rows.proofs.numbers.NumberColumns.read_row.Given as goal

abbrev pub invariant-loop-pair : goal.invariant-loop-pair
invariant-loop-pair l = record {
  items : map Some l.out.items ≡ map (λ c. slice_get c l.row) (take l.pair l.self);
  lengths : length l.out.items ≡ l.pair;
}
