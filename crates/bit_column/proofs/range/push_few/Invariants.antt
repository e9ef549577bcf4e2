use Rattle.std.proofs.Common.{◌≡◌, ◌<◌, ◌++◌, All}
use Rattle.bit_column.specs.Bits.{bits_of, pieces}
use Rattle.bit_column.proofs.range.push_few.Given as goal

abbrev pub invariant-loop-i : goal.invariant-loop-i
invariant-loop-i l = record {
  grown : l.ids.items ≡ l.initial.ids.items ++ pieces l.width.bits l.bit l.i (bits_of 8 l.bytes);
  below : All (λ id. id < l.count) (pieces l.width.bits l.bit l.i (bits_of 8 l.bytes));
}
