use Rattle.std.proofs.Common.{◌≡◌, ◌≤◌, ◌++◌, length, take}
use Rattle.bit_column.specs.Bits.{bits, bits_of}
use Rattle.bit_column.proofs.writing.push_bytes.Given as goal

abbrev pub invariant-loop-left : goal.invariant-loop-left
invariant-loop-left l = record {
  bits : bits_of 8 l.out.items ++ bits l.left l.window ≡ bits_of 8 l.fn.out.items ++ bits l.fn.have l.window;
  kept : take (length l.fn.out.items) l.out.items ≡ l.fn.out.items;
  fewer : l.left ≤ l.fn.have;
}

abbrev pub decreases-loop-left : goal.decreases-loop-left
decreases-loop-left l = l.left
