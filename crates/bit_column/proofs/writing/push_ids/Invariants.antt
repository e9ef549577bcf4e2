use Rattle.std.proofs.Common.{◌≡◌, ◌<◌, ◌++◌, length, take}
use Rattle.bit_column.specs.Bits.{bits, bits_of}
use Rattle.bit_column.proofs.writing.push_ids.Given as goal

abbrev pub invariant-loop-id : goal.invariant-loop-id
invariant-loop-id l = record {
  bits : bits_of 8 l.out.items ++ bits l.have l.window ≡ bits_of 8 l.fn.out.items ++ bits_of l.width.bits (take l.id-index l.ids);
  kept : take (length l.fn.out.items) l.out.items ≡ l.fn.out.items;
  at_most : l.have < 32;
}
