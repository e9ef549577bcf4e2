use Rattle.std.proofs.Common.{◌≡◌, ◌≤◌, ◌<◌, ◌+◌, ◌*◌, take}
use Rattle.bit_column.specs.Bits.{bits_of}
use Rattle.bit_column.specs.Unpacked.{IsFilled}
use Rattle.bit_column.proofs.narrowing.put_rest.Given as goal

abbrev pub invariant-loop-to : goal.invariant-loop-to
invariant-loop-to l = record {
  filled : IsFilled l.bit l.width.bits l.to (bits_of 8 l.bytes) l.ids;
  place : 8 * l.byte + l.begins ≡ l.bit + l.to * l.width.bits;
  begins : l.begins < 8;
  after : 8 * l.groups ≤ l.to;
  kept : take (8 * l.groups) l.ids ≡ take (8 * l.groups) l.fn.ids;
}
