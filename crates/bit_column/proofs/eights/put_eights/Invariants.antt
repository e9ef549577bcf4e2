use Rattle.std.proofs.Common.{◌*◌, take}
use Rattle.bit_column.specs.Bits.{bits_of}
use Rattle.bit_column.specs.Unpacked.{IsFilled}
use Rattle.bit_column.proofs.Most.{AreMost}
use Rattle.bit_column.proofs.eights.put_eights.Given as goal

abbrev pub invariant-loop-group : goal.invariant-loop-group
invariant-loop-group l = record {
  filled : IsFilled l.bit l.width.bits (8 * l.group) (bits_of 8 l.bytes) l.ids;
  most : AreMost l.count l.most (take (8 * l.group) l.ids);
}
