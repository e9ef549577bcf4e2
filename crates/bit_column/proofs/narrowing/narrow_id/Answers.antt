use Rattle.std.proofs.Common.{◌+◌, ◌*◌, arith}
use Rattle.bit_column.proofs.NarrowSteps.{field-narrow}
use Rattle.bit_column.proofs.narrowing.narrow_id.Goals as goal

pub overflow_cast-result : goal.overflow_cast-result
overflow_cast-result c = record {
  fits = omega (arith, c.id_from.ensures, field-narrow c.args.width.bits (8 * c.args.byte + c.args.bit) c.args.bytes.now c.requires.narrow);
}
