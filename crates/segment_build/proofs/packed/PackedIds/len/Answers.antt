use Rattle.std.proofs.Common.{◌*◌, ◌-◌, ap, length, arith}
use Rattle.bit_column.specs.Bits.{bits_of}
use Rattle.bit_column.proofs.Ranges.{pieces-long}
use Rattle.segment_build.proofs.packed.PackedIds.len.Goals as goal

pub returns : goal.returns
returns c =
    let own = c.self.inside in
    omega (arith, pieces-long own.width.bits (0 * own.width.bits) (own.rows - 0) (bits_of 8 own.bytes.items), ap length c.self.view_is)
