use Rattle.std.proofs.Common.{refl, arith, rules}
use Rattle.bit_column.specs.Bits.{bits}
use Rattle.bit_column.proofs.Fields.{window-more}
use Rattle.bit_column.proofs.reading.window.Goals as goal

pub loop-byte-init : goal.loop-byte-init
unfolding bits
loop-byte-init c = refl

pub loop-byte-preserved : goal.loop-byte-preserved
loop-byte-preserved c =
    window-more c.args.bytes.now c.loop-byte.byte-index c.loop-byte.window (omega arith) (omega arith) (search rules) c.loop-byte.invariant
