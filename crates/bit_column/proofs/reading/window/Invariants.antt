use Rattle.std.proofs.Common.{◌≡◌, ◌*◌, take}
use Rattle.bit_column.specs.Bits.{bits, bits_of}
use Rattle.bit_column.proofs.reading.window.Given as goal

abbrev pub invariant-loop-byte : goal.invariant-loop-byte
invariant-loop-byte l = bits_of 8 (take l.byte-index l.bytes) ≡ bits (l.byte-index * 8) l.window
