use Rattle.std.proofs.Common.{◌≡◌, take}
use Rattle.bit_column.specs.Bits.{bits_of, pieces}
use Rattle.bit_column.proofs.words.put_words.Given as goal

abbrev pub invariant-loop-i : goal.invariant-loop-i
invariant-loop-i l = take l.i l.ids ≡ pieces 32 0 l.i (bits_of 8 l.bytes)
