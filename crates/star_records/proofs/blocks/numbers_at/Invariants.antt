use Rattle.std.proofs.Common.{◌≡◌, ℤ, take}
use Rattle.star_records.specs.Folding.{picked}
use Rattle.star_records.proofs.blocks.numbers_at.Given as goal

abbrev pub invariant-loop-i : goal.invariant-loop-i
invariant-loop-i l = (d : ℤ) → l.block.items ≡ picked d l.words (take l.i l.columns)
