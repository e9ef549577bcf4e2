use Rattle.std.proofs.Common.{◌≡◌, take}
use Rattle.star_records.specs.Folding.{picked}
use Rattle.star_records.proofs.blocks.columns_at.Given as goal

abbrev pub invariant-loop-i : goal.invariant-loop-i
invariant-loop-i g l = (d : g.row.T.Denot) → l.block.items ≡ picked d l.words (take l.i l.columns)
