use Rattle.star_records.specs.Folding.{AreHeads}
use Rattle.star_records.proofs.blocks.heads_of.Given as goal

abbrev pub invariant-loop-at : goal.invariant-loop-at
invariant-loop-at l = AreHeads l.words l.fn.block.from l.at l.heads.items l.slots.items
