use Rattle.bit_column.proofs.Most.{IsMost}
use Rattle.bit_column.proofs.testing.are_below.Given as goal

abbrev pub invariant-loop-at : goal.invariant-loop-at
invariant-loop-at l = IsMost l.count l.most l.at l.ids
