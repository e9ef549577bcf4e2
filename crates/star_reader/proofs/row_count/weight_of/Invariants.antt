use Rattle.std.proofs.Common.{◌≡◌, ◌≤◌, max, drop}
use Rattle.agg_laws.specs.Numbers.{most_stored}
use Rattle.agg_laws.specs.Rows.{row_weight}
use Rattle.star_reader.proofs.row_count.weight_of.Given as goal

-- the most so far, and the weight of what is left
abbrev pub invariant-loop-state : goal.invariant-loop-state
invariant-loop-state l =
    (max l.most (row_weight (drop l.state-index l.states)) ≡ row_weight l.states)
    × (l.most ≤ most_stored)
