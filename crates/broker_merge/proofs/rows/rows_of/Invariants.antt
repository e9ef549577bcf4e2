use Rattle.std.proofs.Common.{◌≡◌, map, take}
use Rattle.group_table.specs.Kept.{group_at}
use Rattle.broker_merge.specs.Answer.{item_cell}
use Rattle.broker_merge.proofs.rows.rows_of.Given as goal

abbrev pub invariant-loop-at : goal.invariant-loop-at
invariant-loop-at l = l.rows ≡ map (λ at. map (item_cell (group_at l.table at)) l.items) (take l.at-index l.places)
