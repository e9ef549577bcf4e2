use Rattle.std.proofs.Common.{◌≡◌, map, take}
use Rattle.group_table.specs.Kept.{group_at}
use Rattle.broker_merge.specs.Answer.{item_cell}
use Rattle.broker_merge.proofs.rows.row_of.Given as goal

abbrev pub invariant-loop-item : goal.invariant-loop-item
invariant-loop-item l = l.row ≡ map (item_cell (group_at l.table l.at)) (take l.item-index l.items)
