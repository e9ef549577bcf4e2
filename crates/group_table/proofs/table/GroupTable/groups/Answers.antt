use Rattle.std.proofs.Common.{◌∙◌, length, sym, ap}
use Rattle.group_table.specs.Pooled.{PooledTable}
use Rattle.group_table.proofs.PooledSteps.{counted}
use Rattle.group_table.proofs.table.GroupTable.groups.Goals as goal

pub returns-clause-count : goal.returns-clause-count
returns-clause-count c pool table = c.len.ensures.len ∙ ap (λ (t : PooledTable). length t.slots) c.self.view_is ∙ sym (counted c.args.self.now pool table)
