use Rattle.std.proofs.Common.{get_or}
use Rattle.coded_columns.specs.Slots.{packed}
use Rattle.coded_columns.proofs.RankSteps.{RankState}
use Rattle.coded_columns.proofs.ranking.refine_by_table.Given as goal

abbrev pub invariant-loop-k : goal.invariant-loop-k
invariant-loop-k l = RankState (packed l.fn.slots l.column.width l.column.ids.now l.column.places.now) l.fn.slots l.k (λ q. get_or l.table q 0) l.slots l.firsts.items
