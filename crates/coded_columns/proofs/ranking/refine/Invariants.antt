use Rattle.std.proofs.Common.{nat_eq}
use Rattle.std.specs.HashMap.{get}
use Rattle.coded_columns.specs.Slots.{led_by, packed}
use Rattle.coded_columns.proofs.RankSteps.{RankState}
use Rattle.coded_columns.proofs.ranking.refine.Given as goal

abbrev pub invariant-loop-k : goal.invariant-loop-k
invariant-loop-k l = RankState (packed l.fn.slots l.column.width l.column.ids.now l.column.places.now) l.fn.slots l.k (λ q. led_by (get nat_eq l.map q)) l.slots l.firsts.items
