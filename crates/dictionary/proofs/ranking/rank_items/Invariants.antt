use Rattle.dictionary.specs.Ranking.{values_of}
use Rattle.dictionary.proofs.RankLemmas.{Given}
use Rattle.dictionary.proofs.ranking.rank_items.Given as goal

abbrev pub invariant-items : goal.invariant-items
invariant-items g l = (d : g.row.T.Denot) → Given g.T.Ord.cmp d (values_of l.fn.items.items) l.items.items l.order.items l.ranks.items l.i
