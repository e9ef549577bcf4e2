use Rattle.broker_merge.proofs.RankLemmas.{fair_state}
use Rattle.broker_merge.proofs.order.rank_at.Goals as goal

pub returns-in-Agg-clause-fair : goal.returns-in-Agg-clause-fair
returns-in-Agg-clause-fair c = λ some. fair_state c.args.table.now c.args.at c.in-Agg.place c.state_at.result.now c.requires.group.is_table c.requires.group.within some c.state_at.ensures
