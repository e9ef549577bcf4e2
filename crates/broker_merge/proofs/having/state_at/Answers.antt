use Rattle.broker_merge.proofs.RankLemmas.{fair_state}
use Rattle.broker_merge.proofs.having.state_at.Goals as goal

pub returns-clause-fair : goal.returns-clause-fair
returns-clause-fair c = fair_state c.args.table.now c.args.at c.args.place c.state_at.result.now c.requires.group.is_table c.requires.group.within c.requires.grouped c.state_at.ensures
