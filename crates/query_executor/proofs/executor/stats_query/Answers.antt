use Rattle.query_executor.proofs.executor.stats_query.Goals as goal

pub returns : goal.returns
returns g c = c.reply_with.ensures
