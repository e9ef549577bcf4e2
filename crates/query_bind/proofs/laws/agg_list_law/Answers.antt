use Rattle.query_bind.proofs.OnceLemmas.{all_aggs_once, all_aggs_written}
use Rattle.query_bind.proofs.laws.agg_list_law.Goals as goal

pub returns-clause-once : goal.returns-clause-once
returns-clause-once c = all_aggs_once

pub returns-clause-written : goal.returns-clause-written
returns-clause-written c = all_aggs_written
