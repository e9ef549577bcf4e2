use Rattle.query_bind.proofs.FirstLemmas.{few_aggs, first_agg}
use Rattle.query_bind.proofs.laws.aggs_law.Goals as goal

pub returns-clause-at_most : goal.returns-clause-at_most
returns-clause-at_most c = few_aggs

pub returns-clause-first : goal.returns-clause-first
returns-clause-first c = first_agg
