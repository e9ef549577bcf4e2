use Rattle.query_bind.proofs.FirstLemmas.{few_keys, first_key}
use Rattle.query_bind.proofs.laws.order_law.Goals as goal

pub returns-clause-at_most : goal.returns-clause-at_most
returns-clause-at_most c = few_keys

pub returns-clause-first : goal.returns-clause-first
returns-clause-first c = first_key
