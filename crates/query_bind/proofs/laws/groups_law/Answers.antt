use Rattle.query_bind.proofs.FirstLemmas.{few_groups, first_group}
use Rattle.query_bind.proofs.laws.groups_law.Goals as goal

pub returns-clause-at_most : goal.returns-clause-at_most
returns-clause-at_most c = few_groups

pub returns-clause-first : goal.returns-clause-first
returns-clause-first c = first_group
