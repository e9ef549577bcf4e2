use Rattle.query_bind.proofs.OnceLemmas.{groups_once, groups_named}
use Rattle.query_bind.proofs.laws.group_list_law.Goals as goal

pub returns-clause-once : goal.returns-clause-once
returns-clause-once c = groups_once

pub returns-clause-named : goal.returns-clause-named
returns-clause-named c = groups_named
