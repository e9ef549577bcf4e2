use Rattle.group_table.proofs.GroupsLemmas as groups
use Rattle.group_table.proofs.laws.groups_law.Goals as goal

pub returns : goal.returns
returns c = record { found = groups.found; permuted = groups.same_permuted }
