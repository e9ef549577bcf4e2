use Rattle.group_table.proofs.EntryLemmas as entries
use Rattle.group_table.proofs.laws.absorb_law.Goals as goal

pub returns : goal.returns
returns c = entries.absorbed
