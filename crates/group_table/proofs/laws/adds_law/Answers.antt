use Rattle.group_table.proofs.GroupsLemmas as groups
use Rattle.group_table.proofs.laws.adds_law.Goals as goal

pub returns : goal.returns
returns c = record {
  of_both = groups.of_both;
  some = groups.some;
  one = groups.one;
  joined = groups.joined;
  permuted = groups.permuted_adds;
  from_none = groups.from_none;
  of_row = groups.of_row;
}
