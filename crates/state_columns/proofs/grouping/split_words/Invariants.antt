use Rattle.std.proofs.Common.{◌<◌, ◌≤◌, ◌++◌, ◌^◌, length, take, All}
use Rattle.std.specs.List.Sorted.{IsPermutation}
use Rattle.state_columns.specs.Grouping.{entry_of, first_words}
use Rattle.state_columns.proofs.grouping.split_words.Given as goal

abbrev pub invariant-loop-i : goal.invariant-loop-i
invariant-loop-i l = record {
  same : IsPermutation (take l.i l.words.items) (first_words 0 l.table.items ++ l.others.items);
  at_most : length l.table.items < 2 ^ 32;
  places : All (λ at. at ≤ 2 ^ 20) l.table.items;
  found : All (λ word. 0 < entry_of l.table.items word) l.others.items;
}
