use Rattle.std.proofs.Common.{◌≡◌, map, All}
use Rattle.state_columns.specs.Region.{numbers}
use Rattle.state_columns.specs.Packing.{place, IsWord}
use Rattle.star_table.proofs.star_table.StarTable.words.Given as goal

abbrev pub invariant-loop-at : goal.invariant-loop-at
invariant-loop-at l = record {
  places : map (place l.start) l.words.items ≡ numbers l.start l.at;
  words : All (IsWord l.spans l.level l.start l.self.docs) l.words.items;
}
