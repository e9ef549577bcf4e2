use Rattle.std.proofs.Common.{map, take}
use Rattle.std.specs.List.{All}
use Rattle.segment_build.specs.Coded.{AreThere, HaveNumbers, columns_in}
use Rattle.segment_build.proofs.numbers.make_numbers.Given as goal

-- the numbers for the pairs so far are there
abbrev pub invariant-pairs : goal.invariant-pairs
invariant-pairs l = record {
  have : HaveNumbers (columns_in l.coded) (map (λ v. v.items) l.made.items);
  there : All (λ pair. AreThere (columns_in l.coded) (map (λ v. v.items) l.made.items) pair.column) (take l.pair-index l.pairs);
}
