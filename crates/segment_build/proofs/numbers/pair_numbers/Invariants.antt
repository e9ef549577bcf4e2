use Rattle.std.proofs.Common.{◌≡◌, map, take}
use Rattle.std.specs.List.{All}
use Rattle.values.specs.Columns.{ListedColumns}
use Rattle.segment_build.specs.Coded.{AreThere}
use Rattle.segment_build.specs.Numbers.{numbers_for}
use Rattle.segment_build.proofs.numbers.pair_numbers.Given as goal

-- those for the pairs so far
abbrev pub invariant-pairs : goal.invariant-pairs
invariant-pairs l = (t : ListedColumns) → t.count ≡ l.rows → All (λ pair. AreThere t (map (λ v. v.items) l.made) pair.column) l.pairs → l.all ≡ map (λ pair. numbers_for t pair.column) (take l.pair-index l.pairs)
