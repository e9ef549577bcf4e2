use Rattle.std.proofs.Common.{◌≡◌, ◌++◌, drop, map}
use Rattle.state_columns.specs.Packing.{place}
use Rattle.state_columns.specs.Grouping.{first_words}
use Rattle.state_columns.proofs.grouping.first_numbers.Given as goal

abbrev pub invariant-loop-key : goal.invariant-loop-key
invariant-loop-key l = l.firsts.items ++ map (place l.start) (first_words l.key
    (drop l.key l.table)) ≡ map (place l.start) (first_words 0 l.table)
