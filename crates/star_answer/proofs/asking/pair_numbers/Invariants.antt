use Rattle.std.proofs.Common.{take}
use Rattle.star_answer.specs.Tasks.{ArePairsOf}
use Rattle.star_answer.proofs.asking.pair_numbers.Given as goal

abbrev pub invariant-loop-agg : goal.invariant-loop-agg
invariant-loop-agg l = ArePairsOf (take l.agg-index l.aggs) l.tree.pairs l.numbers.items
