use Rattle.std.proofs.Common.{length, map}
use Rattle.values.specs.declared.value.Value.TheVariants.{Whole}
use Rattle.dictionary.proofs.Numbers.{PushesOn}
use Rattle.dictionary.proofs.piecewise.push_numbers.Given as goal

abbrev pub invariant-loop-chunk : goal.invariant-loop-chunk
invariant-loop-chunk l = PushesOn l.kind l.bytes l.rest (map Whole l.fn.numbers.items) (map Whole l.numbers.items)

abbrev pub decreases-loop-chunk : goal.decreases-loop-chunk
decreases-loop-chunk l = length l.rest
