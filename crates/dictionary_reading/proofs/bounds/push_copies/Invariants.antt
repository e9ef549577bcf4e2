use Rattle.std.proofs.Common.{◌≡◌, ◌++◌, take}
use Rattle.dictionary_reading.proofs.bounds.push_copies.Given as goal

abbrev pub invariant-loop-value : goal.invariant-loop-value
invariant-loop-value l = l.to.items ≡ l.fn.to.items ++ take l.value-index l.values
