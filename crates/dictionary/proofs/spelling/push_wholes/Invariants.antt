use Rattle.std.proofs.Common.{◌≡◌, ◌++◌, map, take}
use Rattle.values.specs.declared.value.Value.TheVariants.{Whole}
use Rattle.dictionary.specs.Spelling.{numbers}
use Rattle.dictionary.proofs.spelling.push_wholes.Given as goal

abbrev pub invariant-loop-number : goal.invariant-loop-number
invariant-loop-number l = l.out.items ≡ l.fn.out.items ++ numbers (take l.number-index (map Whole l.wholes))
