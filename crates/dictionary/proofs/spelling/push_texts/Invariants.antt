use Rattle.std.proofs.Common.{◌≡◌, ◌++◌, take}
use Rattle.dictionary.specs.Spelling.{texts}
use Rattle.dictionary.proofs.spelling.push_texts.Given as goal

abbrev pub invariant-places : goal.invariant-places
invariant-places l = l.out.items ≡ l.fn.out.items ++ texts (take l.at l.values)
