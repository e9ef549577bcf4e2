use Rattle.std.proofs.Common.{◌≡◌, ◌++◌, take}
use Rattle.star_file.specs.Bytes.{words}
use Rattle.star_file.proofs.words.push_words.Given as goal

abbrev pub invariant-loop-i : goal.invariant-loop-i
invariant-loop-i l = l.out.items ≡ l.initial.out.items ++ words (take l.i l.numbers)
