use Rattle.dictionary.proofs.Written.{Began}
use Rattle.dictionary.proofs.spelling.push_offsets.Given as goal

abbrev pub invariant-places : goal.invariant-places
invariant-places l = Began l.values l.at l.start l.fn.out.items l.out.items
