use Rattle.std.proofs.Common.{◌≡◌, take}
use Rattle.star_reader.specs.Asked.{kinds_for}
use Rattle.star_reader.proofs.selection.kinds_for.Given as goal

abbrev pub invariant-loop-pair : goal.invariant-loop-pair
invariant-loop-pair l = l.all ≡ kinds_for (take l.pair-index l.pairs) l.kinds
