use Rattle.std.proofs.Common.{◌*◌, take}
use Rattle.star_file.specs.Spelled.{SpellsIds}
use Rattle.star_file.proofs.doc_reading.are_ids.Given as goal

abbrev pub invariant-loop-i : goal.invariant-loop-i
invariant-loop-i l = SpellsIds (take l.i l.counts) (take (4 * l.i) l.bytes)
