use Rattle.std.proofs.Common.{◌≡◌, take}
use Rattle.star_file.specs.Rules.{widths}
use Rattle.star_file.specs.Spelled.{SpellsStates}
use Rattle.star_file.proofs.doc_reading.are_states.Given as goal

abbrev pub invariant-loop-i : goal.invariant-loop-i
invariant-loop-i l = record {
  at : l.at ≡ widths (take l.i l.kinds);
  states : SpellsStates (take l.i l.kinds) (take l.at l.bytes);
}
