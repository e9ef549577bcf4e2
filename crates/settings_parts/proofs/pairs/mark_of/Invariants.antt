use Rattle.std.proofs.Common.{◌≡◌, drop}
use Rattle.settings_parts.specs.Pairs.{mark_from}
use Rattle.settings_parts.proofs.pairs.mark_of.Given as goal

abbrev pub invariant-loop-at : goal.invariant-loop-at
invariant-loop-at l = mark_from l.at (drop l.at l.text) ≡ mark_from 0 l.text
