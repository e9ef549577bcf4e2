use Rattle.std.proofs.Common.{◌≡◌, take}
use Rattle.value_ids.specs.Coding.{renumbered}
use Rattle.dictionary.proofs.coded.ranked.Given as goal

abbrev pub invariant-loop-place : goal.invariant-loop-place
invariant-loop-place l = l.ids.items ≡ renumbered l.ranks (take l.place-index l.places)
