use Rattle.std.proofs.Common.{◌≡◌, pos, take}
use Rattle.dictionary.specs.Ranking.{at_places}
use Rattle.dictionary.proofs.coded.numbers_at.Given as goal

abbrev pub invariant-loop-place : goal.invariant-loop-place
invariant-loop-place l = l.own.items ≡ at_places (pos 0) l.numbers (take l.place-index l.places)
