use Rattle.std.proofs.Common.{◌≡◌, take, None}
use Rattle.cursors.specs.Kept.{place_under}
use Rattle.cursors.proofs.places.place_of.Given as goal

abbrev pub invariant-cursors : goal.invariant-cursors
invariant-cursors l = place_under l.name (take l.at l.cursors) ≡ None
