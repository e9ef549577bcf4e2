use Rattle.std.proofs.Common.{◌≡◌, map, take}
use Rattle.csv_row.specs.Row.{place_of}
use Rattle.csv_row.proofs.layout.places_of.Given as goal

abbrev pub invariant-loop-i : goal.invariant-loop-i
invariant-loop-i l = l.places.items ≡ map (place_of (map (λ f. f.now) l.names)) (take l.i l.fields)
