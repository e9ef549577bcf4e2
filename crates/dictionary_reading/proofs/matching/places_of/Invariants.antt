use Rattle.dictionary_reading.proofs.MatchedLemmas.{PlacesOf}
use Rattle.dictionary_reading.proofs.matching.places_of.Given as goal

abbrev pub invariant-loop-cut : goal.invariant-loop-cut
invariant-loop-cut l = PlacesOf l.cuts l.cut-index l.places.items
