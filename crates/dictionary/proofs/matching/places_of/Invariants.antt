use Rattle.value_ids.proofs.MatchLemmas.{PlacesUpTo}
use Rattle.dictionary.proofs.matching.places_of.Given as goal

abbrev pub invariant-loop-member : goal.invariant-loop-member
invariant-loop-member l = PlacesUpTo l.members l.ascending.values.now l.member-index l.places.items
