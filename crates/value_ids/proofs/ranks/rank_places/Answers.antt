use Rattle.std.proofs.Common.{ℕ, get_or}
use Rattle.value_ids.proofs.CodingLemmas.{renumber-one}
use Rattle.value_ids.proofs.ranks.rank_places.Goals as goal

pub places-preserved : goal.places-preserved
places-preserved c = renumber-one (λ (id : ℕ). get_or c.args.ranks.now id 0) c.args.ids.now c.places.ids c.places.at c.places-test.true c.places.invariant
