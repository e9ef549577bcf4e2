use Rattle.agg_laws.proofs.ExtremeLemmas.{least_some, least_none, greatest_some, greatest_none}
use Rattle.agg_laws.proofs.laws.extremes_law.Goals as goal

pub returns : goal.returns
returns c = record {
  least = least_some;
  no_least = least_none;
  greatest =
      greatest_some;
  no_greatest = greatest_none;
}
