use Rattle.agg_laws.specs.laws.States as states
use Rattle.agg_laws.proofs.laws.aggregates_law.Goals as goal

pub returns : goal.returns
returns c = record {
  of_none = states.of_none;
  nothing_added = states.nothing_added;
  of_both = states.of_both;
  any_grouping = states.any_grouping;
  any_order = states.any_order;
  permuted = states.same_permuted;
  fits_of = states.fits_of;
  fits_both = states.fits_both;
  fits_more = states.fits_more;
}
