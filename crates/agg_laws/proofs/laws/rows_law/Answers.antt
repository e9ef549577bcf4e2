use Rattle.agg_laws.specs.laws.Rows as rows
use Rattle.agg_laws.proofs.laws.rows_law.Goals as goal

pub returns : goal.returns
returns c = record {
  of_none = rows.of_none;
  nothing_added = rows.nothing_added;
  of_both = rows.of_both;
  any_grouping = rows.any_grouping;
  any_order = rows.any_order;
  permuted = rows.same_permuted;
  fits_both = rows.fits_both;
  fits_more = rows.fits_more;
}
