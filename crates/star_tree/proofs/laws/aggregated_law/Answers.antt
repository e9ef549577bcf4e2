use Rattle.agg_laws.specs.Rows.{merged_rows}
use Rattle.state_columns.proofs.DocLemmas.{rows_join}
use Rattle.state_columns.proofs.AggregatedLemmas.{aggregated_is}
use Rattle.star_tree.proofs.laws.aggregated_law.Goals as goal

pub returns : goal.returns
returns c k rows docs path ids short covers =
    aggregated_is merged_rows rows_join k rows docs path ids short covers.docs_are
