use Rattle.agg_laws.specs.Rows.{merged_rows}
use Rattle.star_tree.proofs.ReadLemmas.{tree_read}
use Rattle.state_columns.proofs.DocLemmas.{rows_join}
use Rattle.star_tree.proofs.laws.reads_law.Goals as goal

pub returns : goal.returns
returns c t shape k docs ids no_star leaf some =
    tree_read merged_rows rows_join t k shape docs ids no_star leaf some
