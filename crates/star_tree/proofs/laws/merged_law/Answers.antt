use Rattle.std.proofs.lemmas.Cmp.{nat_list_cmp_total}
use Rattle.agg_laws.specs.Rows.{merged_rows}
use Rattle.agg_laws.specs.Tree.{dims_order, set_star}
use Rattle.state_columns.proofs.MergedLemmas.{Merged-permutation, Merged-rekey, filter-Merged}
use Rattle.state_columns.proofs.MergedLemmas.{total-Merged}
use Rattle.state_columns.proofs.ListLemmas.{same_dims}
use Rattle.state_columns.proofs.DocLemmas.{rows_join, ascending, own_entries, only}
use Rattle.star_tree.proofs.laws.merged_law.Goals as goal

pub returns : goal.returns
returns c = record {
  ascending = ascending;
  own_entries = own_entries;
  only = only;
  any_order = Merged-permutation dims_order nat_list_cmp_total same_dims merged_rows rows_join;
  starred = λ d. Merged-rekey dims_order nat_list_cmp_total same_dims dims_order nat_list_cmp_total
      same_dims merged_rows rows_join (set_star d);
  part = filter-Merged dims_order nat_list_cmp_total same_dims merged_rows rows_join;
  whole = total-Merged dims_order nat_list_cmp_total same_dims merged_rows rows_join;
}
