use Rattle.std.proofs.Common.{◌≡◌, ◌∙◌, ◌<◌, All, List, ℤ, length, map, refl, sym, ap, subst, arith}
use Rattle.std.proofs.lemmas.List.{length-map}
use Rattle.segment_file.proofs.TreeChecks.{few_kinds}
use Rattle.star_rows.specs.Columns as records
use Rattle.star_rows.specs.Columns.{row_count}
use Rattle.state_columns.specs.Docs.{projected}
use Rattle.agg_laws.specs.Rows.{merged_rows}
use Rattle.agg_laws.specs.Tree.{merged_docs}
use Rattle.table_schema.specs.declared.query.Agg.{Agg}
use Rattle.segment_file.specs.Columns.{ids_of}
use Rattle.segment_file.specs.Trees.{number_for}
use Rattle.segment_build.specs.Coded.{AreThere, columns_in, ids_at}
use Rattle.segment_build.specs.Numbers.{IsKnown, numbers_for}
use Rattle.values.specs.Columns.{rows_of}
use Rattle.segment_build.proofs.Codings.{many_columns, split_given}
use Rattle.segment_build.proofs.ColumnCodes.{rows_most}
use Rattle.segment_build.proofs.Growing.{dims_count, dims_long, docs_made, metrics_long, pair_columns, pairs_known, split_within}
use Rattle.segment_build.proofs.trees.merged_of_tree.Goals as goal

pub make_numbers-requires-clause-columns : goal.make_numbers-requires-clause-columns
make_numbers-requires-clause-columns c =
    let table = c.args.table.now in
    let coded = c.args.coded.now in
    let n = length coded.columns.items in
    subst (All (λ (p : Agg). IsKnown n p.column)) (sym c.as_slice-pairs.ensures) (pairs_known table.schema.fields n c.args.tree.now.pairs (many_columns table coded c.requires.rows) c.requires.tree.pairs_fit)

pub pair_numbers-requires : goal.pair_numbers-requires
pair_numbers-requires c =
    let table = c.args.table.now in
    let coded = c.args.coded.now in
    let made = c.make_numbers.new.made.items in
    let wide : length c.as_slice.result.now ≡ length table.schema.fields =
    ap length c.as_slice.ensures.value ∙ sym (length-map made (λ v. v.items)) ∙ c.in_ok-make_numbers.ensures.have.many ∙ c.requires.rows.of_table.columns.width in
    subst (All (λ (p : Agg). IsKnown (length c.as_slice.result.now) p.column)) (sym c.as_slice-pairs.ensures) (pairs_known table.schema.fields (length c.as_slice.result.now) c.args.tree.now.pairs wide c.requires.tree.pairs_fit)

pub split_ids-requires : goal.split_ids-requires
split_ids-requires c =
    let table = c.args.table.now in
    let coded = c.args.coded.now in
    subst (All (λ column. column < length coded.columns.items)) (sym c.as_slice-2.ensures)
    (split_within table.schema.fields (length coded.columns.items) c.args.tree.now.split (many_columns table coded c.requires.rows) c.requires.tree.split_known)

pub project_merged-requires-clause-columns : goal.project_merged-requires-clause-columns
project_merged-requires-clause-columns c =
    let table = c.args.table.now in
    let coded = c.args.coded.now in
    let t = columns_in coded in
    let tree = c.args.tree.now in
    let os = rows_of t in
    let valid = c.requires.tree in
    let columns = c.requires.rows.of_table.columns in
    let within = split_within table.schema.fields (length coded.columns.items) tree.split (many_columns table coded c.requires.rows) valid.split_known in
    let dims_are : c.in_ok-dims.dims ≡ map (ids_of os) tree.split = c.in_ok-dims.ensures ∙ ap (map (ids_at coded)) c.as_slice-2.ensures ∙ split_given table coded tree.split c.requires.rows within in
    let known = pairs_known table.schema.fields (length t.columns) tree.pairs columns.width valid.pairs_fit in
    let there = subst (λ (ls : List (List ℤ)). All (λ (p : Agg). AreThere t ls p.column) c.as_slice-pairs.result.now) (ap (map (λ v. v.items)) (sym c.as_slice.ensures.value)) c.in_ok-make_numbers.ensures.there in
    let metrics_are : c.in_ok-metrics.metrics ≡ map (λ p. map (λ row. number_for row p) os) tree.pairs =
    c.in_ok-metrics.ensures t refl there ∙ ap (map (λ p. numbers_for t p.column)) c.as_slice-pairs.ensures ∙ pair_columns table.schema.fields t tree.pairs columns known in
    record {
      few_kinds = few_kinds table.schema.fields tree valid;
      some_dims = omega (arith, valid.has_dims, valid.some_split);
      dims = ap length dims_are ∙ length-map tree.split (ids_of os) ∙ sym valid.has_dims;
      metrics = ap length metrics_are ∙ length-map tree.pairs (λ p. map (λ row. number_for row p) os)
          ∙ sym (length-map tree.pairs (λ p. p.kind)) ∙ ap length (sym valid.has_kinds);
      ids_long = dims_long os tree.split c.in_ok-dims.dims valid.some_split dims_are;
      values_long = metrics_long os tree.pairs c.in_ok-metrics.metrics (row_count c.in_ok-dims.dims) (dims_count os tree.split c.in_ok-dims.dims valid.some_split dims_are) metrics_are;
    }

pub project_merged-requires-clause-at_most : goal.project_merged-requires-clause-at_most
project_merged-requires-clause-at_most c =
    let table = c.args.table.now in
    let coded = c.args.coded.now in
    let t = columns_in coded in
    let tree = c.args.tree.now in
    let os = rows_of t in
    let valid = c.requires.tree in
    let columns = c.requires.rows.of_table.columns in
    let within = split_within table.schema.fields (length coded.columns.items) tree.split (many_columns table coded c.requires.rows) valid.split_known in
    let dims_are : c.in_ok-dims.dims ≡ map (ids_of os) tree.split = c.in_ok-dims.ensures ∙ ap (map (ids_at coded)) c.as_slice-2.ensures ∙ split_given table coded tree.split c.requires.rows within in
    omega (arith, dims_count os tree.split c.in_ok-dims.dims valid.some_split dims_are, rows_most table.schema.fields t columns)

pub returns-clause-merged : goal.returns-clause-merged
returns-clause-merged c =
    let table = c.args.table.now in
    let coded = c.args.coded.now in
    let t = columns_in coded in
    let tree = c.args.tree.now in
    let os = rows_of t in
    let valid = c.requires.tree in
    let columns = c.requires.rows.of_table.columns in
    let within = split_within table.schema.fields (length coded.columns.items) tree.split (many_columns table coded c.requires.rows) valid.split_known in
    let dims_are : c.in_ok-dims.dims ≡ map (ids_of os) tree.split = c.in_ok-dims.ensures ∙ ap (map (ids_at coded)) c.as_slice-2.ensures ∙ split_given table coded tree.split c.requires.rows within in
    let known = pairs_known table.schema.fields (length t.columns) tree.pairs columns.width valid.pairs_fit in
    let there = subst (λ (ls : List (List ℤ)). All (λ (p : Agg). AreThere t ls p.column) c.as_slice-pairs.result.now) (ap (map (λ v. v.items)) (sym c.as_slice.ensures.value)) c.in_ok-make_numbers.ensures.there in
    let metrics_are : c.in_ok-metrics.metrics ≡ map (λ p. map (λ row. number_for row p) os) tree.pairs =
    c.in_ok-metrics.ensures t refl there ∙ ap (map (λ p. numbers_for t p.column)) c.as_slice-pairs.ensures ∙ pair_columns table.schema.fields t tree.pairs columns known in
    let rows = projected tree.shape.kinds (records.rows_of (row_count c.in_ok-dims.dims) c.in_ok-dims.dims c.in_ok-metrics.metrics) in
    let count = dims_count os tree.split c.in_ok-dims.dims valid.some_split dims_are in
    let most = rows_most table.schema.fields t columns in
    let made = c.in_ok-docs.ensures in
    record {
      dims = made.table.dims;
      kinds = made.table.kinds;
      are = made.table.docs_are ∙ ap (merged_docs merged_rows) (docs_made os tree c.in_ok-dims.dims c.in_ok-metrics.metrics rows valid.some_split dims_are metrics_are refl);
      at_most = omega (arith, made.count, count, most);
      weight_fits = omega (arith, made.table.weight_fits, count, most);
    }
