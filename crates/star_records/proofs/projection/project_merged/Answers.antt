use Rattle.std.proofs.Common.{length, ap, ◌∙◌, arith}
use Rattle.std.proofs.lemmas.Result.{IfOk-weaker}
use Rattle.state_columns.specs.Docs.{Docs}
use Rattle.agg_laws.specs.Merged.{weights}
use Rattle.agg_laws.specs.Rows.{merged_rows, row_weight}
use Rattle.agg_laws.specs.laws.Rows.{row_weight_both}
use Rattle.agg_laws.specs.Tree.{dims_order, merged_docs}
use Rattle.state_columns.proofs.WeightLemmas.{weights-Merged}
use Rattle.star_rows.specs.Columns.{row_count}
use Rattle.star_records.proofs.FoldSteps.{fewer}
use Rattle.star_records.proofs.projection.project_merged.Goals as goal

pub returns-in_ok-documents-in-None-clause-table : goal.returns-in_ok-documents-in-None-clause-table
returns-in_ok-documents-in-None-clause-table c =
    let of_rows = c.in_ok-documents-in-None.ensures.table in
    let rows = c.in_ok-documents-in-None.documents.docs in
    let less = weights-Merged row_weight dims_order merged_rows row_weight_both rows in
    IfOk-weaker c.merge_equal.result _ _ (λ (table : Docs) made.
    let same = ap (weights row_weight) made.docs_are in
    record {
      dims = made.dims ∙ of_rows.dims;
      kinds = made.kinds ∙ of_rows.kinds;
      docs_are = made.docs_are ∙ ap (merged_docs merged_rows) of_rows.docs_are;
      weight_fits = omega (arith, same, less, of_rows.weight_fits);
    }) c.merge_equal.ensures

pub returns-in_ok-documents-in-None-clause-count : goal.returns-in_ok-documents-in-None-clause-count
returns-in_ok-documents-in-None-clause-count c =
    let at_most = fewer c.args.shape.now.kinds c.args.dims c.args.metrics.now
    (row_count c.args.dims) in
    IfOk-weaker c.merge_equal.result _ _ (λ (table : Docs) made.
    let same = ap length (made.docs_are
    ∙ ap (merged_docs merged_rows) c.in_ok-documents-in-None.ensures.table.docs_are) in
    omega (arith, same, at_most)) c.merge_equal.ensures

pub returns-in-Some-clause-count : goal.returns-in-Some-clause-count
returns-in-Some-clause-count c =
    let at_most = fewer c.args.shape.now.kinds c.args.dims c.args.metrics.now
    (row_count c.args.dims) in
    IfOk-weaker c.merge_slots.result _ _ (λ (table : Docs) made.
    let same = ap length made.docs_are in
    omega (arith, same, at_most)) c.merge_slots.ensures

pub returns-in-Some-2-clause-count : goal.returns-in-Some-2-clause-count
returns-in-Some-2-clause-count c =
    let at_most = fewer c.args.shape.now.kinds c.args.dims c.args.metrics.now
    (row_count c.args.dims) in
    IfOk-weaker c.merge_in_order.result _ _ (λ (table : Docs) made.
    let same = ap length made.docs_are in
    omega (arith, same, at_most)) c.merge_in_order.ensures
