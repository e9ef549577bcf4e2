use Rattle.std.proofs.Common.{◌≡◌, ◌≤◌, ◌++◌, ◌∷◌, [], List, pos, ap, subst, ◌∙◌}
use Rattle.agg_laws.specs.declared.aggregate_kind.AggKind.{AggKind}
use Rattle.state_columns.specs.Docs.{Docs}
use Rattle.agg_laws.specs.Rows.{row_of, row_weight}
use Rattle.star_rows.specs.Columns.{row_at}
use Rattle.star_rows.proofs.RowLemmas as rows
use Rattle.star_rows.proofs.projection.project_row.Goals as goal

pub returns : goal.returns
returns c =
    let row = c.args.row in
    let room = c.in_ok-reserve.ensures.ok in
    let is = c.append_values.ensures.appended in
    let ids : c.as_slice.result.now ≡ row_at 0 row c.args.dims.now = c.as_slice.ensures.value
    ∙ rows.is_row 0 row c.args.dims.now c.read_row.new.out.items
    c.in_ok-read_row.ensures.items c.requires.ids_long in
    let values : c.as_slice-2.result.now ≡ row_at (pos 0) row c.args.metrics.now =
    c.as_slice-2.ensures.value
    ∙ rows.is_row (pos 0) row c.args.metrics.now c.read_row-2.new.out.items
    c.in_ok-read_row-2.ensures.items c.requires.values_long in
    let same = ap (λ (d : Docs). d.kinds) room in
    record {
      appended = ap (λ (d : Docs). d.docs) is
          ∙ (λ i. (room i).docs ++ ((ids i, row_of (same i) (values i ∷ [])) ∷ []));
      weighs = subst (λ xs. row_weight (row_of c.args.table.now.kinds (xs ∷ [])) ≤ 1) values
          (subst (λ (ks : List AggKind). row_weight (row_of ks (c.as_slice-2.result.now ∷ [])) ≤ 1)
          same c.append_values.ensures.weight_fits);
      dims = ap (λ (d : Docs). d.dims) is ∙ ap (λ (d : Docs). d.dims) room;
      kinds = ap (λ (d : Docs). d.kinds) is ∙ same;
    }
