use Rattle.std.proofs.Common.{◌≡◌, ◌<◌, ◌++◌, ◌∷◌, [], List, length, pos, refl, sym, ap, ◌∙◌}
use Rattle.std.proofs.Common.{arith}
use Rattle.std.proofs.lemmas.Option.{get_or_from_slice_get}
use Rattle.state_columns.specs.Docs.{Doc, projected}
use Rattle.star_rows.specs.Columns.{row_count, row_at, rows_of}
use Rattle.star_rows.specs.Words.{ids_at, states_at}
use Rattle.star_rows.proofs.RowLemmas as rows
use Rattle.star_rows.proofs.projection.project.Goals as goal

pub project_row-requires : goal.project_row-requires
project_row-requires c =
    let dims = c.args.dims.now in
    let some : 0 < length dims = omega (arith, c.requires.dims, c.requires.some_dims) in
    let count = rows.count_is dims c.at.result.now some
    (sym (get_or_from_slice_get dims 0 c.at.result.now c.at.result.now c.at.ensures)) in
    record {
      dims = c.requires.dims ∙ sym c.loop-row.invariant.dims;
      metrics = c.requires.metrics ∙ ap length (sym c.loop-row.invariant.kinds);
      ids_long = rows.in_all (row_count dims) c.loop-row.row dims
          (omega (arith, c.loop-row-test.true, c.len-rows.ensures, count)) c.requires.ids_long;
      values_long = rows.in_all (row_count dims) c.loop-row.row c.args.metrics.now
          (omega (arith, c.loop-row-test.true, c.len-rows.ensures, count)) c.requires.values_long;
    }

pub loop-row-preserved : goal.loop-row-preserved
loop-row-preserved c =
    let dims = c.args.dims.now in
    let metrics = c.args.metrics.now in
    let row = c.loop-row.row in
    let v = c.loop-row.table in
    let inv = c.loop-row.invariant in
    let added = c.in_ok-project_row.ensures in
    let e : Doc = (ids_at dims row, states_at v.kinds metrics row) in
    let lengths = rows.one_longer v.docs c.project_row.new.table.docs e added.appended in
    let heavy = rows.one_heavier v.docs c.project_row.new.table.docs e added.appended added.weighs in
    record {
      dims = added.dims ∙ inv.dims;
      kinds = added.kinds ∙ inv.kinds;
      docs = added.appended ∙ ap (λ (l : List Doc). l ++ (e ∷ [])) inv.docs
          ∙ rows.rows_more row dims metrics c.args.shape.now.kinds v.kinds (ids_at dims row)
          (row_at (pos 0) row metrics) inv.kinds refl refl;
      count = omega (arith, lengths, inv.count);
      weight_fits = omega (arith, heavy, inv.weight_fits);
    }

pub returns-clause-table : goal.returns-clause-table
returns-clause-table c =
    let dims = c.args.dims.now in
    let metrics = c.args.metrics.now in
    let kinds = c.args.shape.now.kinds in
    let some : 0 < length dims = omega (arith, c.requires.dims, c.requires.some_dims) in
    let count = rows.count_is dims c.at.result.now some
    (sym (get_or_from_slice_get dims 0 c.at.result.now c.at.result.now c.at.ensures)) in
    let end : c.loop-row.row ≡ row_count dims =
    omega (arith, c.loop-row.auto.row-end, c.loop-row-test.false, c.len-rows.ensures, count) in
    record {
      dims = c.loop-row.invariant.dims;
      kinds = c.loop-row.invariant.kinds;
      docs_are = c.loop-row.invariant.docs
          ∙ ap (λ n. projected kinds (rows_of n dims metrics)) end;
      weight_fits = omega (arith, end, c.loop-row.invariant.weight_fits);
    }
