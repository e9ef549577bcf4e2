use Rattle.std.proofs.Common.{◌≡◌, sym, subst}
use Rattle.std.proofs.lemmas.Option.{get_or_from_slice_get}
use Rattle.table_schema.specs.declared.field.Field.{Field}
use Rattle.segment_build.specs.Fitting.{FitsKind}
use Rattle.segment_build.proofs.Fits.{columns_fit}
use Rattle.bench_parts.proofs.rows.count_values.Goals as goal

pub of_column-requires-clause-at_most : goal.of_column-requires-clause-at_most
of_column-requires-clause-at_most c =
    let column = c.column.result.now in
    (columns_fit c.args.fields.now c.args.columns.now c.columns.at c.index-fields-at.result column c.requires c.columns-test.true c.index-fields-at.is
    (sym (get_or_from_slice_get c.args.columns.now.columns c.columns.at column column c.column.ensures.place))).at_most

pub of_column-requires-clause-fit : goal.of_column-requires-clause-fit
of_column-requires-clause-fit c =
    let column = c.column.result.now in
    (subst (λ (f : Field). FitsKind f.kind column) c.index-fields-at.is
    (columns_fit c.args.fields.now c.args.columns.now c.columns.at c.index-fields-at.result column c.requires c.columns-test.true c.index-fields-at.is
    (sym (get_or_from_slice_get c.args.columns.now.columns c.columns.at column column c.column.ensures.place)))).fit
