use Rattle.std.proofs.Common.{◌≡◌, ◌∙◌, ◌<◌, length, get_or, sym, ap, subst, arith}
use Rattle.std.proofs.lemmas.Option.{get_or_from_slice_get}
use Rattle.table_schema.specs.declared.field.Field.{Field}
use Rattle.std.specs.List.{All}
use Rattle.value_ids.specs.Coding.{Codes}
use Rattle.value_ids.specs.Dictionary.{Fits}
use Rattle.segment_build.specs.declared.coded.CodedColumn.{CodedColumn}
use Rattle.segment_build.specs.declared.coded.ColumnValues.TheVariants as held
use Rattle.segment_build.specs.Fitting.{FitsKind}
use Rattle.segment_build.proofs.Built.{rows_fit}
use Rattle.segment_build.proofs.Codings.{AreCodingsOf, coded_all, coding_one, codings_more, codings_none}
use Rattle.segment_build.proofs.Fits.{columns_fit}
use Rattle.segment_build.proofs.coding.code_columns.Goals as goal

pub overflow_cast-rows : goal.overflow_cast-rows
overflow_cast-rows c =
    let at_most = rows_fit c.args.table.now c.args.columns.now c.len-rows.result c.requires.columns.counts c.requires.columns.rows c.len-rows.ensures.count in
    omega (arith, at_most)

pub columns-init : goal.columns-init
columns-init c = codings_none c.args.table.now c.args.columns.now c.in_ok-all.all.items c.in_ok-all.ensures.items

pub of_column-requires-clause-at_most : goal.of_column-requires-clause-at_most
of_column-requires-clause-at_most c =
    let column = c.column-column.result.now in
    let field = c.index-fields-at.result in
    let same = c.as_slice-fields.ensures in
    let lt : c.columns.at < length c.args.table.now.schema.fields = omega (arith, c.columns-test.true, ap length same) in
    let fits : FitsKind field.kind column =
    columns_fit c.args.table.now.schema.fields c.args.columns.now c.columns.at field column c.requires.columns lt
    (subst (λ fields. field ≡ get_or fields c.columns.at field) same c.index-fields-at.is)
    (sym (get_or_from_slice_get c.args.columns.now.columns c.columns.at column column c.column-column.ensures.place)) in
    fits.at_most

pub of_column-requires-clause-fit : goal.of_column-requires-clause-fit
of_column-requires-clause-fit c =
    let column = c.column-column.result.now in
    let field = c.index-fields-at.result in
    let same = c.as_slice-fields.ensures in
    let lt : c.columns.at < length c.args.table.now.schema.fields = omega (arith, c.columns-test.true, ap length same) in
    let fits : FitsKind field.kind column =
    columns_fit c.args.table.now.schema.fields c.args.columns.now c.columns.at field column c.requires.columns lt
    (subst (λ fields. field ≡ get_or fields c.columns.at field) same c.index-fields-at.is)
    (sym (get_or_from_slice_get c.args.columns.now.columns c.columns.at column column c.column-column.ensures.place)) in
    subst (λ (f : Field). All (Fits f.kind) column.values) c.index-fields-at.is fits.fit

pub columns-preserved : goal.columns-preserved
columns-preserved c =
    let table = c.args.table.now in
    let t = c.args.columns.now in
    let at = c.columns.at in
    let column = c.column-column.result.now in
    let field = c.index-fields-at.result in
    let same = c.as_slice-fields.ensures in
    let lt : at < length table.schema.fields = omega (arith, c.columns-test.true, ap length same) in
    let one : CodedColumn = record { values = held.Own c.in_ok-dictionary.dictionary; ids = c.alone-ids.result } in
    codings_more table t at c.columns.all.items _ one c.columns.invariant
    (coding_one table t at field column one lt (subst (λ fields. field ≡ get_or fields at field) same c.index-fields-at.is) c.column-column.ensures.place
    (c.in_ok-dictionary.ensures.kind ∙ ap (λ (f : Field). f.kind) (sym c.index-fields-at.is)) c.in_ok-dictionary.ensures.distinct
    (subst (λ ids. Codes c.in_ok-dictionary.dictionary.values ids column.values) (sym (c.alone-ids.ensures ∙ c.in_ok-of.ensures)) c.in_ok-dictionary.ensures.ids))
    c.in_ok-push.ensures.items

pub returns-clause-coded : goal.returns-clause-coded
returns-clause-coded c =
    let table = c.args.table.now in
    let t = c.args.columns.now in
    let end : c.columns.at ≡ length table.schema.fields = omega (arith, c.columns-test.false, c.columns.auto.at-end, ap length c.as_slice-fields.ensures) in
    (coded_all table t (record { columns = c.columns.all; rows = c.len-rows.result }) c.requires (subst (λ n. AreCodingsOf table t n c.columns.all.items) end c.columns.invariant) c.len-rows.ensures.count).0

pub returns-clause-rows : goal.returns-clause-rows
returns-clause-rows c =
    let table = c.args.table.now in
    let t = c.args.columns.now in
    let end : c.columns.at ≡ length table.schema.fields = omega (arith, c.columns-test.false, c.columns.auto.at-end, ap length c.as_slice-fields.ensures) in
    (coded_all table t (record { columns = c.columns.all; rows = c.len-rows.result }) c.requires (subst (λ n. AreCodingsOf table t n c.columns.all.items) end c.columns.invariant) c.len-rows.ensures.count).1
