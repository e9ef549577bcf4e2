use Rattle.std.proofs.Common.{◌∙◌, ◌<◌, Bor, List, ℕ, None, length, map, get_or, sym, subst, arith}
use Rattle.std.proofs.lemmas.List.{length-map}
use Rattle.csv_row.proofs.ColumnLemmas.{sort-at, widths}
use Rattle.csv_row.proofs.RowLemmas.{places-first, places-last}
use Rattle.csv_ingest.specs.Parts.{AddsValues, field_value, line_cells}
use Rattle.csv_ingest.proofs.PartRows.{some-more}
use Rattle.csv_ingest.proofs.part_columns.push_fields.Goals as goal

pub push_field-requires-clause-first : goal.push_field-requires-clause-first
push_field-requires-clause-first c =
    let now : Bor (List ℕ) → List ℕ = λ f. f.now in
    places-first (map now c.args.layout.now.names.now) c.args.layout.now.fields.now c.as_slice-places.result.now c.fields.i (c.as_slice-places.ensures.value ∙ c.requires.layout.places)

pub push_field-requires-clause-within : goal.push_field-requires-clause-within
push_field-requires-clause-within c =
    let now : Bor (List ℕ) → List ℕ = λ f. f.now in
    places-last (map now c.args.layout.now.names.now) c.args.layout.now.fields.now c.as_slice-places.result.now c.fields.i c.args.part.width (c.as_slice-places.ensures.value ∙ c.requires.layout.places)
    (length-map c.args.layout.now.names.now now ∙ sym c.requires.width)

pub fields-preserved : goal.fields-preserved
fields-preserved c =
    let part = c.args.part in
    let fields = c.args.layout.now.fields.now in
    let places = c.args.layout.now.places.items in
    let old = c.args.columns.now.items in
    let i = c.fields.i in
    let lt : i < length old = omega (arith, widths fields old c.requires.sorts, c.fields-test.true) in
    let added = c.in_ok-push_field.ensures c.if-not-branch.false in
    some-more part fields places old c.fields.columns.items i c.index_mut-column.result.now c.push_field.new.column c.index-fields-i.result c.fields.invariant lt c.fields-test.true c.index_mut-column.ensures.value c.index-fields-i.is
    (subst (λ ps. AddsValues (λ r. field_value c.index-fields-i.result (get_or ps i None) (line_cells part r)) part.rows c.index_mut-column.result.now c.push_field.new.column) c.as_slice-places.ensures.value added)

pub push_field-requires-clause-sort : goal.push_field-requires-clause-sort
push_field-requires-clause-sort c =
    let old = c.args.columns.now.items in
    let column = c.index_mut-column.result.now in
    sort-at c.args.layout.now.fields.now old c.fields.i column c.index-fields-i.result c.requires.sorts c.fields-test.true (c.index_mut-column.ensures.value ∙ c.fields.invariant.rest c.fields.i column (omega arith)) c.index-fields-i.is
