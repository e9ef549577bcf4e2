use Rattle.std.proofs.Common.{◌≤◌, ◌∙◌, ◌<◌, Bor, List, ℕ, Bool, None, length, map, get_or, sym, subst, arith}
use Rattle.std.proofs.lemmas.List.{length-map}
use Rattle.csv_row.proofs.ColumnLemmas.{sort-at, widths}
use Rattle.csv_row.proofs.RowLemmas.{places-first, places-last}
use Rattle.csv_ingest.specs.Kept.{KeepsValues}
use Rattle.csv_ingest.specs.Parts.{field_value, line_cells}
use Rattle.csv_ingest.proofs.KeptLemmas.{keeps-all, keeps-more, keeps-none}
use Rattle.csv_ingest.proofs.kept_columns.push_plain.Goals as goal

pub keep_field-requires-clause-first : goal.keep_field-requires-clause-first
keep_field-requires-clause-first c =
    let now : Bor (List ℕ) → List ℕ = λ f. f.now in
    places-first (map now c.args.layout.now.names.now) c.args.layout.now.fields.now c.as_slice-places.result.now c.fields.i (c.as_slice-places.ensures.value ∙ c.requires.fits.layout.places)

pub keep_field-requires-clause-within : goal.keep_field-requires-clause-within
keep_field-requires-clause-within c =
    let now : Bor (List ℕ) → List ℕ = λ f. f.now in
    places-last (map now c.args.layout.now.names.now) c.args.layout.now.fields.now c.as_slice-places.result.now c.fields.i c.args.part.width (c.as_slice-places.ensures.value ∙ c.requires.fits.layout.places)
    (length-map c.args.layout.now.names.now now ∙ sym c.requires.fits.width)

pub keep_field-requires-clause-sort : goal.keep_field-requires-clause-sort
keep_field-requires-clause-sort c =
    let old = c.args.columns.now.items in
    let column = c.index_mut-column.result.now in
    sort-at c.args.layout.now.fields.now old c.fields.i column c.index-fields-i.result c.requires.fits.sorts c.fields-test.true (c.index_mut-column.ensures.value ∙ c.fields.invariant.rest c.fields.i column (omega arith)) c.index-fields-i.is

pub fields-init : goal.fields-init
fields-init c = keeps-none c.args.kept.now c.args.part c.args.layout.now.fields.now c.args.layout.now.places.items c.args.columns.now.items

pub fields-preserved : goal.fields-preserved
fields-preserved c =
    let part = c.args.part in
    let fields = c.args.layout.now.fields.now in
    let places = c.args.layout.now.places.items in
    let old = c.args.columns.now.items in
    let i = c.fields.i in
    let lt : i < length old = omega (arith, widths fields old c.requires.fits.sorts, c.fields-test.true) in
    let added = c.in_ok-keep_field.ensures c.if-not-branch.false in
    let values = subst (λ (ps : List _). KeepsValues c.is_kept-keep.result (λ r. field_value c.index-fields-i.result (get_or ps i None) (line_cells part r)) part.rows c.index_mut-column.result.now c.keep_field.new.column) c.as_slice-places.ensures.value added in
    keeps-more c.args.kept.now part fields places old c.fields.columns.items i c.index_mut-column.result.now c.keep_field.new.column c.index-fields-i.result c.fields.invariant lt c.fields-test.true c.index_mut-column.ensures.value c.index-fields-i.is
    (subst (λ (keep : Bool). KeepsValues keep (λ r. field_value c.index-fields-i.result (get_or places i None) (line_cells part r)) part.rows c.index_mut-column.result.now c.keep_field.new.column) c.is_kept-keep.ensures values)

pub returns : goal.returns
returns c = λ _.
    let fields = c.args.layout.now.fields.now in
    let old = c.args.columns.now.items in
    let all : length old ≤ c.fields.i = omega (arith, widths fields old c.requires.fits.sorts, c.fields-test.false) in
    keeps-all c.args.kept.now c.args.part fields c.args.layout.now.places.items old c.fields.columns.items c.fields.i all c.fields.invariant
