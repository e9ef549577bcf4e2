use Rattle.std.proofs.Common.{◌≡◌, ◌∙◌, ◌<◌, ◌++◌, ◌∷◌, [], Bor, List, ℕ, length, map, ap, refl, sym, arith, length-append}
use Rattle.std.proofs.lemmas.List.{length-map}
use Rattle.csv.specs.Records.{fields_of}
use Rattle.values.specs.Columns.{Listed}
use Rattle.values.proofs.RowLemmas.{length-push, push-nil}
use Rattle.csv_row.specs.Row.{place_of, value_at}
use Rattle.csv_row.proofs.InOrder.{after-none, item-one}
use Rattle.csv_row.proofs.ColumnLemmas.{column-set, sort-at, sorts-stay, value-given, widths}
use Rattle.csv_row.proofs.RowLemmas.{places-first, places-last}
use Rattle.csv_row.proofs.layout.Layout.push_values.Goals as goal

pub values-init : goal.values-init
values-init c = ([], refl, after-none _, sym (push-nil c.args.columns.now.items))

pub index_mut-column-requires : goal.index_mut-column-requires
index_mut-column-requires c =
    let (done, count, so_far, are) = c.values.invariant in
    let wide : length c.values.columns.items ≡ length c.args.self.now.fields.now = ap length are ∙ length-push c.args.columns.now.items done ∙ widths c.args.self.now.fields.now c.args.columns.now.items c.requires.sorts in
    omega (arith, c.values.columns.ok.0, wide, c.values-test.true)

pub push_field-requires-clause-place : goal.push_field-requires-clause-place
push_field-requires-clause-place c =
    let now : Bor (List ℕ) → List ℕ = λ f. f.now in
    record {
      first = places-first (map now c.args.self.now.names.now) c.args.self.now.fields.now c.as_slice-places.result.now c.values.i (c.as_slice-places.ensures.value ∙ c.requires.layout.places);
      within = places-last (map now c.args.self.now.names.now) c.args.self.now.fields.now c.as_slice-places.result.now c.values.i (length (fields_of c.args.cells.now)) (c.as_slice-places.ensures.value ∙ c.requires.layout.places) (length-map c.args.self.now.names.now now ∙ sym c.requires.width);
      at_most = omega (arith, c.requires.width, c.requires.layout.at_most);
    }

pub push_field-requires-clause-sort : goal.push_field-requires-clause-sort
push_field-requires-clause-sort c =
    let (done, count, so_far, are) = c.values.invariant in
    sort-at c.args.self.now.fields.now c.values.columns.items c.values.i c.index_mut-column.result.now c.index-fields-i.result
    (sorts-stay c.args.self.now.fields.now c.args.columns.now.items done c.values.columns.items c.requires.sorts are) c.values-test.true c.index_mut-column.ensures.value c.index-fields-i.is

pub values-preserved : goal.values-preserved
values-preserved c =
    let now : Bor (List ℕ) → List ℕ = λ f. f.now in
    let header : List (List ℕ) = map now c.args.self.now.names.now in
    let cells : List (List ℕ) = fields_of c.args.cells.now in
    let fields = c.args.self.now.fields.now in
    let old : List Listed = c.args.columns.now.items in
    let (done, count, so_far, are) = c.values.invariant in
    let p = c.in-Ok.ensures.ok in
    let lt : c.values.i < length old = omega (arith, widths fields old c.requires.sorts, c.values-test.true) in (
      done ++ p.value ∷ [],
      omega (arith, length-append done (p.value ∷ []), count),
      item-one (λ field. value_at c.args.row cells field (place_of header field)) c.values.i fields c.index-fields-i.result done p.value _ c.values-test.true
          (value-given header cells fields c.as_slice-places.result.now c.args.row c.values.i c.index-fields-i.result _ (c.as_slice-places.ensures.value ∙ c.requires.layout.places) c.values-test.true c.index-fields-i.is p.given_is) so_far,
      column-set old done c.values.columns.items c.values.i c.index_mut-column.result.now c.push_field.new.column p.value count lt are c.index_mut-column.ensures.value p.new_is,
    )
