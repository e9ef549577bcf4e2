use Rattle.std.proofs.Common.{◌≡◌, ◌≤◌, ◌<◌, ◌∙◌, ℕ, List, length, get_or, pos, take, ap, arith}
use Rattle.std.proofs.lemmas.List.{get_or_default, take_all}
use Rattle.std.proofs.lemmas.Option.{slice_get-get_or}
use Rattle.values.specs.declared.value.Value.{Value}
use Rattle.values.specs.declared.value.Value.TheVariants.{Whole}
use Rattle.value_ids.specs.Coding.{values_at}
use Rattle.segment_check.proofs.ColumnLemmas.{value_suits, values_more}
use Rattle.segment_check.proofs.columns.column_of.Goals as goal

pub ids-init : goal.ids-init
ids-init c = record {
  sort = ap (λ l. l.are_texts) (c.in_ok-reserve.ensures ∙ c.empty_column-column.ensures);
  values = ap (λ l. l.values) (c.in_ok-reserve.ensures ∙ c.empty_column-column.ensures);
}

pub push_value-requires-clause-id : goal.push_value-requires-clause-id
push_value-requires-clause-id c =
    let lt : c.ids.row < length c.args.ids.now = omega (arith, c.ids-test.true) in
    c.requires.below c.ids.row 0 lt

pub push_value-requires-clause-sort : goal.push_value-requires-clause-sort
push_value-requires-clause-sort c =
    let ids : List ℕ = c.args.ids.now in
    let at : ℕ = c.ids.row in
    let id : ℕ = get_or ids at 0 in
    let lt : at < length ids = omega (arith, c.ids-test.true) in
    let values : List Value = c.args.dictionary.now.values in
    value_suits c.args.kind c.args.dictionary.now c.ids.column.are_texts id (get_or values id (Whole (pos 0))) c.requires.kind c.requires.stands.fit
    (slice_get-get_or values id (Whole (pos 0)) (c.requires.below at 0 lt)) c.ids.invariant.sort

pub returns : goal.returns
returns c =
    let end : length c.args.ids.now ≤ c.ids.row = omega (arith, c.ids-test.false) in
    c.ids.invariant.values ∙ ap (values_at c.args.dictionary.now.values) (take_all c.ids.row c.args.ids.now end)

pub ids-preserved : goal.ids-preserved
ids-preserved c =
    let ids : List ℕ = c.args.ids.now in
    let at : ℕ = c.ids.row in
    let id : ℕ = get_or ids at 0 in
    let lt : at < length ids = omega (arith, c.ids-test.true) in
    let values : List Value = c.args.dictionary.now.values in
    let pushes = c.in_ok-push_value.ensures in
    record {
      sort = ap (λ l. l.are_texts) pushes ∙ c.ids.invariant.sort;
      values = ap (λ l. l.values) pushes
          ∙ values_more values c.ids.column.values ids at id 0 (get_or values id (Whole (pos 0))) lt (get_or_default ids at 0 id lt)
          (slice_get-get_or values id (Whole (pos 0)) (c.requires.below at 0 lt)) c.ids.invariant.values;
    }
