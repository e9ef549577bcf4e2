use Rattle.std.proofs.Common.{◌∙◌, ◌<◌, refl, sym, ap, subst}
use Rattle.std.proofs.lemmas.Option.{get_or_from_slice_get}
use Rattle.values.specs.Columns.{Listed, pushed}
use Rattle.values.proofs.RowLemmas.{push-nil}
use Rattle.segment_build.proofs.RowLemmas.{value_more, value_suits}
use Rattle.segment_build.proofs.columns.push_row.Goals as goal

pub values-init : goal.values-init
values-init c = sym (push-nil c.args.columns.now)

pub push-requires : goal.push-requires
push-requires c =
    let row = c.args.row.now in
    let value = c.at.result.now in
    let column = c.index-columns-at.result in
    ap (λ (x : Listed). x.are_texts) (sym c.index-columns-at.is)
    ∙ value_suits c.args.columns.now c.values.columns row _ c.values.at column value c.requires c.values.invariant (subst (λ n. c.values.at < n) c.len-at-end.ensures c.values-test.true) c.index-columns-at.is
    (sym (get_or_from_slice_get row c.values.at value value c.at.ensures))

pub values-preserved : goal.values-preserved
values-preserved c =
    let row = c.args.row.now in
    let value = c.at.result.now in
    let column = c.index-columns-at.result in
    value_more c.args.columns.now c.values.columns _ row c.values.at column c.push.new.self value c.requires c.values.invariant (subst (λ n. c.values.at < n) c.len-at-end.ensures c.values-test.true)
    c.index-columns-at.is (sym (get_or_from_slice_get row c.values.at value value c.at.ensures))
    (c.in_ok-push.ensures ∙ ap (λ (x : Listed). pushed x value) (sym c.index-columns-at.is)) refl
