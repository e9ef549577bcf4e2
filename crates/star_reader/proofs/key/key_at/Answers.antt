use Rattle.std.proofs.Common.{◌≡◌, ◌∙◌, ◌+◌, ◌++◌, ◌∷◌, [], suc, pos, get_or, take, ap, sym, arith}
use Rattle.std.proofs.lemmas.Option.{get_or_from_slice_get}
use Rattle.values.specs.declared.value.Value.TheVariants.{Whole}
use Rattle.state_columns.specs.Docs.{doc_at}
use Rattle.agg_laws.specs.Tree.{star}
use Rattle.star_reader.specs.declared.asked.GroupColumn.{GroupColumn}
use Rattle.star_reader.specs.Asked.{value_of}
use Rattle.star_reader.specs.Selected.{key_values}
use Rattle.star_reader.proofs.TakeSteps.{key_id, key_value}
use Rattle.star_reader.proofs.key.key_at.Goals as goal

pub value_at-requires : goal.value_at-requires
value_at-requires c =
    let columns = c.args.columns.now in
    let ids = (doc_at c.args.selected.now.docs c.args.at).0 in
    let i = c.loop-i.i in
    let lt = key_id columns ids i c.index-columns-i.result star c.requires.ids c.loop-i-test.true in
    omega (arith, lt, c.dim-id.ensures)

pub loop-i-preserved : goal.loop-i-preserved
loop-i-preserved c =
    let columns = c.args.columns.now in
    let ids = (doc_at c.args.selected.now.docs c.args.at).0 in
    let i = c.loop-i.i in
    let column : GroupColumn = get_or columns i c.index-columns-i.result in
    let next : suc i ≡ i + 1 = omega arith in
    let value : c.in_ok-value_at.field-0 ≡ value_of column (get_or ids i star) =
    sym (get_or_from_slice_get column.values.now.values c.dim-id.result c.in_ok-value_at.field-0
    (Whole (pos 0)) c.in_ok-value_at.ensures)
    ∙ ap (value_of column) c.dim-id.ensures in
    c.in_ok-push.ensures.items ∙ (λ j. c.loop-i.invariant j ++ value j ∷ [])
    ∙ sym (key_value columns ids i c.index-columns-i.result star c.requires.ids c.loop-i-test.true)
    ∙ ap (λ n. key_values (take n columns) ids) next
