use Rattle.std.proofs.Common.{◌≡◌, ◌∙◌, ◌+◌, ◌++◌, ◌<◌, ◌∷◌, [], suc, length, get_or, take, ap, sym, subst, arith}
use Rattle.std.proofs.lemmas.Bool.{false≢true}
use Rattle.std.proofs.lemmas.List.{take_more}
use Rattle.std.proofs.lemmas.Option.{get_or_from_slice_get}
use Rattle.values.specs.declared.value.Value.{Value}
use Rattle.state_columns.specs.Docs.{doc_at}
use Rattle.agg_laws.specs.Tree.{star}
use Rattle.star_reader.specs.declared.asked.GroupColumn.{GroupColumn}
use Rattle.star_reader.specs.Asked.{value_of}
use Rattle.star_reader.specs.Selected.{key_values}
use Rattle.star_reader.proofs.KeySteps.{value_there}
use Rattle.star_reader.proofs.TakeSteps.{key_id, key_value}
use Rattle.star_reader.proofs.key.is_key.Goals as goal

pub is_value-requires : goal.is_value-requires
is_value-requires c =
    let columns = c.args.columns.now in
    let ids = (doc_at c.args.selected.now.docs c.args.at).0 in
    let i = c.loop-i.i in
    let column : GroupColumn = get_or columns i c.index-columns-i.result in
    let lt : get_or ids i star < length column.values.now.values =
    key_id columns ids i c.index-columns-i.result star c.requires.ids c.loop-i-test.true in
    let own : c.dim-id.result < length column.values.now.values = omega (arith, lt, c.dim-id.ensures) in
    subst (λ (g : GroupColumn). c.dim-id.result < length g.values.now.values) (sym c.index-columns-i.is) own

pub returns-then-not-is_value : goal.returns-then-not-is_value
returns-then-not-is_value c =
    let columns = c.args.columns.now in
    let ids = (doc_at c.args.selected.now.docs c.args.at).0 in
    let i = c.loop-i.i in
    let own : Value = c.at.result.now in
    let column : GroupColumn = get_or columns i c.index-columns-i.result in
    let mine : get_or c.args.key.now i own ≡ own = get_or_from_slice_get c.args.key.now i own own c.at.ensures in
    let value : value_of c.index-columns-i.result c.dim-id.result ≡ value_of column (get_or ids i star) =
    ap (λ (g : GroupColumn). value_of g c.dim-id.result) c.index-columns-i.is ∙ ap (value_of column) c.dim-id.ensures in (
      λ e. absurd (false≢true e),
      λ is. let same : own ≡ value_of c.index-columns-i.result c.dim-id.result = sym mine ∙ ap (λ k. get_or k i own) is
          ∙ value_there columns ids i c.index-columns-i.result star own c.requires.ids c.loop-i-test.true ∙ sym value in
          sym c.if-not-is_value.true ∙ c.is_value.ensures.1 same,
    )

pub loop-i-preserved : goal.loop-i-preserved
loop-i-preserved c =
    let columns = c.args.columns.now in
    let ids = (doc_at c.args.selected.now.docs c.args.at).0 in
    let key = c.args.key.now in
    let i = c.loop-i.i in
    let own : Value = c.at.result.now in
    let column : GroupColumn = get_or columns i c.index-columns-i.result in
    let next : suc i ≡ i + 1 = omega arith in
    let mine : get_or key i own ≡ own = get_or_from_slice_get key i own own c.at.ensures in
    let value : get_or key i own ≡ value_of column (get_or ids i star) = mine
    ∙ c.is_value.ensures.0 c.if-not-is_value.false
    ∙ ap (λ (g : GroupColumn). value_of g c.dim-id.result) c.index-columns-i.is ∙ ap (value_of column) c.dim-id.ensures in
    take_more key i own (omega (arith, c.loop-i-test.true, c.requires.key))
    ∙ (λ j. c.loop-i.invariant j ++ value j ∷ [])
    ∙ sym (key_value columns ids i c.index-columns-i.result star c.requires.ids c.loop-i-test.true)
    ∙ ap (λ n. key_values (take n columns) ids) next
