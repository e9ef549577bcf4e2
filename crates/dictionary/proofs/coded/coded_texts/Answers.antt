use Rattle.std.proofs.Common.{◌∙◌, ap, map, subst, sym}
use Rattle.std.specs.List.{All}
use Rattle.values.specs.declared.value.Value.TheVariants.{Text}
use Rattle.value_ids.specs.Coding.{renumbered}
use Rattle.value_ids.specs.Dictionary.{IsUnicode}
use Rattle.dictionary.proofs.RankedValues.{text_ranks}
use Rattle.dictionary.proofs.coded.coded_texts.Goals as goal

pub returns : goal.returns
returns c =
    let names = c.parts.result.0.now in
    let ids = c.parts.result.1.now in
    let order = c.in_ok-texts.ensures in
    let ranking = c.in_ok-texts.field-0.ranking in
    text_ranks c.args.texts.now names ranking.order.items ranking.ranks.items ids c.in_ok-ids.ids.items c.of_texts.result order.ranks c.parts.ensures.rows c.parts.ensures.coding
    (c.of_texts.ensures ∙ ap (map Text) order.are) (subst (All IsUnicode) (sym c.of_texts.ensures) order.unicode)
    (c.in_ok-ids.ensures ∙ ap (λ ranks. renumbered ranks ids) c.deref.ensures.value)
