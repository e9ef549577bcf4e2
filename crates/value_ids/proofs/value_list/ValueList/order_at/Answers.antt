use Rattle.std.proofs.Common.{◌∙◌, ap, sym}
use Rattle.std.specs.Cmp.Lexicographic.{slice_cmp}
use Rattle.std.specs.Ordering.{nat_cmp}
use Rattle.value_ids.specs.Lists.Cells.{listed}
use Rattle.value_ids.proofs.ListLemmas.{number_before, text_after, texts_compared}
use Rattle.value_ids.proofs.value_list.ValueList.order_at.Goals as goal

pub returns-in-Texts : goal.returns-in-Texts
returns-in-Texts c = λ d.
    text_after c.args.self.now c.in-Texts.field-0 c.args.at d c.args.bound.now c.in-Whole.number (sym c.self.view_is ∙ ap listed c.in-Texts.is) c.requires c.in-Whole.is

pub returns-in-Block : goal.returns-in-Block
returns-in-Block c = λ d.
    text_after c.args.self.now c.in-Block.field-0 c.args.at d c.args.bound.now c.in-Whole.number (sym c.self.view_is ∙ ap listed c.in-Block.is) c.requires c.in-Whole.is

pub returns-in-Some : goal.returns-in-Some
returns-in-Some c = λ d.
    texts_compared c.args.self.now c.args.at d c.args.bound.now c.in-Some.own.now c.in-Text.text c.in-Some.ensures.place c.in-Text.is
    ∙ ap (slice_cmp nat_cmp c.in-Some.own.now) (sym c.as_slice.ensures) ∙ sym c.cmp-in-Some.ensures

pub returns-in-None : goal.returns-in-None
returns-in-None c = λ d. number_before c.args.self.now c.in-None.ensures.place.0 c.args.at d c.args.bound.now c.in-Text.text c.in-None.ensures.place.1 c.requires c.in-Text.is
