use Rattle.std.proofs.Common.{◌∙◌, ap, map, pos}
use Rattle.values.specs.declared.value.Value.TheVariants.{Whole}
use Rattle.dictionary.specs.Ranking.{at_places}
use Rattle.dictionary.proofs.RankedValues.{number_rows}
use Rattle.dictionary.proofs.coded.sorted_numbers.Goals as goal

pub returns : goal.returns
returns c =
    number_rows c.args.numbers.now c.in_ok-order.field-0.order.items c.in_ok-order.field-0.ranks.items c.of_numbers-values.result c.in_ok-order.ensures
    (c.of_numbers-values.ensures ∙ ap (map Whole) c.in_ok-numbers_at.ensures ∙ ap (λ places. map Whole (at_places (pos 0) c.args.numbers.now places)) c.deref.ensures.value)
