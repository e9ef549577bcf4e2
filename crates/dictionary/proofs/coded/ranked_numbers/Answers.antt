use Rattle.std.proofs.Common.{◌≡◌, ◌∙◌, ℕ, ℤ, List, ap, ap₂, length, map, pos, subst, sym}
use Rattle.std.specs.Ordering.{int_cmp}
use Rattle.values.specs.declared.value.Value.TheVariants.{Whole}
use Rattle.value_ids.specs.Coding.{renumbered}
use Rattle.dictionary.specs.Ranking.{AreRanks, at_places}
use Rattle.dictionary.proofs.CodedLemmas.{lent_back}
use Rattle.dictionary.proofs.RankedValues.{number_ranks}
use Rattle.dictionary.proofs.coded.ranked_numbers.Goals as goal

pub returns : goal.returns
returns c = λ numbers s.
    let seen = c.args.coded.seen.items in
    let ids = c.args.coded.ids in
    let order : List ℕ = c.in_ok-order.field-0.order.items in
    let ranks : List ℕ = c.in_ok-order.field-0.ranks.items in
    let new : List ℕ = c.rank_places.new.ids in
    let r : AreRanks int_cmp (pos 0) seen order ranks = subst (λ (ns : List ℤ). AreRanks int_cmp (pos 0) ns order ranks) c.deref.ensures.value c.in_ok-order.ensures in
    let wide : length new ≡ length ids.items = c.rank_places.auto.ids ∙ ap length c.deref_mut.ensures.value in
    number_ranks numbers seen order ranks ids.items _ c.of_numbers-values.result r s
    (c.of_numbers-values.ensures ∙ ap (map Whole) c.in_ok-numbers_at.ensures ∙ ap₂ (λ ns places. map Whole (at_places (pos 0) ns places)) c.deref-2.ensures.value c.deref-3.ensures.value)
    (lent_back ids.items new ids.len (sym ids.ok.0) wide ∙ c.rank_places.ensures ∙ ap₂ renumbered c.deref-4.ensures.value c.deref_mut.ensures.value)
