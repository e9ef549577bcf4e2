use Rattle.std.proofs.Common.{◌∙◌, ◌++◌, ◌∷◌, [], ℕ, get_or, ap, arith}
use Rattle.std.proofs.lemmas.List.{take_all}
use Rattle.value_ids.specs.Coding.{renumbered}
use Rattle.dictionary.proofs.RankLemmas.{map_more}
use Rattle.dictionary.proofs.coded.ranked.Goals as goal

pub loop-place-preserved : goal.loop-place-preserved
loop-place-preserved c =
    let f = λ (id : ℕ). get_or c.args.ranks.now id 0 in
    let i = c.loop-place.place-index in
    c.in_ok-push.ensures.items ∙ ap (λ ids. ids ++ f (get_or c.args.places.now i 0) ∷ []) c.loop-place.invariant ∙ map_more f c.args.places.now i 0 c.loop-place-test.true

pub returns : goal.returns
returns c = c.loop-place.invariant ∙ ap (renumbered c.args.ranks.now) (take_all c.loop-place.place-index c.args.places.now (omega arith))
