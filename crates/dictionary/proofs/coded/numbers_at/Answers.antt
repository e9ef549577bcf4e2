use Rattle.std.proofs.Common.{◌∙◌, ◌++◌, ◌∷◌, [], ℕ, get_or, pos, ap, arith}
use Rattle.std.proofs.lemmas.List.{take_all}
use Rattle.dictionary.specs.Ranking.{at_places}
use Rattle.dictionary.proofs.RankLemmas.{map_more}
use Rattle.dictionary.proofs.coded.numbers_at.Goals as goal

pub loop-place-preserved : goal.loop-place-preserved
loop-place-preserved c =
    let f = λ (id : ℕ). get_or c.args.numbers.now id (pos 0) in
    let i = c.loop-place.place-index in
    let places = c.args.places.now in
    c.in_ok-push_number.ensures ∙ ap (λ ns. ns ++ f (get_or places i 0) ∷ []) c.loop-place.invariant ∙ map_more f places i 0 c.loop-place-test.true

pub returns : goal.returns
returns c = c.loop-place.invariant ∙ ap (at_places (pos 0) c.args.numbers.now) (take_all c.loop-place.place-index c.args.places.now (omega arith))
