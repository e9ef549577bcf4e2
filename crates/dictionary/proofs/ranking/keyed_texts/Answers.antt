use Rattle.std.proofs.Common.{◌≡◌, ◌∙◌, ◌<◌, ◌++◌, ◌∷◌, [], ℕ, length, get_or, ap, arith, sym}
use Rattle.std.proofs.lemmas.Option.{get_or_from_slice_get}
use Rattle.dictionary.proofs.RankLemmas.{placed_more}
use Rattle.dictionary.proofs.ranking.keyed_texts.Goals as goal

pub texts-preserved : goal.texts-preserved
texts-preserved c =
    let texts = c.args.texts.now in
    let at = c.texts.at in
    let here : at < length texts = omega (arith, c.len-at-end.ensures) in
    let own : c.new.result ≡ get_or texts at [] = c.new.ensures ∙ sym (get_or_from_slice_get texts at c.in-Some.text.now [] c.in-Some.ensures.place) in
    let place : c.in-Ok.place ≡ at = omega (arith, c.in-Ok.ensures) in
    record {
      placed =
          placed_more [] texts c.texts.items.items c.push.new.self.items at c.new.result here own
          (c.in_ok-push.ensures.items ∙ ap (λ (n : ℕ). c.texts.items.items ++ (c.new.result, n) ∷ []) place)
          c.texts.invariant.placed;
      few = omega (arith, c.in-Ok.ensures);
    }
