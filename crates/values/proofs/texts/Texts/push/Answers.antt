use Rattle.std.proofs.Common.{◌≡◌, ◌∙◌, ◌++◌, ◌∷◌, [], ap}
use Rattle.data_types.proofs.TextLemmas.{added, added-coding}
use Rattle.values.proofs.texts.Texts.push.Goals as goal

pub invariant_of-self-2 : goal.invariant_of-self-2
invariant_of-self-2 c =
    let is : c.push.new.self.items ≡ c.self.inside.ids.items ++ c.in_ok-id.id ∷ [] = c.in_ok-push.ensures.items ∙ ap (λ xs. xs ++ c.in_ok-id.id ∷ []) c.in_ok-reserve.ensures.items in
    added-coding c.self.inside.pool c.place.new.pool c.self.inside.ids.items c.push.new.self.items c.in_ok-id.id c.args.text.now c.self.invariant c.in_ok-id.ensures.ok is

pub returns-clause-ok : goal.returns-clause-ok
returns-clause-ok c =
    let is : c.push.new.self.items ≡ c.self.inside.ids.items ++ c.in_ok-id.id ∷ [] = c.in_ok-push.ensures.items ∙ ap (λ xs. xs ++ c.in_ok-id.id ∷ []) c.in_ok-reserve.ensures.items in
    added c.self.inside.pool c.place.new.pool c.self.inside.ids.items c.push.new.self.items c.in_ok-id.id c.args.text.now c.self.invariant c.in_ok-id.ensures.ok is c.args.self.now c.self.view_is
