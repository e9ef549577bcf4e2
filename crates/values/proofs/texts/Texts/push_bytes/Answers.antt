use Rattle.std.proofs.Common.{◌≡◌, ◌∙◌, ◌++◌, ◌∷◌, [], ap}
use Rattle.data_types.proofs.TextLemmas.{added, added-coding}
use Rattle.values.proofs.texts.Texts.push_bytes.Goals as goal

pub invariant_of-self-2 : goal.invariant_of-self-2
invariant_of-self-2 c =
    let (placed, text) = rw c.in-Some.is at c.in_ok-place.ensures.ok in
    let is : c.push.new.self.items ≡ c.self.inside.ids.items ++ c.in-Some.id ∷ [] = c.in_ok-push.ensures.items ∙ ap (λ xs. xs ++ c.in-Some.id ∷ []) c.in_ok-reserve.ensures.items in
    added-coding c.self.inside.pool c.place_of_bytes.new.pool c.self.inside.ids.items c.push.new.self.items c.in-Some.id c.args.bytes.now c.self.invariant placed is

pub returns-clause-ok : goal.returns-clause-ok
returns-clause-ok c =
    let (placed, text) = rw c.in-Some.is at c.in_ok-place.ensures.ok in
    let is : c.push.new.self.items ≡ c.self.inside.ids.items ++ c.in-Some.id ∷ [] = c.in_ok-push.ensures.items ∙ ap (λ xs. xs ++ c.in-Some.id ∷ []) c.in_ok-reserve.ensures.items in
    (added c.self.inside.pool c.place_of_bytes.new.pool c.self.inside.ids.items c.push.new.self.items c.in-Some.id c.args.bytes.now c.self.invariant placed is c.args.self.now c.self.view_is, text)
