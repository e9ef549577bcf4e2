use Rattle.std.proofs.Common.{◌∙◌, ◌<◌, ◌≤◌, ◌++◌, ℕ, pos, List, length, get_or, refl, ap, arith}
use Rattle.std.proofs.lemmas.List.{take_all}
use Rattle.values.specs.declared.value.Value.{Value}
use Rattle.values.specs.declared.value.Value.TheVariants.{Whole}
use Rattle.dictionary.specs.Spelling.{texts}
use Rattle.dictionary.proofs.Written.{texts_step}
use Rattle.dictionary.proofs.spelling.push_texts.Goals as goal

pub places-preserved : goal.places-preserved
places-preserved c =
    let values : List Value = c.args.values.now in
    let i : ℕ = c.places.at in
    let v : Value = get_or values i (Whole (pos 0)) in
    let within : i < length values = omega (arith, c.places-test.true, c.len-count.ensures) in
    texts_step values i v (Whole (pos 0)) c.args.out.now.items c.places.out.items c.extend_from_slice.new.self.items within refl c.places.invariant
    (c.in_ok-extend_from_slice.ensures.items ∙ ap (λ b. c.places.out.items ++ b) c.text_at.ensures.text)

pub returns-clause-ok : goal.returns-clause-ok
returns-clause-ok c =
    let past : length c.args.values.now ≤ c.places.at = omega (arith, c.places-test.false, c.len-count.ensures) in
    c.places.invariant ∙ ap (λ vs. c.args.out.now.items ++ texts vs) (take_all c.places.at c.args.values.now past)
