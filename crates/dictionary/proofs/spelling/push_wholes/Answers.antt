use Rattle.std.proofs.Common.{◌∙◌, ◌<◌, ◌++◌, ℕ, ℤ, pos, List, length, map, get_or, ap, arith, sym}
use Rattle.std.proofs.lemmas.List.{get_or-map, length-map, take_all}
use Rattle.values.specs.declared.value.Value.{Value}
use Rattle.values.specs.declared.value.Value.TheVariants.{Whole}
use Rattle.dictionary.specs.Spelling.{numbers}
use Rattle.dictionary.proofs.Written.{numbers_step}
use Rattle.dictionary.proofs.spelling.push_wholes.Goals as goal

pub loop-number-preserved : goal.loop-number-preserved
loop-number-preserved c =
    let all : List ℤ = c.args.wholes.now in
    let i : ℕ = c.loop-number.number-index in
    let v : Value = Whole (get_or all i (pos 0)) in
    let within : i < length (map Whole all) = omega (arith, c.loop-number-test.true, length-map all Whole) in
    numbers_step (map Whole all) i v v c.args.out.now.items c.loop-number.out.items c.push_number.new.out.items within (sym (get_or-map Whole all i (pos 0) v c.loop-number-test.true)) c.loop-number.invariant
    c.in_ok-push_number.ensures.ok

pub returns-clause-ok : goal.returns-clause-ok
returns-clause-ok c =
    let all : List ℤ = c.args.wholes.now in
    c.loop-number.invariant ∙ ap (λ vs. c.args.out.now.items ++ numbers vs) (take_all c.loop-number.number-index (map Whole all) (omega (arith, c.loop-number-test.false, length-map all Whole)))
