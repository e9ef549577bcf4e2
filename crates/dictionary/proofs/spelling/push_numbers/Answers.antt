use Rattle.std.proofs.Common.{◌≡◌, ◌∙◌, ◌++◌, [], List, OnOk, append-nil, length, ap, arith, subst, sym}
use Rattle.std.proofs.lemmas.List.{length-map}
use Rattle.values.specs.declared.value.Value.{Value}
use Rattle.values.specs.declared.value.Value.TheVariants.{Whole}
use Rattle.dictionary.specs.Spelling.{numbers}
use Rattle.dictionary.proofs.ListedLemmas.{no_numbers}
use Rattle.dictionary.proofs.spelling.push_numbers.Goals as goal

pub push_wholes-requires : goal.push_wholes-requires
push_wholes-requires c = omega (arith, c.requires, ap length c.in-Some.ensures, length-map c.in-Some.wholes.now Whole)

pub returns-in-Some-clause-ok : goal.returns-in-Some-clause-ok
returns-in-Some-clause-ok c =
    subst (λ (vs : List Value). OnOk c.push_wholes.result (c.push_wholes.new.out.items ≡ c.args.out.now.items ++ numbers vs)) (sym c.in-Some.ensures) c.push_wholes.ensures.ok

pub returns-in-None-clause-ok : goal.returns-in-None-clause-ok
returns-in-None-clause-ok c = sym (ap (λ bytes. c.args.out.now.items ++ bytes) (no_numbers c.args.values.now c.in-None.ensures) ∙ append-nil c.args.out.now.items)

pub returns-in-None-clause-kept : goal.returns-in-None-clause-kept
returns-in-None-clause-kept c = ([], sym (append-nil c.args.out.now.items))
