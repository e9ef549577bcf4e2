use Rattle.std.proofs.Common.{◌≡◌, ◌∙◌, ◌+◌, ◌++◌, ◌∷◌, [], List, length, take, sym, subst, arith}
use Rattle.std.proofs.lemmas.List.{take_all}
use Rattle.table_schema.specs.declared.query.Conjunct.{Conjunct}
use Rattle.segment_head.specs.declared.column_ids.Matched.{Matched}
use Rattle.segment_opening.specs.Found.{AreByIds}
use Rattle.segment_opening.proofs.AskedLemmas.{by_more}
use Rattle.segment_opening.proofs.asked.conjuncts_by.Goals as goal

pub conjuncts-preserved : goal.conjuncts-preserved
conjuncts-preserved c = λ ones.
    let conjuncts = c.args.conjuncts.now in
    let found = c.args.found.now in
    let at = c.conjuncts.at in
    let lt = c.conjuncts-test.true in
    let long = c.requires.same in
    subst (AreByIds (take (at + 1) conjuncts) (take (at + 1) found)) (sym c.in_ok-push.ensures.ok)
    (by_more conjuncts found c.conjuncts.asked at c.index-conjuncts-at.result c.index-found-at.result c.in_ok-conjunct.conjunct lt (omega (arith, lt, long)) c.index-conjuncts-at.is c.index-found-at.is c.conjuncts.invariant c.in_ok-conjunct.ensures ones)

pub returns : goal.returns
returns c = λ ones.
    let conjuncts = c.args.conjuncts.now in
    let found = c.args.found.now in
    let at = c.conjuncts.at in
    let past = c.conjuncts-test.false in
    let long = c.requires.same in
    subst (λ l. AreByIds l found c.conjuncts.asked) (take_all at conjuncts (omega (arith, past)))
    (subst (λ l. AreByIds (take at conjuncts) l c.conjuncts.asked) (take_all at found (omega (arith, past, long))) (c.conjuncts.invariant ones))
