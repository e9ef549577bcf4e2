use Rattle.std.proofs.Common.{◌≡◌, ◌∙◌, ◌++◌, ◌<◌, ◌≤◌, ◌+◌, ◌-◌, ℕ, Bool, ap, arith, nat_le, subst, sym}
use Rattle.std.proofs.lemmas.Bool.{lt-leb, le-leb}
use Rattle.std.proofs.lemmas.Result.{on_ok_weaker}
use Rattle.std.proofs.lemmas.List.Elements.{All-append}
use Rattle.std.specs.List.{All, range_with_len}
use Rattle.doc_lists.specs.Docs.{docs_of_run}
use Rattle.doc_lists.specs.Sets.{Swept}
use Rattle.doc_lists.proofs.Sweep.{range_all, swept_no, swept_yes}
use Rattle.doc_lists.proofs.sets.push_from.Goals as goal

pub returns-then-end-first-clause-swept : goal.returns-then-end-first-clause-swept
returns-then-end-first-clause-swept c = λ test swept all.
    swept_no test c.args.start c.args.end c.args.docs.now (omega (arith, c.requires.onwards)) swept
    (λ doc from to. all doc from to ∙ lt-leb c.args.first doc (omega (arith, to, c.if-end-first.true)))

pub returns-clause-swept : goal.returns-clause-swept
returns-clause-swept c =
    let start = c.args.start in
    let first = c.args.first in
    let end = c.args.end in
    let old = c.args.docs.now in
    let new = c.push_run.new.self in
    let some : first < end = omega (arith, c.if-end-first.false) in
    let size : end - 1 + 1 - first ≡ end - first = omega (arith, some) in
    let P : Type 0 = new ≡ old ++ docs_of_run (record { first = first; last = end - 1 }) in
    let Q : Type 0 = (test : ℕ → Bool) → Swept test start old → ((doc : ℕ) → start ≤ doc → doc < end → test doc ≡ nat_le first doc) → Swept test end new in
    let step : P → Q = λ is test swept all.
    let gap : Swept test first old = swept_no test start first old (omega (arith, c.requires.order)) swept (λ doc from to. all doc from (omega (arith, to, some)) ∙ lt-leb first doc to) in
    swept_yes test first end old new (omega (arith, some)) (is ∙ ap (λ n. old ++ range_with_len first n) size) gap
    (λ doc from to. all doc (omega (arith, from, c.requires.order)) to ∙ le-leb first doc from) in
    on_ok_weaker {P = P} {Q = Q} c.push_run.result step c.push_run.ensures.ok

pub returns-then-end-first-clause-below : goal.returns-then-end-first-clause-below
returns-then-end-first-clause-below c = λ k d lt. let less = c.requires.above k d lt in omega (arith, less, c.requires.onwards)

pub returns-clause-below : goal.returns-clause-below
returns-clause-below c =
    let first = c.args.first in
    let end = c.args.end in
    let old = c.args.docs.now in
    let new = c.push_run.new.self in
    let some : first < end = omega (arith, c.if-end-first.false) in
    let P : Type 0 = new ≡ old ++ docs_of_run (record { first = first; last = end - 1 }) in
    let step : P → All (λ doc. doc < end) new = λ is.
    subst (All (λ doc. doc < end)) (sym is) (All-append (λ doc. doc < end) old (range_with_len first (end - 1 + 1 - first))
    (λ k d lt. let less = c.requires.above k d lt in omega (arith, less, c.requires.onwards)) (range_all first (end - 1 + 1 - first) end (omega (arith, some)))) in
    on_ok_weaker {P = P} {Q = All (λ doc. doc < end) new} c.push_run.result step c.push_run.ensures.ok
