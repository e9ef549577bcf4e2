use Rattle.std.proofs.Common.{◌≡◌, ◌∙◌, ◌<◌, ℕ, None, false, get_or, length, refl, sym, ap, subst, arith}
use Rattle.outside.specs.Seen.{Seen, seen}
use Rattle.table_schema.specs.declared.query.Conjunct.{Conjunct}
use Rattle.segment_opening.specs.Found.{AreByIds, AreOnes, IsFoundBeside, IsFoundFor, count_for, some_shares_none}
use Rattle.segment_opening.specs.declared.asked.Found.{Found}
use Rattle.segment_opening.proofs.AskedLemmas.{askable, emptied_so, tells_so, zip_long}
use Rattle.segment_opening.proofs.LoadLemmas.{loads_err}
use Rattle.segment_opening.proofs.loading.load_but.Goals as goal

pub some_shares_none-requires : goal.some_shares_none-requires
some_shares_none-requires g c =
    zip_long (IsFoundFor c.args.query.now c.args.table.now (g.S.Shelf.held c.args.shelf.now) c.args.head.now) c.args.query.now.conjuncts c.args.found.now c.requires.found ∙ ap length (sym c.as_slice-conjuncts.ensures)

pub asked_by-requires-clause-same : goal.asked_by-requires-clause-same
asked_by-requires-clause-same g c =
    zip_long (IsFoundFor c.args.query.now c.args.table.now (g.S.Shelf.held c.args.shelf.now) c.args.head.now) c.args.query.now.conjuncts c.args.found.now c.requires.found ∙ ap length (sym c.as_slice-conjuncts.ensures)

pub returns-in-Err-clause-loads : goal.returns-in-Err-clause-loads
returns-in-Err-clause-loads g c =
    loads_err c.args.table.now c.in-Err.fault c.args.head.now c.load_others.new.head (seen g.S.Shelf c.args.shelf.now) (seen g.S.Shelf c.load_others.new.shelf) c.in-Err.ensures.loads

pub returns-then-some_shares_none-clause-emptied : goal.returns-then-some_shares_none-clause-emptied
returns-then-some_shares_none-clause-emptied g c = λ is.
    let found = c.args.found.now in
    emptied_so c.args.query.now c.args.table.now c.requires.asked.query c.args.head.now found (g.S.Shelf.held c.args.shelf.now) c.requires.found
    (ap (λ xs. some_shares_none xs found xs found) (sym c.as_slice-conjuncts.ensures) ∙ sym c.some_shares_none.ensures ∙ c.if-some_shares_none.true)

pub returns-in-Ok-clause-found : goal.returns-in-Ok-clause-found
returns-in-Ok-clause-found g c = λ f is.
    let query = c.args.query.now in
    let table = c.args.table.now in
    let head = c.args.head.now in
    let found = c.args.found.now in
    let held = g.S.Shelf.held c.args.shelf.now in
    let grown = c.load_others.new.head in
    let asked : Found = c.in_ok-asked.asked in
    let same : asked ≡ f = cc in
    let listed = c.as_slice-conjuncts.ensures in
    let by = subst (λ xs. AreOnes xs → AreByIds xs found asked.conjuncts) listed c.in_ok-asked.ensures.conjuncts in
    let each : (k : ℕ) → k < length table.schema.fields → get_or asked.counts.items k None ≡ count_for query.conjuncts found k =
    (λ k lt. c.in_ok-asked.ensures.counts k (omega (arith, lt, c.len.ensures)) ∙ ap (λ xs. count_for xs found k) listed) in
    let long : length asked.counts.items ≡ length table.schema.fields = c.in_ok-asked.ensures.count ∙ c.len.ensures in
    let none : some_shares_none query.conjuncts found query.conjuncts found ≡ false =
    ap (λ xs. some_shares_none xs found xs found) (sym listed) ∙ sym c.some_shares_none.ensures ∙ c.if-some_shares_none.false in
    subst (λ (h : Found). IsFoundBeside query table held false head grown h.conjuncts h.counts.items) same
    (record {
      untreed = refl;
      askable = askable query table c.requires.asked.query head found asked.conjuncts asked.counts.items long each by held c.requires.found grown c.in-Ok.ensures.others;
      whole = tells_so query table c.requires.asked.query head found asked.conjuncts asked.counts.items long each by held c.requires.found none;
    })
