use Rattle.serving.proofs.ReadLemmas.{own_is, reads_done, reads_failed, reads_whole}
use Rattle.query_executor.proofs.EndLemmas.{Done, Failed}
use Rattle.query_executor.specs.declared.fault.ExecutorFault.{ExecutorFault}
use Rattle.query_executor.specs.Passes.{PassReads}
use Rattle.std.proofs.Common.{◌≡◌, ◌∙◌, ◌-◌, ◌<◌, ◌≤◌, ℕ, List, Some, Ok, Err, get_or, length, set, sym, ap, subst, arith}
use Rattle.outside.specs.Seen.{Seen, seen}
use Rattle.cursor_serve.specs.Machine.{fetched}
use Rattle.cursors.specs.Answered.{AnswersRows, IsMoved, IsOverfull, next_stored}
use Rattle.serving.specs.Calls.{ReadsOf, Serves}
use Rattle.serving.specs.Faults.{of_query}
use Rattle.cursors.specs.Kept.{AreCursors, IsCursorIn, IsOver, cursors_in, keeper, place_under}
use Rattle.cursors.specs.declared.cursor.Cursor.{Cursor}
use Rattle.serving.specs.declared.fault.ServeFault.{ServeFault}
use Rattle.serving.proofs.PlaceLemmas.{AtPlace, IsOther, all_same, at_place, cursors_aside, cursors_moved, each_at, each_set, keeper_free, over_moved, place_within, puts_moved, set_same}
use Rattle.serving.proofs.StepLemmas.{IsBadAt, fetches_none, fetches_moved, fetches_failed}
use Rattle.serving.proofs.serving.Serving.fetch.Goals as goal

pub returns-in_default-clause-serves : goal.returns-in_default-clause-serves
returns-in_default-clause-serves g c =
    fetches_none c.args.table.now c.args.self.now.pool c.args.self.now.cursors.items c.args.cursor.now (g.S.Shelf.held c.args.shelf.now) (ap (place_under c.args.cursor.now) (sym c.as_slice.ensures.value) ∙ sym c.in_default.ensures)

pub index_mut-own-requires : goal.index_mut-own-requires
index_mut-own-requires g c =
    let place : place_under c.args.cursor.now c.args.self.now.cursors.items ≡ Some c.in-Some.at = sym (c.in-Some.ensures ∙ ap (place_under c.args.cursor.now) c.as_slice.ensures.value) in
    let lt = place_within c.args.cursor.now c.args.self.now.cursors.items c.in-Some.at place in
    let long = ap length c.as_slice.ensures.value in
    let len = c.as_slice.ensures.len in
    omega (arith, lt, long, len)

pub answer_to-requires-clause-pool : goal.answer_to-requires-clause-pool
answer_to-requires-clause-pool g c =
    (c.requires.cursors.pool_is, c.requires.cursors.free keeper (keeper_free c.args.self.now.pool c.args.self.now.cursors.items c.requires.cursors.each))

pub answer_to-requires-clause-cursor : goal.answer_to-requires-clause-cursor
answer_to-requires-clause-cursor g c =
    let ds : List Cursor = c.args.self.now.cursors.items in
    let name = c.args.cursor.now in
    let pool = c.args.self.now.pool in
    let own : Cursor = c.index_mut-own.result.now in
    let at : ℕ = c.in-Some.at in
    let place : place_under name ds ≡ Some at = sym (c.in-Some.ensures ∙ ap (place_under name) c.as_slice.ensures.value) in
    let lt : at < length ds = place_within name ds at place in
    let is : get_or ds at own ≡ own = sym c.index_mut-own.ensures.value in
    let it : IsCursorIn pool own = each_at (IsCursorIn pool) ds at own own lt is c.requires.cursors.each in
    it

pub answer_to-requires-clause-over : goal.answer_to-requires-clause-over
answer_to-requires-clause-over g c =
    let ds : List Cursor = c.args.self.now.cursors.items in
    let name = c.args.cursor.now in
    let pool = c.args.self.now.pool in
    let own : Cursor = c.index_mut-own.result.now in
    let at : ℕ = c.in-Some.at in
    let place : place_under name ds ≡ Some at = sym (c.in-Some.ensures ∙ ap (place_under name) c.as_slice.ensures.value) in
    let lt : at < length ds = place_within name ds at place in
    let is : get_or ds at own ≡ own = sym c.index_mut-own.ensures.value in
    let it : IsCursorIn pool own = each_at (IsCursorIn pool) ds at own own lt is c.requires.cursors.each in
    (c.requires.valid, each_at (IsOver c.args.table.now) ds at own own lt is c.requires.over)

pub returns-in-Err-clause-serves : goal.returns-in-Err-clause-serves
returns-in-Err-clause-serves g c =
    let ds : List Cursor = c.args.self.now.cursors.items in
    let name = c.args.cursor.now in
    let pool = c.args.self.now.pool in
    let own : Cursor = c.index_mut-own.result.now in
    let at : ℕ = c.in-Some.at in
    let place : place_under name ds ≡ Some at = sym (c.in-Some.ensures ∙ ap (place_under name) c.as_slice.ensures.value) in
    let lt : at < length ds = place_within name ds at place in
    let is : get_or ds at own ≡ own = sym c.index_mut-own.ensures.value in
    let it : IsCursorIn pool own = each_at (IsCursorIn pool) ds at own own lt is c.requires.cursors.each in
    let e : Cursor = c.answer_to.new.cursor in
    let held = g.S.Shelf.held c.args.shelf.now in
    let same : cursors_in c.answer_to.new.pool (set ds at e) ≡ cursors_in pool ds =
    ap (λ e. cursors_in c.answer_to.new.pool (set ds at e)) c.in-Err.ensures.same.0 ∙ ap (cursors_in c.answer_to.new.pool) (set_same ds at own own lt is) ∙ all_same pool c.answer_to.new.pool c.in-Err.ensures.same.1 ds c.requires.cursors.each in
    let within : own.answered ≤ length own.segments = it.answered in
    let to : c.len-to.result ≡ length own.segments = c.len-to.ensures in
    let serves : Serves (fetched name) c.args.table.now (cursors_in pool ds) (cursors_in pool ds) held held (Err (of_query c.in-Err.fault)) =
    fetches_failed c.args.table.now pool ds name at own own place is within held c.in-Err.fault
    (λ f why real. subst (λ n. IsOverfull c.args.table.now held (next_stored own n) pool own) to (c.in-Err.ensures.refused f (ap Err why) real))
    (λ n part why. let b = c.in-Err.ensures.passes.bad n part (ap Err why) in subst (λ k. IsBadAt c.args.table.now held (next_stored own k) n) to (b.0, b.1.1)) in
    subst (λ news. Serves (fetched name) c.args.table.now (cursors_in pool ds) news held (g.S.Shelf.held c.answer_to.new.shelf) (Err c.from.result)) (sym same)
    (subst (λ h. Serves (fetched name) c.args.table.now (cursors_in pool ds) (cursors_in pool ds) held h (Err c.from.result)) (sym c.in-Err.ensures.passes.only_reads.held)
    (subst (λ why. Serves (fetched name) c.args.table.now (cursors_in pool ds) (cursors_in pool ds) held held (Err why)) (sym c.from.ensures) serves))

pub returns-in-Err-clause-cursors : goal.returns-in-Err-clause-cursors
returns-in-Err-clause-cursors g c =
    let ds : List Cursor = c.args.self.now.cursors.items in
    let name = c.args.cursor.now in
    let pool = c.args.self.now.pool in
    let own : Cursor = c.index_mut-own.result.now in
    let at : ℕ = c.in-Some.at in
    let place : place_under name ds ≡ Some at = sym (c.in-Some.ensures ∙ ap (place_under name) c.as_slice.ensures.value) in
    let lt : at < length ds = place_within name ds at place in
    let is : get_or ds at own ≡ own = sym c.index_mut-own.ensures.value in
    let it : IsCursorIn pool own = each_at (IsCursorIn pool) ds at own own lt is c.requires.cursors.each in
    let new = c.answer_to.new.pool in
    subst (AreCursors new) (sym (ap (set ds at) c.in-Err.ensures.same.0 ∙ set_same ds at own own lt is))
    (cursors_aside keeper pool new ds c.in-Err.ensures.same.1 c.requires.cursors (keeper_free pool ds c.requires.cursors.each) c.answer_to.ensures.closed)

pub overflow_cast-to : goal.overflow_cast-to
overflow_cast-to g c =
    let ds : List Cursor = c.args.self.now.cursors.items in
    let name = c.args.cursor.now in
    let pool = c.args.self.now.pool in
    let own : Cursor = c.index_mut-own.result.now in
    let at : ℕ = c.in-Some.at in
    let place : place_under name ds ≡ Some at = sym (c.in-Some.ensures ∙ ap (place_under name) c.as_slice.ensures.value) in
    let lt : at < length ds = place_within name ds at place in
    let is : get_or ds at own ≡ own = sym c.index_mut-own.ensures.value in
    let it : IsCursorIn pool own = each_at (IsCursorIn pool) ds at own own lt is c.requires.cursors.each in
    let long = c.len-to.ensures in
    let few = it.few in
    omega (arith, long, few)

pub answer_to-requires-clause-next : goal.answer_to-requires-clause-next
answer_to-requires-clause-next g c =
    let ds : List Cursor = c.args.self.now.cursors.items in
    let name = c.args.cursor.now in
    let pool = c.args.self.now.pool in
    let own : Cursor = c.index_mut-own.result.now in
    let at : ℕ = c.in-Some.at in
    let place : place_under name ds ≡ Some at = sym (c.in-Some.ensures ∙ ap (place_under name) c.as_slice.ensures.value) in
    let lt : at < length ds = place_within name ds at place in
    let is : get_or ds at own ≡ own = sym c.index_mut-own.ensures.value in
    let it : IsCursorIn pool own = each_at (IsCursorIn pool) ds at own own lt is c.requires.cursors.each in
    let long = c.len-to.ensures in
    let le = it.answered in
    (omega (arith, long, le), omega (arith, long))

pub answer-requires-clause-valid : goal.answer-requires-clause-valid
answer-requires-clause-valid g c =
    let ds : List Cursor = c.args.self.now.cursors.items in
    let name = c.args.cursor.now in
    let pool = c.args.self.now.pool in
    let own : Cursor = c.index_mut-own.result.now in
    let at : ℕ = c.in-Some.at in
    let place : place_under name ds ≡ Some at = sym (c.in-Some.ensures ∙ ap (place_under name) c.as_slice.ensures.value) in
    let lt : at < length ds = place_within name ds at place in
    let is : get_or ds at own ≡ own = sym c.index_mut-own.ensures.value in
    let it : IsCursorIn pool own = each_at (IsCursorIn pool) ds at own own lt is c.requires.cursors.each in
    let e : Cursor = c.answer_to.new.cursor in
    let new = c.answer_to.new.pool in
    let m : IsMoved c.len-to.result own e = c.in-Ok.ensures.moved in
    let placed : AtPlace (IsOther own) at own ds = at_place ds at own own lt is c.requires.cursors.owners in
    (c.args.table.now, (over_moved c.args.table.now c.len-to.result own e m (each_at (IsOver c.args.table.now) ds at own own lt is c.requires.over)).query)

pub returns-in_err-answer-clause-cursors : goal.returns-in_err-answer-clause-cursors
returns-in_err-answer-clause-cursors g c =
    let ds : List Cursor = c.args.self.now.cursors.items in
    let name = c.args.cursor.now in
    let pool = c.args.self.now.pool in
    let own : Cursor = c.index_mut-own.result.now in
    let at : ℕ = c.in-Some.at in
    let place : place_under name ds ≡ Some at = sym (c.in-Some.ensures ∙ ap (place_under name) c.as_slice.ensures.value) in
    let lt : at < length ds = place_within name ds at place in
    let is : get_or ds at own ≡ own = sym c.index_mut-own.ensures.value in
    let it : IsCursorIn pool own = each_at (IsCursorIn pool) ds at own own lt is c.requires.cursors.each in
    let e : Cursor = c.answer_to.new.cursor in
    let new = c.answer_to.new.pool in
    let m : IsMoved c.len-to.result own e = c.in-Ok.ensures.moved in
    let placed : AtPlace (IsOther own) at own ds = at_place ds at own own lt is c.requires.cursors.owners in
    cursors_moved pool new own e c.in-Ok.ensures.keeps ds at placed c.requires.cursors c.in-Ok.ensures.stays m.name m.owner c.in-Ok.ensures.closed

pub returns-in_err-answer-clause-over : goal.returns-in_err-answer-clause-over
returns-in_err-answer-clause-over g c =
    let ds : List Cursor = c.args.self.now.cursors.items in
    let name = c.args.cursor.now in
    let pool = c.args.self.now.pool in
    let own : Cursor = c.index_mut-own.result.now in
    let at : ℕ = c.in-Some.at in
    let place : place_under name ds ≡ Some at = sym (c.in-Some.ensures ∙ ap (place_under name) c.as_slice.ensures.value) in
    let lt : at < length ds = place_within name ds at place in
    let is : get_or ds at own ≡ own = sym c.index_mut-own.ensures.value in
    let it : IsCursorIn pool own = each_at (IsCursorIn pool) ds at own own lt is c.requires.cursors.each in
    let e : Cursor = c.answer_to.new.cursor in
    let new = c.answer_to.new.pool in
    let m : IsMoved c.len-to.result own e = c.in-Ok.ensures.moved in
    let placed : AtPlace (IsOther own) at own ds = at_place ds at own own lt is c.requires.cursors.owners in
    each_set (IsOver c.args.table.now) ds at e c.requires.over (over_moved c.args.table.now c.len-to.result own e m (each_at (IsOver c.args.table.now) ds at own own lt is c.requires.over))

pub returns-clause-cursors : goal.returns-clause-cursors
returns-clause-cursors g c =
    let ds : List Cursor = c.args.self.now.cursors.items in
    let name = c.args.cursor.now in
    let pool = c.args.self.now.pool in
    let own : Cursor = c.index_mut-own.result.now in
    let at : ℕ = c.in-Some.at in
    let place : place_under name ds ≡ Some at = sym (c.in-Some.ensures ∙ ap (place_under name) c.as_slice.ensures.value) in
    let lt : at < length ds = place_within name ds at place in
    let is : get_or ds at own ≡ own = sym c.index_mut-own.ensures.value in
    let it : IsCursorIn pool own = each_at (IsCursorIn pool) ds at own own lt is c.requires.cursors.each in
    let e : Cursor = c.answer_to.new.cursor in
    let new = c.answer_to.new.pool in
    let m : IsMoved c.len-to.result own e = c.in-Ok.ensures.moved in
    let placed : AtPlace (IsOther own) at own ds = at_place ds at own own lt is c.requires.cursors.owners in
    cursors_moved pool new own e c.in-Ok.ensures.keeps ds at placed c.requires.cursors c.in-Ok.ensures.stays m.name m.owner c.in-Ok.ensures.closed

pub returns-clause-over : goal.returns-clause-over
returns-clause-over g c =
    let ds : List Cursor = c.args.self.now.cursors.items in
    let name = c.args.cursor.now in
    let pool = c.args.self.now.pool in
    let own : Cursor = c.index_mut-own.result.now in
    let at : ℕ = c.in-Some.at in
    let place : place_under name ds ≡ Some at = sym (c.in-Some.ensures ∙ ap (place_under name) c.as_slice.ensures.value) in
    let lt : at < length ds = place_within name ds at place in
    let is : get_or ds at own ≡ own = sym c.index_mut-own.ensures.value in
    let it : IsCursorIn pool own = each_at (IsCursorIn pool) ds at own own lt is c.requires.cursors.each in
    let e : Cursor = c.answer_to.new.cursor in
    let new = c.answer_to.new.pool in
    let m : IsMoved c.len-to.result own e = c.in-Ok.ensures.moved in
    let placed : AtPlace (IsOther own) at own ds = at_place ds at own own lt is c.requires.cursors.owners in
    each_set (IsOver c.args.table.now) ds at e c.requires.over (over_moved c.args.table.now c.len-to.result own e m (each_at (IsOver c.args.table.now) ds at own own lt is c.requires.over))

pub returns-clause-serves : goal.returns-clause-serves
returns-clause-serves g c =
    let ds : List Cursor = c.args.self.now.cursors.items in
    let name = c.args.cursor.now in
    let pool = c.args.self.now.pool in
    let own : Cursor = c.index_mut-own.result.now in
    let at : ℕ = c.in-Some.at in
    let place : place_under name ds ≡ Some at = sym (c.in-Some.ensures ∙ ap (place_under name) c.as_slice.ensures.value) in
    let lt : at < length ds = place_within name ds at place in
    let is : get_or ds at own ≡ own = sym c.index_mut-own.ensures.value in
    let it : IsCursorIn pool own = each_at (IsCursorIn pool) ds at own own lt is c.requires.cursors.each in
    let e : Cursor = c.answer_to.new.cursor in
    let new = c.answer_to.new.pool in
    let m : IsMoved c.len-to.result own e = c.in-Ok.ensures.moved in
    let placed : AtPlace (IsOther own) at own ds = at_place ds at own own lt is c.requires.cursors.owners in
    let held = g.S.Shelf.held c.args.shelf.now in
    let news = cursors_moved pool new own e c.in-Ok.ensures.keeps ds at placed c.requires.cursors c.in-Ok.ensures.stays m.name m.owner c.in-Ok.ensures.closed in
    let most : e.groups.most ≡ 10000 = c.in-Ok.ensures.stays.table.holds.quota ∙ news.pool_is.quotas e.groups.owner (let lt = c.in-Ok.ensures.stays.owner in omega (arith, lt)) in
    let to : c.len-to.result ≡ length own.segments = c.len-to.ensures in
    let serves = fetches_moved c.args.table.now pool ds name at own own place is it.answered held new e (cursors_in new (set ds at e)) c.in_ok-answer.field-0
    (subst (λ n. AnswersRows c.args.table.now held (next_stored own n) pool new own e) to c.in-Ok.ensures.answered) (subst (λ n. IsMoved n own e) to m) c.in-Ok.ensures.stays most
    (puts_moved pool new own e c.in-Ok.ensures.keeps name ds at place placed c.requires.cursors.each m.name) c.in_ok-answer.ensures in
    subst (λ h. Serves (fetched name) c.args.table.now (cursors_in pool ds) (cursors_in new (set ds at e)) held h (Ok c.in_ok-answer.field-0)) (sym c.in-Ok.ensures.passes.only_reads.held) serves

pub returns-in-Err-clause-reads : goal.returns-in-Err-clause-reads
returns-in-Err-clause-reads g c = λ other it found got.
    let ds : List Cursor = c.args.self.now.cursors.items in
    let name = c.args.cursor.now in
    let own : Cursor = c.index_mut-own.result.now in
    let at : ℕ = c.in-Some.at in
    let place : place_under name ds ≡ Some at = sym (c.in-Some.ensures ∙ ap (place_under name) c.as_slice.ensures.value) in
    let lt : at < length ds = place_within name ds at place in
    let is : get_or ds at own ≡ own = sym c.index_mut-own.ensures.value in
    let a : Seen = seen g.S.Shelf c.args.shelf.now in
    let b : Seen = seen g.S.Shelf c.answer_to.new.shelf in
    subst (λ (o : Cursor). ReadsOf o.query c.args.table.now (next_stored o (length o.segments)) a b (Failed (List ℕ) c.from.result)) (own_is ds name at own other it place is found got)
    (reads_failed own.query c.args.table.now (next_stored own (length own.segments)) (Unit {0}) (List ℕ) a b c.in-Err.fault c.from.result (subst (λ n. PassReads own.query c.args.table.now (next_stored own n) a b (Failed (Unit {0}) c.in-Err.fault)) c.len-to.ensures c.in-Err.ensures.passes))

pub returns-in_err-answer-clause-reads : goal.returns-in_err-answer-clause-reads
returns-in_err-answer-clause-reads g c = λ other it found got.
    let ds : List Cursor = c.args.self.now.cursors.items in
    let name = c.args.cursor.now in
    let own : Cursor = c.index_mut-own.result.now in
    let at : ℕ = c.in-Some.at in
    let place : place_under name ds ≡ Some at = sym (c.in-Some.ensures ∙ ap (place_under name) c.as_slice.ensures.value) in
    let lt : at < length ds = place_within name ds at place in
    let is : get_or ds at own ≡ own = sym c.index_mut-own.ensures.value in
    let a : Seen = seen g.S.Shelf c.args.shelf.now in
    let b : Seen = seen g.S.Shelf c.answer_to.new.shelf in
    subst (λ (o : Cursor). ReadsOf o.query c.args.table.now (next_stored o (length o.segments)) a b c.from_residual.result) (own_is ds name at own other it place is found got)
    (reads_whole own.query c.args.table.now (next_stored own (length own.segments)) (Unit {0}) (List ℕ) a b tt c.from_residual.result (subst (λ n. PassReads own.query c.args.table.now (next_stored own n) a b (Done {E = ExecutorFault} (tt {0}))) c.len-to.ensures c.in-Ok.ensures.passes))

pub returns-clause-reads : goal.returns-clause-reads
returns-clause-reads g c = λ other it found got.
    let ds : List Cursor = c.args.self.now.cursors.items in
    let name = c.args.cursor.now in
    let own : Cursor = c.index_mut-own.result.now in
    let at : ℕ = c.in-Some.at in
    let place : place_under name ds ≡ Some at = sym (c.in-Some.ensures ∙ ap (place_under name) c.as_slice.ensures.value) in
    let lt : at < length ds = place_within name ds at place in
    let is : get_or ds at own ≡ own = sym c.index_mut-own.ensures.value in
    let a : Seen = seen g.S.Shelf c.args.shelf.now in
    let b : Seen = seen g.S.Shelf c.answer_to.new.shelf in
    subst (λ (o : Cursor). ReadsOf o.query c.args.table.now (next_stored o (length o.segments)) a b (Done {E = ServeFault} c.in_ok-answer.field-0)) (own_is ds name at own other it place is found got)
    (reads_done own.query c.args.table.now (next_stored own (length own.segments)) (Unit {0}) (List ℕ) a b tt c.in_ok-answer.field-0 (subst (λ n. PassReads own.query c.args.table.now (next_stored own n) a b (Done {E = ExecutorFault} (tt {0}))) c.len-to.ensures c.in-Ok.ensures.passes))
