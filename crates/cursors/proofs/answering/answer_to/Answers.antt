use Rattle.std.proofs.Common.{◌≡◌, ◌∙◌, ◌-◌, ◌*◌, arith, length, take, drop, sym, ap, subst}
use Rattle.outside.specs.Seen.{Seen, seen}
use Rattle.sql_reply.specs.declared.fault.SqlFault.TheVariants.{NoMemory}
use Rattle.state_pool.specs.Pool.{kinds_at}
use Rattle.group_table.specs.Pooled.{PooledTable, in_pool}
use Rattle.group_table.specs.Saved.{HasSaved}
use Rattle.query_executor.specs.Passes.{CanBegin, PassReads}
use Rattle.query_executor.specs.Steps.{AreOverfull}
use Rattle.query_executor.specs.declared.fault.ExecutorFault.{ExecutorFault}
use Rattle.query_executor.specs.declared.fault.ExecutorFault.TheVariants.{Sql}
use Rattle.query_executor.proofs.EndLemmas.{Done, Failed, gives_fault}
use Rattle.query_executor.proofs.PassLemmas.{pass_unread}
use Rattle.cursors.specs.Added.{AddsAll, stored_in}
use Rattle.cursors.specs.Answered.{next_stored}
use Rattle.cursors.specs.Kept.{IsCursorIn, keeper}
use Rattle.cursors.proofs.MovedLemmas.{answers_next, back_aside, begins, moved_aside, moved_in, no_more, none_back, none_still, overfull_next, states_long}
use Rattle.cursors.proofs.StillLemmas.{still_cursor}
use Rattle.cursors.proofs.PoolLemmas.{aside_of}
use Rattle.cursors.proofs.answering.answer_to.Goals as goal

pub returns-in_err-stored-clause-passes : goal.returns-in_err-stored-clause-passes
returns-in_err-stored-clause-passes g c =
    let r = c.from_residual.result in
    pass_unread c.args.cursor.now.query c.args.table.now (next_stored c.args.cursor.now c.args.to) c.docs_bound_law.ensures.bound c.requires.over.0 _ r (seen g.S.Shelf c.args.shelf.now) (gives_fault _ r (Sql NoMemory) c.from_residual.ensures.1)

pub add_all-done-requires-clause-begins : goal.add_all-done-requires-clause-begins
add_all-done-requires-clause-begins g c =
    let same : c.as_slice-3.result.now ≡ next_stored c.args.cursor.now c.args.to = c.as_slice-3.ensures.value ∙ c.in_ok-stored.ensures ∙ (λ i. stored_in (take (c.args.to - c.args.cursor.now.answered) (drop c.args.cursor.now.answered (c.as_slice.ensures i))) (take (c.args.to - c.args.cursor.now.answered) (drop c.args.cursor.now.answered (c.as_slice-2.ensures.value i)))) in
    subst (λ stored. CanBegin c.args.cursor.now.query c.args.table.now stored (in_pool c.args.cursor.now.groups c.args.pool.now)) (sym same)
    (begins c.args.pool.now c.args.cursor.now c.args.to c.requires.cursor c.requires.next.0 c.requires.next.1 c.args.table.now c.requires.over.0 c.requires.over.1)

pub returns-in-Ok-clause-answered : goal.returns-in-Ok-clause-answered
returns-in-Ok-clause-answered g c =
    let same : c.as_slice-3.result.now ≡ next_stored c.args.cursor.now c.args.to = c.as_slice-3.ensures.value ∙ c.in_ok-stored.ensures ∙ (λ i. stored_in (take (c.args.to - c.args.cursor.now.answered) (drop c.args.cursor.now.answered (c.as_slice.ensures i))) (take (c.args.to - c.args.cursor.now.answered) (drop c.args.cursor.now.answered (c.as_slice-2.ensures.value i)))) in
    let held = g.S.Shelf.held c.args.shelf.now in
    let old = in_pool c.args.cursor.now.groups c.args.pool.now in
    let new = in_pool c.add_all-done.new.groups c.add_all-done.new.pool in
    let added = subst (λ stored. AddsAll c.args.cursor.now.query c.args.table.now held stored old new) same c.in-Ok.ensures.added in
    answers_next c.args.pool.now c.args.cursor.now c.args.to c.requires.cursor c.requires.next.0 c.requires.next.1 c.add_all-done.new.groups c.add_all-done.new.pool c.add_all-done.ensures.stays c.args.table.now held added

pub returns-in-Ok-clause-passes : goal.returns-in-Ok-clause-passes
returns-in-Ok-clause-passes g c =
    let same : c.as_slice-3.result.now ≡ next_stored c.args.cursor.now c.args.to = c.as_slice-3.ensures.value ∙ c.in_ok-stored.ensures ∙ (λ i. stored_in (take (c.args.to - c.args.cursor.now.answered) (drop c.args.cursor.now.answered (c.as_slice.ensures i))) (take (c.args.to - c.args.cursor.now.answered) (drop c.args.cursor.now.answered (c.as_slice-2.ensures.value i)))) in
    let a : Seen = seen g.S.Shelf c.args.shelf.now in
    let b : Seen = seen g.S.Shelf c.add_all-done.new.shelf in
    subst (λ stored. PassReads c.args.cursor.now.query c.args.table.now stored a b (Done {E = ExecutorFault} tt)) same c.in-Ok.ensures.passes

pub returns-in-Ok-clause-stays : goal.returns-in-Ok-clause-stays
returns-in-Ok-clause-stays g c =
    let same : c.as_slice-3.result.now ≡ next_stored c.args.cursor.now c.args.to = c.as_slice-3.ensures.value ∙ c.in_ok-stored.ensures ∙ (λ i. stored_in (take (c.args.to - c.args.cursor.now.answered) (drop c.args.cursor.now.answered (c.as_slice.ensures i))) (take (c.args.to - c.args.cursor.now.answered) (drop c.args.cursor.now.answered (c.as_slice-2.ensures.value i)))) in
    let held = g.S.Shelf.held c.args.shelf.now in
    let old = in_pool c.args.cursor.now.groups c.args.pool.now in
    let new = in_pool c.add_all-done.new.groups c.add_all-done.new.pool in
    let added = subst (λ stored. AddsAll c.args.cursor.now.query c.args.table.now held stored old new) same c.in-Ok.ensures.added in
    moved_in c.args.pool.now c.args.cursor.now c.args.to c.requires.cursor c.requires.next.0 c.requires.next.1 c.add_all-done.new.groups c.add_all-done.new.pool c.add_all-done.ensures.stays c.args.table.now held added

pub returns-in-Ok-clause-keeps : goal.returns-in-Ok-clause-keeps
returns-in-Ok-clause-keeps g c =
    moved_aside c.args.pool.now c.args.cursor.now c.args.to c.requires.cursor c.requires.next.0 c.requires.next.1 c.add_all-done.new.groups c.add_all-done.new.pool c.add_all-done.ensures.stays

pub restore-requires-clause-table : goal.restore-requires-clause-table
restore-requires-clause-table g c = c.add_all-done.ensures.stays.table.holds

pub returns-clause-same : goal.returns-clause-same
returns-clause-same g c =
    let back = c.restore.ensures.restored c.args.cursor.now.groups c.args.pool.now c.add_all-done.ensures.stays.extends c.groups-count.ensures.places (subst (HasSaved c.args.cursor.now.groups c.args.pool.now) (sym c.as_slice-in-Err.ensures.value) c.in_ok-save.ensures) in
    (ap (λ (u : PooledTable). record c.args.cursor.now { groups = u }) back.0, back_aside c.args.pool.now c.args.cursor.now c.args.to c.requires.cursor c.requires.next.0 c.requires.next.1 c.add_all-done.new.groups c.add_all-done.new.pool c.add_all-done.ensures.stays c.restore.new.pool back.1 c.restore.ensures.keeps)

pub returns-clause-refused : goal.returns-clause-refused
returns-clause-refused g c = λ fault is real.
    let same : c.as_slice-3.result.now ≡ next_stored c.args.cursor.now c.args.to = c.as_slice-3.ensures.value ∙ c.in_ok-stored.ensures ∙ (λ i. stored_in (take (c.args.to - c.args.cursor.now.answered) (drop c.args.cursor.now.answered (c.as_slice.ensures i))) (take (c.args.to - c.args.cursor.now.answered) (drop c.args.cursor.now.answered (c.as_slice-2.ensures.value i)))) in
    let held = g.S.Shelf.held c.args.shelf.now in
    let old = in_pool c.args.cursor.now.groups c.args.pool.now in
    overfull_next c.args.pool.now c.args.cursor.now c.args.to c.requires.cursor c.requires.next.0 c.requires.next.1 c.args.table.now held c.requires.pool.0
    (subst (λ stored. AreOverfull c.args.cursor.now.query c.args.table.now held stored old) same (c.in-Err.ensures.refused fault is real))

pub returns-clause-passes : goal.returns-clause-passes
returns-clause-passes g c =
    let same : c.as_slice-3.result.now ≡ next_stored c.args.cursor.now c.args.to = c.as_slice-3.ensures.value ∙ c.in_ok-stored.ensures ∙ (λ i. stored_in (take (c.args.to - c.args.cursor.now.answered) (drop c.args.cursor.now.answered (c.as_slice.ensures i))) (take (c.args.to - c.args.cursor.now.answered) (drop c.args.cursor.now.answered (c.as_slice-2.ensures.value i)))) in
    let a : Seen = seen g.S.Shelf c.args.shelf.now in
    let b : Seen = seen g.S.Shelf c.add_all-done.new.shelf in
    subst (λ stored. PassReads c.args.cursor.now.query c.args.table.now stored a b (Failed _ c.in-Err.fault)) same c.in-Err.ensures.passes

pub returns-clause-stays : goal.returns-clause-stays
returns-clause-stays g c =
    let back = c.restore.ensures.restored c.args.cursor.now.groups c.args.pool.now c.add_all-done.ensures.stays.extends c.groups-count.ensures.places (subst (HasSaved c.args.cursor.now.groups c.args.pool.now) (sym c.as_slice-in-Err.ensures.value) c.in_ok-save.ensures) in
    subst (λ (u : PooledTable). IsCursorIn c.restore.new.pool (record c.args.cursor.now { groups = u })) (sym back.0)
    (still_cursor c.args.pool.now c.restore.new.pool (back_aside c.args.pool.now c.args.cursor.now c.args.to c.requires.cursor c.requires.next.0 c.requires.next.1 c.add_all-done.new.groups c.add_all-done.new.pool c.add_all-done.ensures.stays c.restore.new.pool back.1 c.restore.ensures.keeps) c.args.cursor.now c.requires.cursor)

pub returns-clause-keeps : goal.returns-clause-keeps
returns-clause-keeps g c =
    let back = c.restore.ensures.restored c.args.cursor.now.groups c.args.pool.now c.add_all-done.ensures.stays.extends c.groups-count.ensures.places (subst (HasSaved c.args.cursor.now.groups c.args.pool.now) (sym c.as_slice-in-Err.ensures.value) c.in_ok-save.ensures) in
    aside_of c.args.cursor.now.groups.owner keeper c.args.pool.now c.restore.new.pool (back_aside c.args.pool.now c.args.cursor.now c.args.to c.requires.cursor c.requires.next.0 c.requires.next.1 c.add_all-done.new.groups c.add_all-done.new.pool c.add_all-done.ensures.stays c.restore.new.pool back.1 c.restore.ensures.keeps)

pub returns-in_err-save-clause-passes : goal.returns-in_err-save-clause-passes
returns-in_err-save-clause-passes g c =
    let r = c.from_residual-in_err-save.result in
    pass_unread c.args.cursor.now.query c.args.table.now (next_stored c.args.cursor.now c.args.to) c.docs_bound_law.ensures.bound c.requires.over.0 _ r (seen g.S.Shelf c.args.shelf.now) (gives_fault _ r (Sql NoMemory) c.from_residual-in_err-save.ensures.1)

pub returns-in-Ok-clause-closed : goal.returns-in-Ok-clause-closed
returns-in-Ok-clause-closed g c = none_still c.args.pool.now c.args.cursor.now c.args.to c.requires.cursor c.requires.next.0 c.requires.next.1 c.add_all-done.new.groups c.add_all-done.new.pool c.add_all-done.ensures.stays c.requires.pool.1

pub restore-requires-clause-fewer : goal.restore-requires-clause-fewer
restore-requires-clause-fewer g c = omega (arith, c.groups-count.ensures.places, no_more c.args.pool.now c.args.cursor.now c.args.to c.requires.cursor c.requires.next.0 c.requires.next.1 c.add_all-done.new.groups c.add_all-done.new.pool c.add_all-done.ensures.stays)

pub restore-requires-clause-length : goal.restore-requires-clause-length
restore-requires-clause-length g c = ap length c.as_slice-in-Err.ensures.value ∙ states_long c.args.pool.now c.args.cursor.now c.args.to c.requires.cursor c.requires.next.0 c.requires.next.1 c.add_all-done.new.groups c.add_all-done.new.pool c.add_all-done.ensures.stays _ c.in_ok-save.ensures
    ∙ ap (λ n. n * length (kinds_at c.add_all-done.new.pool c.add_all-done.new.groups.owner)) (sym c.groups-count.ensures.places)

pub returns-clause-closed : goal.returns-clause-closed
returns-clause-closed g c = none_back c.args.pool.now c.args.cursor.now c.args.to c.requires.cursor c.requires.next.0 c.requires.next.1 c.add_all-done.new.groups c.add_all-done.new.pool c.add_all-done.ensures.stays c.restore.new.pool c.restore.ensures.keeps c.requires.pool.1
