use Rattle.std.proofs.Common.{rules, vec_len, ◌≡◌, ◌∙◌, ◌<◌, ◌≤◌, Err, length, sym, subst}
use Rattle.outside.specs.Seen.{seen}
use Rattle.command_words.specs.declared.fault.Fault.TheVariants as fault
use Rattle.serve_lines.specs.Calls.{Finishes}
use Rattle.serve_lines.specs.Kept.{cursors_of, kept_of}
use Rattle.serve_lines.proofs.FinishLemmas.{closing_done, closing_memory, closing_next, closing_stop, finished_not, no_cursors, session_closed, some_cursors}
use Rattle.serve_lines.proofs.batch.finish.Goals as goal

pub returns-in_err-name : goal.returns-in_err-name
returns-in_err-name g c =
    let old = seen g.D.Shelf c.args.depot.now in
    let mid = seen g.D.Shelf c.cursors.depot in
    finished_not (kept_of c.args.session.now) old mid c.from_residual.result fault.Memory c.from_residual.ensures.1
    (closing_memory (kept_of c.args.session.now) (kept_of c.cursors.session) old mid c.cursors.invariant.closing)

pub returns-in-Err : goal.returns-in-Err
returns-in-Err g c =
    let old = seen g.D.Shelf c.args.depot.now in
    let mid = seen g.D.Shelf c.cursors.depot in
    let new = seen g.D.Shelf c.close.new.depot in
    let before = kept_of c.args.session.now in
    let serving = c.cursors.session.serving in
    let len : vec_len serving.cursors ≡ length serving.cursors.items = search rules in
    let some = some_cursors serving.pool serving.cursors.items 0 (subst (λ n. 0 < n) (c.len.ensures ∙ len) c.cursors-test.true) in
    subst (λ f. Finishes before old new (Err f)) (sym c.close_fault.ensures)
    (closing_stop before old mid new c.cursors.session.table (cursors_of serving) (cursors_of c.close.new.self) c.as_str.result.now some c.cursors.invariant.closing
    c.in-Err.fault c.in-Err.ensures.only c.in-Err.ensures.serves c.in-Err.ensures.only_removes)

pub cursors-preserved-in-Ok : goal.cursors-preserved-in-Ok
cursors-preserved-in-Ok g c =
    let old = seen g.D.Shelf c.args.depot.now in
    let mid = seen g.D.Shelf c.cursors.depot in
    let new = seen g.D.Shelf c.close.new.depot in
    let before = kept_of c.args.session.now in
    let serving = c.cursors.session.serving in
    let o = c.cursors.session.table in
    let len : vec_len serving.cursors ≡ length serving.cursors.items = search rules in
    let some = some_cursors serving.pool serving.cursors.items 0 (subst (λ n. 0 < n) (c.len.ensures ∙ len) c.cursors-test.true) in
    record {
      session = session_closed serving c.close.new.self o c.cursors.invariant.session c.in-Ok.ensures.cursors c.in-Ok.ensures.over c.in-Ok.ensures.fewer;
      closing = closing_next before old mid new o (cursors_of serving) (cursors_of c.close.new.self) c.as_str.result.now some c.cursors.invariant.closing
          c.in-Ok.field-0 c.in-Ok.ensures.serves (c.in-Ok.ensures.only_removes.reads_still (λ f. f)) (c.in-Ok.ensures.only_removes.writes_still (λ e. cc));
    }

pub returns : goal.returns
returns g c =
    let old = seen g.D.Shelf c.args.depot.now in
    let mid = seen g.D.Shelf c.cursors.depot in
    let before = kept_of c.args.session.now in
    let serving = c.cursors.session.serving in
    let len : vec_len serving.cursors ≡ length serving.cursors.items = search rules in
    let least : c.len.result ≤ 0 = c.cursors-test.false in
    closing_done before (kept_of c.cursors.session) old mid (no_cursors serving.pool serving.cursors.items (subst (λ n. n ≤ 0) (c.len.ensures ∙ len) least)) c.cursors.invariant.closing

pub cursors-preserved : goal.cursors-preserved
cursors-preserved g c =
    let old = seen g.D.Shelf c.args.depot.now in
    let mid = seen g.D.Shelf c.cursors.depot in
    let new = seen g.D.Shelf c.close.new.depot in
    let before = kept_of c.args.session.now in
    let serving = c.cursors.session.serving in
    let o = c.cursors.session.table in
    let len : vec_len serving.cursors ≡ length serving.cursors.items = search rules in
    let some = some_cursors serving.pool serving.cursors.items 0 (subst (λ n. 0 < n) (c.len.ensures ∙ len) c.cursors-test.true) in
    record {
      session = session_closed serving c.close.new.self o c.cursors.invariant.session c.in-Ok.ensures.cursors c.in-Ok.ensures.over c.in-Ok.ensures.fewer;
      closing = closing_next before old mid new o (cursors_of serving) (cursors_of c.close.new.self) c.as_str.result.now some c.cursors.invariant.closing
          c.in-Ok.field-0 c.in-Ok.ensures.serves (c.in-Ok.ensures.only_removes.reads_still (λ f. f)) (c.in-Ok.ensures.only_removes.writes_still (λ e. cc));
    }
