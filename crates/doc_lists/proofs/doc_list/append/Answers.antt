use Rattle.std.proofs.Common.{◌≡◌, ◌<◌, ◌-◌, length, get_or, sym, subst, slice_set, refl, arith, rules}
use Rattle.doc_lists.specs.declared.run.Run.{Run}
use Rattle.doc_lists.specs.Docs.{Added, next_from}
use Rattle.doc_lists.proofs.Runs.{added_near, added_new}
use Rattle.doc_lists.proofs.doc_list.append.Goals as goal
use Rattle.doc_lists.proofs.doc_list.append.Goals.{else-length-gt0-via-then-length-gt0+else-next-run, else-length-gt0-via-else-length-gt0}

pub returns-then-next-run-clause-added : goal.returns-then-next-run-clause-added
returns-then-next-run-clause-added c =
    let old = c.args.runs.now.items in
    let run = c.args.run in
    let end = c.index_mut-end.result.now in
    let longer : Run = record { first = end.first; last = run.last } in
    let size : c.len-length.result ≡ length old = search rules in
    let next : next_from 0 old ≡ run.first = search (rules) in
    let is = subst (λ n. end ≡ get_or old (n - 1) end) size c.index_mut-end.ensures.value in
    subst (λ n. Added old (slice_set old (n - 1) longer) run) (sym size)
    (added_near old end longer run (omega (arith, size, c.if-length-gt0.true)) is refl c.requires.apart next c.requires.order (search rules) refl)

pub returns-clause-added : goal.returns-clause-added
returns-clause-added c =
    let old = c.args.runs.now.items in
    let run = c.args.run in
    let size : c.len-length.result ≡ length old = search rules in
    let next : c.next_after-next.result ≡ next_from 0 old = search rules in
    let far : 0 < length old → next_from 0 old < run.first = elim c.else-length-gt0.branch [
      | else-length-gt0-via-then-length-gt0+else-next-run w ↦ (λ some. let not = w.if-next-run.false in omega (arith, next, not, c.requires.above))
      | else-length-gt0-via-else-length-gt0 w ↦ (λ some. absurd (omega (arith, some, size, w.if-length-gt0.false)))
    ] in
    added_new old c.push.new.self.items run c.in_ok-push.ensures.items c.requires.apart far c.requires.order (search rules)
