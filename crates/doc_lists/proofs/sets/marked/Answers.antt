use Rattle.std.proofs.Common.{◌≡◌, ◌<◌, ◌&&◌, [], length, refl, rules}
use Rattle.doc_lists.specs.Docs.{has_doc}
use Rattle.doc_lists.specs.Marks.{is_marked}
use Rattle.doc_lists.proofs.MarkedSweep.{none_looked, run_looked}
use Rattle.doc_lists.proofs.Sweep.{walk_done, walk_first}
use Rattle.doc_lists.proofs.sets.marked.Goals as goal

pub loop-ours-init : goal.loop-ours-init
loop-ours-init c =
    let a = c.args.a.now in
    let marks = c.args.marks.now in
    walk_first (λ doc. has_doc a doc && is_marked marks doc) a [] c.new-docs.result c.runs-ours.result.now [] c.new-docs.ensures c.runs-ours.ensures.docs c.runs-ours.ensures.apart refl tt

pub loop-ours-preserved : goal.loop-ours-preserved
loop-ours-preserved c =
    let ours = c.loop-ours.ours.now in
    let some : 0 < length ours = search rules in
    run_looked c.loop-ours.start c.max-first.result _ c.args.a.now c.args.marks.now c.loop-ours.docs c.push_marked_from.new.docs ours c.without_first-ours.result.now (record { first = 0; last = 0 }) c.loop-ours.invariant some c.max-first.ensures refl
    c.in_ok-push_marked_from.ensures c.without_first-ours.ensures.remain c.without_first-ours.ensures.same

pub returns : goal.returns
returns c =
    let a = c.args.a.now in
    let marks = c.args.marks.now in
    let start = c.loop-ours.start in
    let docs = c.loop-ours.docs in
    let ours = c.loop-ours.ours.now in
    let none : length ours ≡ 0 = search rules in
    walk_done (λ doc. has_doc a doc && is_marked marks doc) start a [] docs ours [] c.loop-ours.invariant (none_looked start a marks docs ours c.loop-ours.invariant none)
