use Rattle.std.proofs.Common.{◌≡◌, ◌∙◌, ◌++◌, List, ap, drop, nat_le, subst, sym}
use Rattle.doc_lists.specs.Docs.{AreAfter, docs_of}
use Rattle.doc_lists.specs.declared.run.Run.{Run}
use Rattle.doc_lists.proofs.Stretches.{rest_after, sweeps_runs}
use Rattle.doc_lists.proofs.sets.push_runs_from.Goals as goal

pub push_runs-requires : goal.push_runs-requires
push_runs-requires c =
    subst (λ (rs : List Run). AreAfter c.push_from.new.docs rs) (sym c.following-rest.ensures)
    (rest_after c.args.start c.args.runs.now (record { first = 0; last = 0 }) c.push_from.new.docs c.requires.some c.requires.remain c.in_ok-push_from.ensures.below)

pub returns-clause-swept : goal.returns-clause-swept
returns-clause-swept c =
    let runs = c.args.runs.now in
    let mid = c.push_from.new.docs in
    let new = c.push_runs.new.self in
    let is : new ≡ mid ++ docs_of (drop 1 runs) = c.in_ok-push_runs.ensures.ok ∙ ap (λ (rs : List Run). mid ++ docs_of rs) c.following-rest.ensures in
    sweeps_runs c.args.start runs (record { first = 0; last = 0 }) c.args.docs.now mid new c.requires.some c.requires.remain
    (λ test swept all. c.in_ok-push_from.ensures.swept test swept (λ doc from to. all doc from to ∙ ap (λ n. nat_le n doc) (sym c.max.ensures))) is
