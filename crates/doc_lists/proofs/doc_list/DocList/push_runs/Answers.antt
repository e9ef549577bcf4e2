use Rattle.std.proofs.Common.{◌+◌, List, ℕ, arith, subst, sym}
use Rattle.doc_lists.specs.Docs.{Apart, AreAfter, AreRuns}
use Rattle.doc_lists.specs.declared.run.Run.{Run}
use Rattle.doc_lists.proofs.Runs.{apart_less}
use Rattle.doc_lists.proofs.Stretches.{count_within, next_within, runs_after}
use Rattle.doc_lists.proofs.doc_list.DocList.push_runs.Goals as goal

pub count_of-requires : goal.count_of-requires
count_of-requires c = apart_less (c.requires.end + 1) 0 c.args.runs.now (omega arith) c.requires.apart

pub overflow_add-count : goal.overflow_add-count
overflow_add-count c =
    let apart : Apart 0 c.args.runs.now = apart_less (c.requires.end + 1) 0 c.args.runs.now (omega arith) c.requires.apart in
    let more = count_within c.args.runs.now apart in
    let own = next_within 0 c.self.inside.runs.items (omega arith) c.self.invariant.apart in
    omega (arith, more, own, c.self.invariant.at_most, c.count_of.ensures)

pub invariant_of-self-2 : goal.invariant_of-self-2
invariant_of-self-2 c =
    let old = c.self.inside.runs.items in
    let runs = c.args.runs.now in
    let after = subst (λ (docs : List ℕ). AreAfter docs runs) (sym c.self.view_is) c.requires in
    subst (λ (rs : List Run). AreRuns rs (c.self.inside.count + c.count_of.result)) (sym c.in_ok-extend_from_slice.ensures.items)
    (runs_after old runs c.self.inside.count c.count_of.result c.self.invariant after c.count_of.ensures)
