use Rattle.std.proofs.Common.{ℕ, ◌<◌, ◌≤◌, List, arith, subst, sym}
use Rattle.std.specs.List.{All}
use Rattle.doc_lists.proofs.Runs.{next_below, runs_added}
use Rattle.doc_lists.specs.Docs.{next_from}
use Rattle.doc_lists.proofs.doc_list.DocList.push_run.Goals as goal

pub overflow_add-count : goal.overflow_add-count
overflow_add-count c =
    let all = subst (λ (docs : List ℕ). All (λ doc. doc < c.args.run.first) docs) (sym c.self.view_is) c.requires.above in
    let below : next_from 0 c.self.inside.runs.items ≤ c.args.run.first = next_below 0 0 c.self.inside.runs.items c.args.run.first (omega arith) c.self.invariant.apart all in
    omega (arith, below, c.self.invariant.at_most, c.count.ensures)

pub append-requires-clause-above : goal.append-requires-clause-above
append-requires-clause-above c =
    next_below 0 0 c.self.inside.runs.items c.args.run.first (omega arith) c.self.invariant.apart
    (subst (λ (docs : List ℕ). All (λ doc. doc < c.args.run.first) docs) (sym c.self.view_is) c.requires.above)

pub invariant_of-self-2 : goal.invariant_of-self-2
invariant_of-self-2 c =
    let all = subst (λ (docs : List ℕ). All (λ doc. doc < c.args.run.first) docs) (sym c.self.view_is) c.requires.above in
    let below : next_from 0 c.self.inside.runs.items ≤ c.args.run.first = next_below 0 0 c.self.inside.runs.items c.args.run.first (omega arith) c.self.invariant.apart all in
    runs_added c.self.inside.runs.items c.append.new.runs.items c.self.inside.count c.args.run c.count.result c.self.invariant c.in_ok-append.ensures.added below c.requires.order c.count.ensures
