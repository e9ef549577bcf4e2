use Rattle.std.proofs.Common.{◌≡◌, ◌<◌, ◌-◌, length, sym, ap, ◌∙◌, arith}
use Rattle.state_columns.specs.Docs.{doc_at}
use Rattle.star_tree.specs.Picks.{holds_from}
use Rattle.star_walk.specs.Walking.{task_of, passes}
use Rattle.star_reader.proofs.TestSteps.{test_passed, test_failed, tests_done}
use Rattle.star_reader.proofs.testing.passes_from.Goals as goal

pub loop-dim-preserved : goal.loop-dim-preserved
loop-dim-preserved c =
    let m = c.args.task.now.matched in
    let x = (doc_at c.args.table.now.docs c.args.at).0 in
    let lt : c.loop-dim.dim < length m = omega arith in
    c.loop-dim.invariant
    ∙ test_passed m c.args.task.now.grouped (length m) c.loop-dim.dim x lt
    (ap (passes m c.loop-dim.dim) (sym c.dim.ensures) ∙ sym c.passes.ensures ∙ c.if-not-passes.false)

pub returns-then-not-passes : goal.returns-then-not-passes
returns-then-not-passes c =
    let m = c.args.task.now.matched in
    let x = (doc_at c.args.table.now.docs c.args.at).0 in
    let lt : c.loop-dim.dim < length m = omega arith in
    sym (c.loop-dim.invariant
    ∙ test_failed m c.args.task.now.grouped (length m) c.loop-dim.dim x lt
    (ap (passes m c.loop-dim.dim) (sym c.dim.ensures) ∙ sym c.passes.ensures ∙ c.if-not-passes.true))

pub returns : goal.returns
returns c =
    let m = c.args.task.now.matched in
    let t = task_of m c.args.task.now.grouped in
    let x = (doc_at c.args.table.now.docs c.args.at).0 in
    let end : c.loop-dim.dim ≡ length m = omega arith in
    sym (c.loop-dim.invariant ∙ ap (λ j. holds_from t (length m - j) j x) end
    ∙ tests_done m c.args.task.now.grouped (length m) x)
