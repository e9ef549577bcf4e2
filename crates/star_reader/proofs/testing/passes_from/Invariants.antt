use Rattle.std.proofs.Common.{◌≡◌, ◌-◌, length}
use Rattle.state_columns.specs.Docs.{doc_at}
use Rattle.star_tree.specs.Picks.{holds_from}
use Rattle.star_walk.specs.Walking.{task_of}
use Rattle.star_reader.proofs.testing.passes_from.Given as goal

abbrev pub invariant-loop-dim : goal.invariant-loop-dim
invariant-loop-dim l =
    let t = task_of l.task.matched l.task.grouped in
    let k = length l.task.matched in
    let x = (doc_at l.table.docs l.at).0 in
    holds_from t (k - l.level) l.level x ≡ holds_from t (k - l.dim) l.dim x
