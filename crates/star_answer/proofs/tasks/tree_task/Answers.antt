use Rattle.std.proofs.Common.{ℕ, List, length, subst}
use Rattle.table_schema.specs.declared.query.Conjunct.{Conjunct}
use Rattle.star_answer.specs.Tasks.{AreGrouped, AreTested}
use Rattle.star_answer.proofs.TaskSteps.{asks_for}
use Rattle.star_answer.proofs.tasks.tree_task.Goals as goal

pub returns-clause-asks : goal.returns-clause-asks
returns-clause-asks c =
    let query = c.args.query.now in
    let tree = c.args.tree.now in
    let head = c.args.head.now in
    let matched = c.in_ok-matched.matched in
    let grouped = c.in_ok-grouped.grouped in
    let split_is = c.as_slice-split.ensures in
    asks_for query tree head matched grouped
    ((c.eligible_law.ensures query tree).0 c.requires.eligible)
    (subst (λ (xs : List Conjunct). AreTested xs tree.split head (length tree.split) matched)
    c.as_slice.ensures
    (subst (λ (xs : List ℕ). AreTested c.as_slice.result.now xs head (length xs) matched)
    split_is c.in_ok-matched.ensures))
    (subst (λ (xs : List ℕ). AreGrouped xs tree.split (length tree.split) grouped)
    c.as_slice-2.ensures
    (subst (λ (xs : List ℕ). AreGrouped c.as_slice-2.result.now xs (length xs) grouped)
    split_is c.in_ok-grouped.ensures))
