use Rattle.std.proofs.Common.{◌≡◌, IfOk, subst, List, ℕ}
use Rattle.table_schema.specs.declared.query.Agg.{Agg}
use Rattle.query_bind.specs.Bound.{asked_of}
use Rattle.query_bind.proofs.assembled.asked.Goals as goal

pub returns : goal.returns
returns c =
    let fields = c.args.fields.all.now in
    let having = c.args.query.now.having in
    subst (λ (groups : List ℕ). IfOk c.asked.result (λ found. found ≡ asked_of fields groups c.args.lists.now.aggs having)) c.as_slice-groups.ensures
    (subst (λ (aggs : List Agg). IfOk c.asked.result (λ found. found ≡ asked_of fields c.as_slice-groups.result.now aggs having)) c.as_slice-aggs.ensures c.asked.ensures)
