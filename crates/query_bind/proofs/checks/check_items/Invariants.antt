use Rattle.std.proofs.Common.{◌≡◌, drop}
use Rattle.query_bind.specs.Grouped.{term_grouped}
use Rattle.query_bind.proofs.checks.check_items.Given as goal
use Rattle.table_schema.specs.Firsts.{first_in}

abbrev pub invariant-loop-item : goal.invariant-loop-item
invariant-loop-item l = first_in (λ i. term_grouped l.names.query.now.groups i.term) (drop l.item-index l.items) ≡ first_in (λ i. term_grouped l.names.query.now.groups i.term) l.items
