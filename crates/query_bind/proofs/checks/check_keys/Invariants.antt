use Rattle.std.proofs.Common.{◌≡◌, drop}
use Rattle.query_bind.specs.Names.{term_of}
use Rattle.query_bind.specs.Grouped.{term_grouped}
use Rattle.query_bind.proofs.checks.check_keys.Given as goal
use Rattle.table_schema.specs.Firsts.{first_in}

abbrev pub invariant-loop-key : goal.invariant-loop-key
invariant-loop-key l = first_in (λ k. term_grouped l.names.query.now.groups (term_of l.names.query.now.items k.term)) (drop l.key-index l.keys) ≡ first_in (λ k. term_grouped l.names.query.now.groups (term_of l.names.query.now.items k.term)) l.keys
