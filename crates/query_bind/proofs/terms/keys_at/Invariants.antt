use Rattle.std.proofs.Common.{◌≡◌, map, take, drop}
use Rattle.query_bind.specs.Names.{term_finding, term_of}
use Rattle.query_bind.specs.Terms.{key_at}
use Rattle.query_bind.proofs.terms.keys_at.Given as goal
use Rattle.table_schema.specs.Firsts.{first_in}

abbrev pub invariant-loop-key : goal.invariant-loop-key
invariant-loop-key l =
    (first_in (λ k. term_finding l.fields.all.now (term_of l.names.query.now.items k.term)) (drop l.key-index l.order) ≡ first_in (λ k. term_finding l.fields.all.now (term_of l.names.query.now.items k.term)) l.order)
    × (l.keys ≡ map (key_at l.fields.all.now l.names.query.now.items) (take l.key-index l.order))
