use Rattle.std.proofs.Common.{◌≡◌, map, take, drop}
use Rattle.query_bind.specs.Names.{term_finding}
use Rattle.query_bind.specs.Terms.{term_at}
use Rattle.query_bind.proofs.terms.items_at.Given as goal
use Rattle.table_schema.specs.Firsts.{first_in}

abbrev pub invariant-loop-item : goal.invariant-loop-item
invariant-loop-item l =
    (first_in (λ i. term_finding l.fields.all.now i.term) (drop l.item-index l.items) ≡ first_in (λ i. term_finding l.fields.all.now i.term) l.items)
    × (l.terms ≡ map (λ i. term_at l.fields.all.now i.term) (take l.item-index l.items))
