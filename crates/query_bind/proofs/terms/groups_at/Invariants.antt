use Rattle.std.proofs.Common.{◌≡◌, map, take, drop}
use Rattle.query_bind.specs.Names.{column_finding}
use Rattle.query_bind.specs.Terms.{column_at}
use Rattle.query_bind.proofs.terms.groups_at.Given as goal
use Rattle.table_schema.specs.Firsts.{first_in}

abbrev pub invariant-loop-name : goal.invariant-loop-name
invariant-loop-name l =
    (first_in (column_finding l.fields.all.now) (drop l.name-index l.names) ≡ first_in (column_finding l.fields.all.now) l.names)
    × (l.columns ≡ map (column_at l.fields.all.now) (take l.name-index l.names))
