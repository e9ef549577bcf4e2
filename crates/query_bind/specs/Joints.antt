-- AND and OR as one: how members are joined, and what of a condition is among them.
use Rattle.std.specs.Prelude.{Bool, List, flat_map, if◌then◌else◌}
use Rattle.table_schema.specs.declared.field.Field.{Field}
use Rattle.table_schema.specs.declared.query.Wide.{Wide}
use Rattle.table_schema.specs.declared.query.Wide.TheVariants as wide
use Rattle.query_tokens.specs.declared.tree.Cond.{Cond}
use Rattle.query_bind.specs.declared.normal.Joint.{Joint}
use Rattle.query_bind.specs.declared.normal.Joint.TheVariants.{All, Any}
use Rattle.query_bind.specs.Written.{written}
use Rattle.query_bind.specs.Conjuncts.{conjoined, disjoined, normal}

-- AND for OR, and OR for AND
abbrev pub other : Joint → Joint
other All = Any
other Any = All

-- under a NOT the other one
abbrev pub other_if : Bool → Joint → Joint
other_if negated joint = if negated then other joint else joint

-- one condition of these members, an AND or an OR
abbrev pub join : Joint → List Wide → Wide
join All ws = wide.All ws
join Any ws = wide.Any ws

-- the members that are joined so; another condition alone
abbrev pub parts : Joint → Wide → List Wide
parts All w = conjoined w
parts Any w = disjoined w

-- what of the normal form of a condition is among members that are joined so
abbrev pub gathered : Joint → Bool → List Field → Cond → List Wide
gathered joint negated fields c = parts joint (normal negated (written fields c))

-- the same of several conditions
abbrev pub all_gathered : Joint → Bool → List Field → List Cond → List Wide
all_gathered joint negated fields cs = flat_map (gathered joint negated fields) cs
