use Rattle.std.proofs.Common.{◌≡◌, map, take, drop}
use Rattle.schema_json.specs.Fields.{field_of, name_of, field_finding}
use Rattle.schema_json.specs.Schemas.{fields_finding}
use Rattle.schema_json.specs.Entries.{seen}
use Rattle.schema_json.proofs.schema_text.read_fields.Given as goal
use Rattle.table_schema.specs.Firsts.{by_place}

abbrev pub invariant-loop-entry : goal.invariant-loop-entry
invariant-loop-entry l =
    (l.fields ≡ map field_of (map seen (take l.entry-index l.entries)))
    × (by_place (λ before e. field_finding (map name_of before) e) (map seen (take l.entry-index l.entries)) (map seen (drop l.entry-index l.entries))
    ≡ fields_finding (map seen l.entries))
