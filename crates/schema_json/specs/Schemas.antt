-- The schema that a text is, or the first check of a schema that it fails.
use Rattle.std.specs.Prelude.{true, List, [], ◌∷◌, map, codes, Result}
use Rattle.serde_json.specs.Data.{Data}
use Rattle.table_schema.specs.declared.field.Schema.{Schema}
use Rattle.json_keys.specs.declared.fault.TextFault.{TextFault}
use Rattle.table_schema.specs.Names.{Text}
use Rattle.json_keys.specs.Json.{json_of}
use Rattle.json_keys.specs.Faults.{Finding}
use Rattle.json_keys.specs.Readings.{read_by}
use Rattle.json_keys.specs.Keys.{object_finding, required_text, unused_key, refused_bool}
use Rattle.schema_json.specs.Fields.{Entry, all_entries, lists_finding, name_of, field_finding, field_of}
use Rattle.table_schema.specs.Firsts.{first_of, by_place}

-- the checks of the keys beside the three lists; null handling by column may not be enabled
abbrev pub head_finding : Data → Finding
head_finding d = first_of (
    object_finding [] d
    ∷ required_text [] (codes "schemaName") d
    ∷ unused_key [] (codes "timeFieldSpec") d
    ∷ unused_key [] (codes "complexFieldSpecs") d
    ∷ refused_bool true [] (codes "enableColumnBasedNullHandling") d
    ∷ [])

-- each entry passes the checks of a field, after those before it
abbrev pub fields_finding : List Entry → Finding
fields_finding entries = by_place (λ before e. field_finding (map name_of before) e) [] entries

-- the first fault of a schema
abbrev pub schema_finding : Data → Finding
schema_finding d = first_of (head_finding d ∷ lists_finding d ∷ fields_finding (all_entries d) ∷ [])

-- the schema of a JSON value without a fault
abbrev pub schema_of : Data → Schema
schema_of d = record { fields = map field_of (all_entries d) }

-- the schema of a text, or its first fault
abbrev pub schema_read : Text → Result Schema TextFault
schema_read bytes = read_by schema_finding schema_of (json_of bytes)
