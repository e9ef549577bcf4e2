-- The table that the checks of settings accept has the name of a column.
use Rattle.std.proofs.Common.{◌≡◌, true, codes, [], ◌∷◌, None}
use Rattle.serde_json.specs.Data.{Data}
use Rattle.json_keys.specs.declared.fault.KeyKind.TheVariants.{BadName}
use Rattle.json_keys.specs.Keys.{object_finding, required_text, unused_key}
use Rattle.json_keys.specs.Faults.{fault_unless}
use Rattle.table_schema.specs.Names.{is_column_name}
use Rattle.settings_parts.specs.Heads.{table_name, table_finding, type_finding, ingestion_finding, head_finding}
use Rattle.json_keys.proofs.Checks.{unless_none}
use Rattle.table_schema.proofs.FirstLaws.{nones}

pub named_by : (d : Data) → head_finding d ≡ None → is_column_name (table_name d) ≡ true
named_by d none =
    let table = table_name d in
    let head = nones (
    object_finding [] d
    ∷ table_finding d
    ∷ type_finding d
    ∷ unused_key [] (codes "upsertConfig") d
    ∷ unused_key [] (codes "dedupConfig") d
    ∷ ingestion_finding d
    ∷ []) none in
    let named = nones (required_text [] (codes "tableName") d ∷ fault_unless (is_column_name table) BadName (codes "tableName") ∷ []) head.1.0 in
    unless_none (is_column_name table) BadName (codes "tableName") named.1.0
