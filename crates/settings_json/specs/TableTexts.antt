-- The settings of a table that a text is, or the first check of settings that it fails.
use Rattle.std.specs.Prelude.{List, [], ◌∷◌, Result, unwrap_or}
use Rattle.serde_json.specs.Data.{Data, null}
use Rattle.table_schema.specs.declared.field.Field.{Field}
use Rattle.table_schema.specs.declared.settings.Settings.{Settings}
use Rattle.json_keys.specs.declared.fault.TextFault.{TextFault}
use Rattle.table_schema.specs.Names.{Text}
use Rattle.json_keys.specs.Json.{key_of, json_of}
use Rattle.json_keys.specs.Faults.{Finding}
use Rattle.json_keys.specs.Keys.{optional}
use Rattle.json_keys.specs.Readings.{read_by}
use Rattle.settings_parts.specs.Heads.{table_name, head_finding}
use Rattle.settings_parts.specs.Indexes.{INDEX_KEY, index_finding, indexed}
use Rattle.table_schema.specs.Firsts.{first_of}

-- the first fault of the settings of a table
abbrev pub settings_finding : List Field → Data → Finding
settings_finding fields d = first_of (
    head_finding d
    ∷ optional (index_finding fields (table_name d)) (key_of INDEX_KEY d)
    ∷ [])

-- without `tableIndexConfig` no index is named
abbrev pub settings_of : List Field → Data → Settings
settings_of fields d = indexed fields (table_name d) (unwrap_or (key_of INDEX_KEY d) null)

-- the settings of a text, or its first fault
abbrev pub settings_read : List Field → Text → Result Settings TextFault
settings_read fields bytes = read_by (settings_finding fields) (settings_of fields) (json_of bytes)
