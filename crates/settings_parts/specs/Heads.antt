-- The checks of settings beside `tableIndexConfig`.
use Rattle.std.specs.Prelude.{◌-◌, Bool, nat_eq, [], ◌∷◌, take, length, codes, if◌then◌else◌}
use Rattle.std.specs.List.{ends_with}
use Rattle.std.specs.Str.{str_eq_ignore_ascii_case}
use Rattle.serde_json.specs.Data.{Data}
use Rattle.json_keys.specs.declared.fault.KeyKind.TheVariants.{BadName, Unsupported}
use Rattle.table_schema.specs.Names.{Text}
use Rattle.json_keys.specs.Json.{key_of}
use Rattle.json_keys.specs.Faults.{Finding, fault_unless}
use Rattle.json_keys.specs.Keys.{optional, object_finding, required_text, text_at, unused_key}
use Rattle.table_schema.specs.Names.{is_column_name}
use Rattle.table_schema.specs.Firsts.{first_of}

-- without `_OFFLINE` at the end
abbrev pub bare_name : Text → Text
bare_name name = if ends_with nat_eq name (codes "_OFFLINE") then take
    (length name - 8) name else name

-- the name that `tableName` gives, without the suffix of the type
abbrev pub table_name : Data → Text
table_name d = bare_name (text_at (codes "tableName") d)

-- `tableName` is there, and without its suffix keeps the rule of column names
abbrev pub table_finding : Data → Finding
table_finding d = first_of (
    required_text [] (codes "tableName") d
    ∷ fault_unless (is_column_name (table_name d)) BadName (codes "tableName")
    ∷ [])

-- the one type of table that is supported, in any case of its letters
abbrev pub is_offline : Text → Bool
is_offline name = str_eq_ignore_ascii_case name (codes "OFFLINE")

-- `tableType` is there and is that type; `REALTIME` is not supported
abbrev pub type_finding : Data → Finding
type_finding d = first_of (
    required_text [] (codes "tableType") d
    ∷ fault_unless (is_offline (text_at (codes "tableType") d)) Unsupported (codes "tableType")
    ∷ [])

-- the key of what is done to rows as they come in, such as filters
abbrev pub INGESTION_KEY : Text
INGESTION_KEY = codes "ingestionConfig"

-- rows are taken as they come
abbrev pub ingestion_form : Data → Finding
ingestion_form d = first_of (
    object_finding INGESTION_KEY d
    ∷ unused_key INGESTION_KEY (codes "transformConfigs") d
    ∷ unused_key INGESTION_KEY (codes "filterConfig") d
    ∷ unused_key INGESTION_KEY (codes "complexTypeConfig") d
    ∷ unused_key INGESTION_KEY (codes "aggregationConfigs") d
    ∷ unused_key INGESTION_KEY (codes "enrichmentConfigs") d
    ∷ [])

-- the check of `ingestionConfig`, which may be absent
abbrev pub ingestion_finding : Data → Finding
ingestion_finding d = optional ingestion_form (key_of INGESTION_KEY d)

-- the checks of all keys but `tableIndexConfig`; upsert and dedup are not supported
abbrev pub head_finding : Data → Finding
head_finding d = first_of (
    object_finding [] d
    ∷ table_finding d
    ∷ type_finding d
    ∷ unused_key [] (codes "upsertConfig") d
    ∷ unused_key [] (codes "dedupConfig") d
    ∷ ingestion_finding d
    ∷ [])
