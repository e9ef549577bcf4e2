-- Which texts make a table.
use Rattle.std.specs.Prelude.{◌≡◌, ℕ, List, Ok}
use Rattle.schema_json.specs.Schemas.{schema_read}
use Rattle.settings_json.specs.TableTexts.{settings_read}
use Rattle.table_schema.specs.declared.table.Table.{Table}
use Rattle.table_store.specs.State as state
use Rattle.table_store.specs.TableFile.{FitsTable, table_file}

-- the checks accept these texts, as this schema and these settings of its fields
pub record IsAccepted (texts : state.Texts) (table : Table) : Type 0 where
  pub fits : FitsTable texts
  pub schema : schema_read texts.schema ≡ Ok table.schema
  pub settings : settings_read table.schema.fields texts.settings ≡ Ok table.settings

-- these bytes are the file of this table
pub record IsTableFile (bytes : List ℕ) (table : Table) : Type 0 where
  pub texts : state.Texts
  pub accepted : IsAccepted texts table
  pub spelled : bytes ≡ table_file texts

-- these bytes are the file of no table
abbrev pub IsNoTableFile : List ℕ → Type 0
IsNoTableFile bytes = (table : Table) → ¬ IsTableFile bytes table
