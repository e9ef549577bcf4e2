-- What the checks accept.
use Rattle.std.proofs.Common.{◌≡◌, Option, Some, None, Ok, refl, sym, subst}
use Rattle.serde_json.specs.Data.{Data}
use Rattle.table_schema.specs.declared.table.Table as read
use Rattle.json_keys.specs.Faults.{Finding}
use Rattle.json_keys.specs.Json.{json_of}
use Rattle.json_keys.specs.Readings.{answer, read_by}
use Rattle.schema_json.specs.Schemas.{schema_finding, schema_of, schema_read}
use Rattle.settings_json.specs.TableTexts.{settings_finding, settings_of, settings_read}
use Rattle.table_schema.specs.Valid.{IsValidSchema}
use Rattle.table_schema.specs.ValidSettings.{IsValidSettings}
use Rattle.table_schema.specs.ValidTable.{IsValidTable}
use Rattle.schema_json.proofs.SchemaLaw.{schema_valid}
use Rattle.settings_json.proofs.SettingsLaw.{settings_valid}
use Rattle.table_store.specs.State.{Texts}
use Rattle.table_store.specs.Accepted.{IsAccepted}
use Rattle.table_store.proofs.OpenLemmas.{both_read}

found_so : {A : Type 0} (finding : Data → Finding) (value : Data → A) (d : Data) (a : A) (found : Finding) → finding d ≡ found → answer found (value d) ≡ Ok a → (d : Data) × (finding d ≡ None) × (a ≡ value d)
found_so finding value d a None e is = (d, e, cc)
found_so finding value d a (Some fault) e is = absurd cc

-- what a text is read as is what its value in JSON gives, which has no fault
read_so : {A : Type 0} (finding : Data → Finding) (value : Data → A) (json : Option Data) (a : A) → read_by finding value json ≡ Ok a → (d : Data) × (finding d ≡ None) × (a ≡ value d)
read_so finding value None a e = absurd cc
read_so finding value (Some d) a e = found_so finding value d a (finding d) refl e

pub accepted_valid : (texts : Texts) (table : read.Table) → IsAccepted texts table → IsValidTable table
accepted_valid texts table accepted =
    let (d, fine, is) = read_so schema_finding schema_of (json_of texts.schema) table.schema accepted.schema in
    let (e, good, so) = read_so (settings_finding table.schema.fields) (settings_of table.schema.fields) (json_of texts.settings) table.settings accepted.settings in
    let schema : IsValidSchema table.schema = subst IsValidSchema (sym is) (schema_valid d fine) in
    record { schema = schema; settings = subst (IsValidSettings table.schema.fields) (sym so) (settings_valid table.schema e schema good) }

-- texts are accepted as one table
pub one_table : (texts : Texts) (x y : read.Table) → IsAccepted texts x → IsAccepted texts y → x ≡ y
one_table texts x y a b =
    let schema : x.schema ≡ y.schema = both_read (schema_read texts.schema) x.schema y.schema a.schema b.schema in
    let settings : x.settings ≡ y.settings = both_read (settings_read y.schema.fields texts.settings) x.settings y.settings (subst (λ s. settings_read s.fields texts.settings ≡ Ok x.settings) schema a.settings) b.settings in
    (λ i. record { schema = schema i; settings = settings i })
