-- What the checks of settings accept is valid.
use Rattle.std.proofs.Common.{◌≡◌, [], ◌∷◌, None, Result, Ok, Err, IfOk, sym, subst}
use Rattle.serde_json.specs.Data.{Data}
use Rattle.table_schema.specs.declared.field.Schema.{Schema}
use Rattle.table_schema.specs.declared.settings.Settings.{Settings}
use Rattle.json_keys.specs.Json.{key_of}
use Rattle.json_keys.specs.Keys.{optional}
use Rattle.json_keys.specs.declared.fault.TextFault.{TextFault}
use Rattle.json_keys.specs.Faults.{Gives}
use Rattle.table_schema.specs.Valid.{IsValidSchema}
use Rattle.settings_parts.specs.Indexes.{INDEX_KEY, index_finding}
use Rattle.settings_parts.specs.Heads.{table_name, head_finding}
use Rattle.settings_json.specs.TableTexts.{settings_finding, settings_of}
use Rattle.table_schema.specs.ValidSettings.{IsValidSettings}
use Rattle.settings_parts.proofs.HeadLaw.{named_by}
use Rattle.settings_parts.proofs.IndexLaw.{index_valid}
use Rattle.table_schema.proofs.FirstLaws.{nones}

pub settings_valid : (schema : Schema) (d : Data) → IsValidSchema schema → settings_finding schema.fields d ≡ None → IsValidSettings schema.fields (settings_of schema.fields d)
settings_valid schema d valid none =
    let fields = schema.fields in
    let all = nones (head_finding d ∷ optional (index_finding fields (table_name d)) (key_of INDEX_KEY d) ∷ []) none in
    index_valid fields (table_name d) (key_of INDEX_KEY d) valid.apart (named_by d all.0) all.1.0

-- a call that answers settings answers valid ones
pub gives_valid : (schema : Schema) (d : Data) (r : Result Settings TextFault) → IsValidSchema schema → Gives (settings_finding schema.fields d) (settings_of schema.fields d) r → IfOk r (IsValidSettings schema.fields)
gives_valid schema d (Ok settings) valid g = subst (IsValidSettings schema.fields) (sym g.1) (settings_valid schema d valid g.0)
gives_valid schema d (Err fault) valid g = tt
