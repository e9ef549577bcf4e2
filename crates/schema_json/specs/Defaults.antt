-- What stands in a row that has no value of a field.
use Rattle.std.specs.Prelude.{ℤ, pos, neg_ℤ, nat_le, length, codes, Option, Some, None, option_and_then, unwrap_or, is_some, if◌then◌else◌}
use Rattle.std.specs.Result.{result_ok}
use Rattle.serde_json.specs.Data.{Num, Data, number, string}
use Rattle.serde_json.specs.Find.{as_i64}
use Rattle.data_types.specs.declared.kind.FieldKind.{FieldKind}
use Rattle.data_types.specs.declared.kind.FieldKind.TheVariants as kind
use Rattle.values.specs.declared.value.Value.{Value}
use Rattle.values.specs.declared.value.Value.TheVariants as value
use Rattle.data_types.specs.Numbers.{is_in_range, range_of}
use Rattle.values.specs.Reading.{value_of}
use Rattle.table_schema.specs.declared.field.Role.{Role}
use Rattle.table_schema.specs.declared.field.Role.TheVariants.{Dimension, Metric, DateTime}
use Rattle.json_keys.specs.declared.fault.KeyKind.TheVariants.{WrongKind}
use Rattle.table_schema.specs.Names.{Text}
use Rattle.json_keys.specs.Json.{key_of}
use Rattle.json_keys.specs.Faults.{Finding, below, fault_unless}
use Rattle.json_keys.specs.Keys.{optional}

-- the key of the value that a field has where a row gives none
abbrev pub DEFAULT_KEY : Text
DEFAULT_KEY = codes "defaultNullValue"

-- a text of at most 64 bytes
abbrev pub short_text : Text → Option Value
short_text text = if nat_le (length text) 64 then Some (value.Text text) else None

-- the default that a JSON string gives: itself, or the number that it spells
abbrev pub text_default : FieldKind → Text → Option Value
text_default kind.Text text = short_text text
text_default kind text = result_ok (value_of kind text)

-- the number as a value, if it is in the range of the type
abbrev pub whole_default : FieldKind → ℤ → Option Value
whole_default kind z = if is_in_range kind z then Some (value.Whole z) else None

-- the default that a JSON number gives; none for a field of texts
abbrev pub number_default : FieldKind → Num → Option Value
number_default kind.Text n = None
number_default kind n = option_and_then (whole_default kind) (as_i64 n)

-- the default that a value in JSON gives: for numbers a whole number in range, or a text that
-- spells one; for texts a short one
abbrev pub given_default : FieldKind → Data → Option Value
given_default kind (string text) = text_default kind text
given_default kind (number n) = number_default kind n
given_default kind _ = None

-- where `defaultNullValue` is there, it gives a default of the type
abbrev pub default_finding : Text → FieldKind → Data → Finding
default_finding base kind d = optional (λ v. fault_unless (is_some (given_default kind v)) WrongKind
    (below base DEFAULT_KEY)) (key_of DEFAULT_KEY d)

-- the least INT or the least LONG
abbrev pub least_of : FieldKind → ℤ
least_of kind = neg_ℤ (pos (range_of kind))

-- 0 for a metric, and else the least number of the type
abbrev pub usual_number : Role → FieldKind → ℤ
usual_number Metric kind = pos 0
usual_number Dimension kind = least_of kind
usual_number DateTime kind = least_of kind

-- `null` for texts, 0 for metrics, and else the least number of the type
abbrev pub usual_default : Role → FieldKind → Value
usual_default role kind.Text = value.Text (codes "null")
usual_default role kind = value.Whole (usual_number role kind)

-- the default of a field that the object describes
abbrev pub default_of : Role → FieldKind → Data → Value
default_of role kind d = unwrap_or (option_and_then (given_default kind) (key_of DEFAULT_KEY d))
    (usual_default role kind)
