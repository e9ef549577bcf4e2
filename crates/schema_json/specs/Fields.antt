-- The fields that a schema describes, each by an object of one of three lists.
use Rattle.std.specs.Prelude.{ℕ, ◌+◌, ℤ, pos, int_lt, nat_lt, Bool, true, false, List, [], ◌∷◌, ◌++◌, length, codes, Option, Some, None, is_some, option_and_then, unwrap_or, if◌then◌else◌}
use Rattle.std.specs.Str.{bytes_eq}
use Rattle.serde_json.specs.Data.{Data}
use Rattle.serde_json.specs.Find.{as_number, as_integer}
use Rattle.data_types.specs.declared.kind.FieldKind.{FieldKind}
use Rattle.data_types.specs.declared.kind.FieldKind.TheVariants as kind
use Rattle.table_schema.specs.declared.field.Role.{Role}
use Rattle.table_schema.specs.declared.field.Role.TheVariants.{Dimension, Metric, DateTime}
use Rattle.table_schema.specs.declared.field.Field.{Field}
use Rattle.table_schema.specs.Names.{is_among}
use Rattle.table_schema.specs.Roles.{is_text_metric}
use Rattle.json_keys.specs.declared.fault.KeyKind.TheVariants.{MissingKey, BadName, UnknownType, Unsupported, DuplicateColumn, TooMany}
use Rattle.table_schema.specs.Names.{Text}
use Rattle.json_keys.specs.Json.{key_of}
use Rattle.json_keys.specs.Faults.{Finding, below, at_place, fault_unless, fault_if}
use Rattle.json_keys.specs.Keys.{optional, object_finding, required_text, text_at, refused_bool, unused_key, optional_array, items_at}
use Rattle.table_schema.specs.Names.{is_column_name}
use Rattle.schema_json.specs.Defaults.{default_finding, default_of}
use Rattle.table_schema.specs.Firsts.{first_of}

-- the key of the list of a role
abbrev pub list_key : Role → Text
list_key Dimension = codes "dimensionFieldSpecs"
list_key Metric = codes "metricFieldSpecs"
list_key DateTime = codes "dateTimeFieldSpecs"

-- a place of one of the lists, with what stands there
pub record Entry : Type 0 where
  pub role : Role
  pub place : ℕ
  pub json : Data

-- the items of a list as entries, of which the first has this place
abbrev pub entries_from : Role → ℕ → List Data → List Entry
entries_from role place [] = []
entries_from role place (d ∷ ds) = record { role = role; place = place; json = d }
    ∷ entries_from role (place + 1) ds

-- the entries of the list of one role, none where its key is absent
abbrev pub entries_of : Role → Data → List Entry
entries_of role d = entries_from role 0 (items_at (list_key role) d)

-- the places of all three lists, in their order
abbrev pub all_entries : Data → List Entry
all_entries d = entries_of Dimension d ++ entries_of Metric d ++ entries_of DateTime d

-- the three lists have no entry
abbrev pub is_none_listed : List Entry → Bool
is_none_listed [] = true
is_none_listed (e ∷ es) = false

-- each list that is there is an array, and together they have one entry or more
abbrev pub lists_finding : Data → Finding
lists_finding d = first_of (
    optional_array [] (list_key Dimension) d
    ∷ optional_array [] (list_key Metric) d
    ∷ optional_array [] (list_key DateTime) d
    ∷ fault_if (is_none_listed (all_entries d)) MissingKey (list_key Dimension)
    ∷ [])

-- where an entry is in the schema, such as `metricFieldSpecs[0]`
abbrev pub path_of : Entry → Text
path_of e = at_place (list_key e.role) e.place

-- ---- the name

-- the name that an entry gives its field; empty where it gives none
abbrev pub name_of : Entry → Text
name_of e = text_at (codes "name") e.json

-- the name is there, and keeps the rule of column names
abbrev pub name_finding : Text → Data → Finding
name_finding base d = first_of (
    required_text base (codes "name") d
    ∷ fault_unless (is_column_name (text_at (codes "name") d)) BadName (below base (codes "name"))
    ∷ [])

-- ---- the type

-- the type of a name in capitals; the other types of Pinot are not supported
abbrev pub kind_named : Text → Option FieldKind
kind_named name =
    if bytes_eq name (codes "INT") then Some kind.Int else (if bytes_eq name
    (codes "LONG") then Some kind.Long
    else (if bytes_eq name (codes "STRING") then Some kind.Text else None))

-- the type that `dataType` names, and STRING where it names none
abbrev pub kind_of : Data → FieldKind
kind_of d = unwrap_or (kind_named (text_at (codes "dataType") d)) kind.Text

-- `dataType` is there and names a type, for a metric one of numbers
abbrev pub type_finding : Text → Role → Data → Finding
type_finding base role d = first_of (
    required_text base (codes "dataType") d
    ∷ fault_unless (is_some (kind_named (text_at (codes "dataType") d))) UnknownType
    (below base (codes "dataType"))
    ∷ fault_if (is_text_metric role (kind_of d)) Unsupported (below base (codes "dataType"))
    ∷ [])

-- ---- what is not supported

-- there is a number, and it is less than the limit
abbrev pub is_below : ℤ → Option ℤ → Bool
is_below limit None = false
is_below limit (Some n) = int_lt n limit

-- the integer that a JSON value is, if it is one
abbrev pub whole_number : Data → Option ℤ
whole_number d = option_and_then as_integer (as_number d)

-- texts may be as long as the longest value
abbrev pub length_finding : Text → Data → Finding
length_finding base d = optional (λ v. fault_if (is_below (pos 512) (whole_number v)) Unsupported
    (below base (codes "maxLength"))) (key_of (codes "maxLength") d)

-- no field of several values, no transformed or virtual one, and no `maxLength` below 512
abbrev pub support_finding : Text → Data → Finding
support_finding base d = first_of (
    refused_bool false base (codes "singleValueField") d
    ∷ unused_key base (codes "transformFunction") d
    ∷ unused_key base (codes "virtualColumnProvider") d
    ∷ length_finding base d
    ∷ [])

-- ---- the field

-- the checks of a place, after fields of these names
abbrev pub field_finding : List Text → Entry → Finding
field_finding names e = first_of (
    fault_unless (nat_lt (length names) 64) TooMany (path_of e)
    ∷ object_finding (path_of e) e.json
    ∷ name_finding (path_of e) e.json
    ∷ type_finding (path_of e) e.role e.json
    ∷ support_finding (path_of e) e.json
    ∷ default_finding (path_of e) (kind_of e.json) e.json
    ∷ fault_if (is_among names (name_of e)) DuplicateColumn (below (path_of e) (codes "name"))
    ∷ [])

-- the field of an entry
abbrev pub field_of : Entry → Field
field_of e = record {
  name = name_of e;
  kind = kind_of e.json;
  role = e.role;
  default = default_of e.role (kind_of e.json) e.json;
}
