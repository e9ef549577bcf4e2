-- What settings say of indexes.
use Rattle.std.specs.Prelude.{◌≡◌, ℕ, Bool, true, false, ◌&&◌, ◌||◌, ◌==◌, nat_le, List, [], ◌∷◌, length, codes, Option, Some, None, is_some, option_and_then, unwrap_or, if◌then◌else◌}
use Rattle.std.specs.List.{list_all, slice_get}
use Rattle.serde_json.specs.Data.{Data}
use Rattle.serde_json.specs.Find.{as_str}
use Rattle.table_schema.specs.declared.field.Field.{Field}
use Rattle.table_schema.specs.declared.settings.Settings.{Settings}
use Rattle.table_schema.specs.Roles.{is_metric_at}
use Rattle.table_schema.specs.NeedIds.{needs_ids}
use Rattle.json_keys.specs.declared.fault.KeyKind.TheVariants.{WrongKind, Unsupported, UnknownColumn, TooMany}
use Rattle.json_keys.specs.declared.fault.TextFault.TheVariants.{At}
use Rattle.table_schema.specs.Names.{Text}
use Rattle.json_keys.specs.Json.{key_of, array_of}
use Rattle.json_keys.specs.Faults.{Finding, below, at_place, fault_unless, fault_if}
use Rattle.json_keys.specs.Keys.{optional, object_finding, refused_bool, items_at}
use Rattle.table_schema.specs.Columns.{number_of, is_known}
use Rattle.json_keys.specs.NamedColumns.{text_of, columns_finding, named}
use Rattle.settings_parts.specs.Trees.{trees_finding, trees_of}
use Rattle.table_schema.specs.Firsts.{first_of, by_place}

-- ---- the sorted column

-- the value is a JSON string
abbrev pub is_text : Data → Bool
is_text d = is_some (as_str d)

-- the first item of an array as a text; empty where there is none
abbrev pub first_text : List Data → Text
first_text [] = []
first_text (d ∷ ds) = text_of d

-- the value has to be an array, with one text at most
abbrev pub one_text : Text → Option (List Data) → Finding
one_text path None = Some (At WrongKind path)
one_text path (Some ds) = first_of (
    fault_unless (list_all is_text ds) WrongKind path
    ∷ fault_unless (nat_le (length ds) 1) TooMany path
    ∷ [])

-- `sortedColumn` has a text, or an array with one text at most
abbrev pub sorted_form : Text → Data → Finding
sorted_form path d = if is_text d then None else one_text path (array_of d)

-- the text, or the one text of the array; empty where nothing is named
abbrev pub sorted_name : Data → Text
sorted_name d = if is_text d then text_of d else first_text (unwrap_or (array_of d) [])

-- the name is that of a field, or empty, which names no column
abbrev pub names_field : List Field → Text → Bool
names_field fields name = length name == 0 || is_known fields name

-- the key of the column by whose values the rows of each segment are sorted
abbrev pub SORTED_KEY : Text
SORTED_KEY = codes "sortedColumn"

-- the value of `sortedColumn` has that form, and what it names is a field
abbrev pub sorted_value_finding : List Field → Text → Data → Finding
sorted_value_finding fields path d = first_of (
    sorted_form path d
    ∷ fault_unless (names_field fields (sorted_name d)) UnknownColumn path
    ∷ [])

-- the check of `sortedColumn`, which may be absent
abbrev pub sorted_finding : List Field → Text → Data → Finding
sorted_finding fields base d = optional (sorted_value_finding fields (below base SORTED_KEY))
    (key_of SORTED_KEY d)

-- the number of the field of that name; an empty name gives none
abbrev pub sorted_number : List Field → Text → Option ℕ
sorted_number fields name = if length name == 0 then None else number_of fields name

-- the number of the sorted field, if `sortedColumn` names one
abbrev pub sorted_of : List Field → Data → Option ℕ
sorted_of fields d = option_and_then (λ v. sorted_number fields (sorted_name v))
    (key_of SORTED_KEY d)

-- ---- what stands under `tableIndexConfig`

-- the key of the object that names the indexes
abbrev pub INDEX_KEY : Text
INDEX_KEY = codes "tableIndexConfig"

-- the key of the array of columns with an inverted index
abbrev pub INVERTED_KEY : Text
INVERTED_KEY = codes "invertedIndexColumns"

-- the key of the array of columns with a range index
abbrev pub RANGE_KEY : Text
RANGE_KEY = codes "rangeIndexColumns"

-- the key of the array of columns without a dictionary
abbrev pub RAW_KEY : Text
RAW_KEY = codes "noDictionaryColumns"

-- the checks of each of these keys, in this order; null handling may not be enabled
abbrev pub index_form : List Field → Data → Finding
index_form fields d = first_of (
    object_finding INDEX_KEY d
    ∷ refused_bool true INDEX_KEY (codes "nullHandlingEnabled") d
    ∷ sorted_finding fields INDEX_KEY d
    ∷ columns_finding fields INDEX_KEY INVERTED_KEY d
    ∷ columns_finding fields INDEX_KEY RANGE_KEY d
    ∷ columns_finding fields INDEX_KEY RAW_KEY d
    ∷ trees_finding fields INDEX_KEY d
    ∷ [])

-- the settings of a table of that name
abbrev pub indexed : List Field → Text → Data → Settings
indexed fields table d = record {
  table = table;
  sorted = sorted_of fields d;
  inverted = named fields (items_at INVERTED_KEY d);
  ranged = named fields (items_at RANGE_KEY d);
  raw = named fields (items_at RAW_KEY d);
  trees = trees_of fields d;
}

-- ---- metrics without a dictionary

-- the field of this number is a metric that is looked up by its ids, so that it needs a dictionary
abbrev pub misfits_at : List Field → Settings → ℕ → Bool
misfits_at fields s n = is_metric_at (slice_get fields n) && needs_ids s n

-- the same of the number of a name, where the name has one
abbrev pub misfits : List Field → Settings → Option ℕ → Bool
misfits fields s None = false
misfits fields s (Some n) = misfits_at fields s n

-- the settings have one flag a field for the indexes
abbrev pub HasFlags : List Field → Settings → Type 0
HasFlags fields s = (length s.inverted ≡ length fields) × (length s.ranged ≡ length fields)

-- the column that a place of `noDictionaryColumns` names is no metric that needs a dictionary
abbrev pub raw_place : List Field → Settings → Text → Data → Finding
raw_place fields s path d = fault_if (misfits fields s (number_of fields
    (text_of d))) Unsupported path

-- each place of that array is so
abbrev pub raw_places : List Field → Settings → Text → List Data → Finding
raw_places fields s path ds = by_place (λ before d. raw_place fields s
    (at_place path (length before)) d) [] ds

-- the check of `noDictionaryColumns` beside the indexes that the same settings name
abbrev pub raw_finding : List Field → Settings → Data → Finding
raw_finding fields s d = raw_places fields s (below INDEX_KEY RAW_KEY) (items_at RAW_KEY d)

-- the checks of what stands under `tableIndexConfig`
abbrev pub index_finding : List Field → Text → Data → Finding
index_finding fields table d = first_of (
    index_form fields d
    ∷ raw_finding fields (indexed fields table d) d
    ∷ [])
