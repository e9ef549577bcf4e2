-- Columns that settings name.
use Rattle.std.specs.Prelude.{ℕ, Bool, false, List, [], ◌∷◌, map, length, Option, Some, None, unwrap_or}
use Rattle.std.specs.List.{list_any, filter_map}
use Rattle.std.specs.Str.{bytes_eq}
use Rattle.serde_json.specs.Data.{Data}
use Rattle.serde_json.specs.Find.{as_str}
use Rattle.table_schema.specs.declared.field.Field.{Field}
use Rattle.json_keys.specs.declared.fault.KeyKind.TheVariants.{UnknownColumn}
use Rattle.table_schema.specs.Names.{Text}
use Rattle.table_schema.specs.Columns.{number_of, is_known}
use Rattle.json_keys.specs.Faults.{Finding, below, at_place, fault_unless}
use Rattle.json_keys.specs.Keys.{text_finding, optional_array, items_at}
use Rattle.table_schema.specs.Firsts.{first_of, by_place}

-- the text that stands at a place
abbrev pub text_of : Data → Text
text_of d = unwrap_or (as_str d) []

-- the numbers of the columns that an array names
abbrev pub numbers_of : List Field → List Data → List ℕ
numbers_of fields ds = filter_map (λ d. number_of fields (text_of d)) ds

-- a place has the name of a field
abbrev pub column_finding : List Field → Text → Data → Finding
column_finding fields path d = first_of (
    text_finding path d
    ∷ fault_unless (is_known fields (text_of d)) UnknownColumn path
    ∷ [])

-- each place of an array has the name of a field
abbrev pub column_places : List Field → Text → List Data → Finding
column_places fields path ds = by_place (λ before d. column_finding fields
    (at_place path (length before)) d) [] ds

-- where the key is there, it has an array of names of fields
abbrev pub columns_finding : List Field → Text → Text → Data → Finding
columns_finding fields base key d = first_of (
    optional_array base key d
    ∷ column_places fields (below base key) (items_at key d)
    ∷ [])

-- there is a text, and it is this name byte for byte
abbrev pub is_the_text : Text → Option Text → Bool
is_the_text name None = false
is_the_text name (Some text) = bytes_eq text name

-- the name is one of the texts of an array
abbrev pub has_text : List Data → Text → Bool
has_text ds name = list_any (λ d. is_the_text name (as_str d)) ds

-- which fields an array names
abbrev pub named : List Field → List Data → List Bool
named fields ds = map (λ f. has_text ds f.name) fields
