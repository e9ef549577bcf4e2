-- What is asked of a value in JSON.
use Rattle.std.specs.Prelude.{Bool, true, false, ◌&&◌, ◌==◌, List, [], ◌∷◌, length, Option, Some, None, option_map, option_and_then, if◌then◌else◌}
use Rattle.std.specs.Str.{is_utf8}
use Rattle.serde_json.specs.Data.{Data, null, boolean, number, string, array, object, Items, no_items, item, Members, no_members, member}
use Rattle.serde_json.specs.Find.{get, as_array}
use Rattle.serde_json.specs.Read.{read}
use Rattle.table_schema.specs.Names.{Text}

-- the value of a text: UTF-8, with at most 127 levels of arrays and objects
abbrev pub json_of : Text → Option Data
json_of bytes = if is_utf8 bytes then read bytes else None

-- `null` counts as absent
abbrev pub given : Data → Option Data
given null = None
given d = Some d

-- the value of a key; absent also in a value that is no object
abbrev pub key_of : Text → Data → Option Data
key_of key d = option_and_then given (get key d)

-- the items of an array as a list
abbrev pub items : Items → List Data
items no_items = []
items (item d ds) = d ∷ items ds

-- the items of a value, if it is an array
abbrev pub array_of : Data → Option (List Data)
array_of d = option_map items (as_array d)

-- the array is empty
abbrev pub is_no_items : Items → Bool
is_no_items no_items = true
is_no_items (item d ds) = false

-- nothing is said: an empty text or array, or an object in which all values say nothing
abbrev mutual
  pub is_empty : Data → Bool
  is_empty null = true
  is_empty (boolean b) = false
  is_empty (number n) = false
  is_empty (string s) = length s == 0
  is_empty (array ds) = is_no_items ds
  is_empty (object ms) = all_empty ms

  pub all_empty : Members → Bool
  all_empty no_members = true
  all_empty (member k d ms) = is_empty d && all_empty ms
