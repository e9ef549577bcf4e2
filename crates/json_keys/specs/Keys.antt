-- Checks of one key of an object, and what its value is read as.
use Rattle.std.specs.Prelude.{Bool, true, false, not, List, [], Option, Some, None, is_some, option_and_then, unwrap_or}
use Rattle.serde_json.specs.Data.{Data}
use Rattle.serde_json.specs.Find.{as_bool, as_str, as_array, as_object}
use Rattle.json_keys.specs.declared.fault.KeyKind.TheVariants.{MissingKey, WrongKind, Unsupported}
use Rattle.json_keys.specs.declared.fault.TextFault.TheVariants.{At}
use Rattle.table_schema.specs.Names.{Text}
use Rattle.json_keys.specs.Json.{key_of, array_of, is_empty}
use Rattle.json_keys.specs.Faults.{Finding, below, fault_unless, fault_if}

-- a key has to be there, and its value passes a check
abbrev pub required : Text → (Data → Finding) → Option Data → Finding
required path check None = Some (At MissingKey path)
required path check (Some d) = check d

-- where a key is there, its value passes a check
abbrev pub optional : (Data → Finding) → Option Data → Finding
optional check None = None
optional check (Some d) = check d

-- the fault of a value that is no object
abbrev pub object_finding : Text → Data → Finding
object_finding path d = fault_unless (is_some (as_object d)) WrongKind path

-- the fault of a value that is no text
abbrev pub text_finding : Text → Data → Finding
text_finding path d = fault_unless (is_some (as_str d)) WrongKind path

-- the fault of a value that is no array
abbrev pub array_finding : Text → Data → Finding
array_finding path d = fault_unless (is_some (as_array d)) WrongKind path

-- the key has to be there, with a text
abbrev pub required_text : Text → Text → Data → Finding
required_text base key d = required (below base key) (text_finding (below base key)) (key_of key d)

-- where the key is there, it has an array
abbrev pub optional_array : Text → Text → Data → Finding
optional_array base key d = optional (array_finding (below base key)) (key_of key d)

-- the key says nothing
abbrev pub unused_key : Text → Text → Data → Finding
unused_key base key d = optional (λ v. fault_unless (is_empty v) Unsupported (below base key))
    (key_of key d)

-- there is a truth value, and it is the one that is asked for
abbrev pub is_the_bool : Bool → Option Bool → Bool
is_the_bool wanted None = false
is_the_bool true (Some b) = b
is_the_bool false (Some b) = not b

-- a JSON value is `true`, or is `false`, as is asked for
abbrev pub is_bool : Bool → Data → Bool
is_bool wanted d = is_the_bool wanted (as_bool d)

-- the key does not have that truth value
abbrev pub refused_bool : Bool → Text → Text → Data → Finding
refused_bool refused base key d = optional (λ v. fault_if (is_bool refused v) Unsupported
    (below base key)) (key_of key d)

-- the text of a key
abbrev pub text_at : Text → Data → Text
text_at key d = unwrap_or (option_and_then as_str (key_of key d)) []

-- the items of the array of a key
abbrev pub items_at : Text → Data → List Data
items_at key d = unwrap_or (option_and_then array_of (key_of key d)) []
