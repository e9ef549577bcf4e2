-- The pairs of a star-tree: a function, `__` and a column. A pair is an aggregate.
use Rattle.std.specs.Prelude.{ℕ, ◌+◌, Bool, false, ◌&&◌, ◌||◌, ◌==◌, nat_le, List, [], ◌∷◌, ◌++◌, take, drop, length, codes, Option, Some, None, is_some, option_and_then, if◌then◌else◌}
use Rattle.std.specs.List.{list_any, slice_get}
use Rattle.std.specs.Str.{bytes_eq, str_eq_ignore_ascii_case}
use Rattle.serde_json.specs.Data.{Data}
use Rattle.agg_laws.specs.declared.aggregate_kind.AggKind.{AggKind}
use Rattle.agg_laws.specs.declared.aggregate_kind.AggKind.TheVariants.{Count, Sum, Least, Greatest, Average}
use Rattle.table_schema.specs.declared.field.Field.{Field}
use Rattle.table_schema.specs.declared.query.Agg.{Agg}
use Rattle.table_schema.specs.Aggs.{same_agg}
use Rattle.table_schema.specs.Roles.{is_numeric}
use Rattle.json_keys.specs.declared.fault.KeyKind.TheVariants.{BadPair, TooMany}
use Rattle.table_schema.specs.Names.{Text}
use Rattle.json_keys.specs.Faults.{Finding, at_place, fault_unless}
use Rattle.json_keys.specs.Keys.{text_finding}
use Rattle.table_schema.specs.Columns.{number_of, is_known}
use Rattle.json_keys.specs.NamedColumns.{text_of}
use Rattle.table_schema.specs.Firsts.{first_of, by_place}

-- the function of a name, in any case
abbrev pub function_named : Text → Option AggKind
function_named name =
    if str_eq_ignore_ascii_case name (codes "COUNT") then Some Count else
    (if str_eq_ignore_ascii_case name (codes "SUM") then Some Sum
    else (if str_eq_ignore_ascii_case name (codes "MIN") then Some Least else
    (if str_eq_ignore_ascii_case name (codes "MAX") then Some Greatest
    else (if str_eq_ignore_ascii_case name (codes "AVG") then Some Average else None))))

-- the text begins with `_`
abbrev pub begins_low : Text → Bool
begins_low [] = false
begins_low (b ∷ bs) = b == 95

-- the place of the first `__`, of which 95 is the byte
abbrev pub mark_from : ℕ → Text → Option ℕ
mark_from i [] = None
mark_from i (b ∷ bs) = if b == 95 && begins_low bs then Some i else mark_from (i + 1) bs

-- the function of the field of this number, if that is a field of numbers
abbrev pub numeric_pair : List Field → AggKind → ℕ → Option Agg
numeric_pair fields function n = if is_numeric (slice_get fields n) then Some
    (record { kind = function; column = Some n }) else None

-- COUNT takes `*` or any field, and counts; the others take a field of numbers
abbrev pub pair_by : List Field → AggKind → Text → Option Agg
pair_by fields Count column = if bytes_eq column (codes "*")
    || is_known fields column then Some (record { kind = Count; column = None }) else None
pair_by fields function column = option_and_then (numeric_pair fields function)
    (number_of fields column)

-- the pair of a text whose `__` is at this place, with the function before it and the column after
-- it
abbrev pub split_pair : List Field → Text → ℕ → Option Agg
split_pair fields text at = option_and_then (λ function. pair_by fields function
    (drop (at + 2) text)) (function_named (take at text))

-- the pair that a text is
abbrev pub pair_of : List Field → Text → Option Agg
pair_of fields text = option_and_then (split_pair fields text) (mark_from 0 text)

-- ---- lists of pairs

-- a list with one more pair, unless it is there
abbrev pub with_pair : List Agg → Agg → List Agg
with_pair kept p = if list_any (λ q. same_agg q p) kept then kept else kept ++ p ∷ []

-- the same with the pair that a place gives, if it gives one
abbrev pub with_found : List Agg → Option Agg → List Agg
with_found kept None = kept
with_found kept (Some p) = with_pair kept p

-- the pairs that an array gives, without those that an earlier place gives
abbrev pub pairs_from : List Field → List Agg → List Data → List Agg
pairs_from fields kept [] = kept
pairs_from fields kept (d ∷ ds) = pairs_from fields (with_found kept
    (pair_of fields (text_of d))) ds

-- the pairs of an array, each once, in the order in which they first come
abbrev pub pairs_of : List Field → List Data → List Agg
pairs_of fields ds = pairs_from fields [] ds

-- a place has a text that is a pair
abbrev pub pair_finding : List Field → Text → Data → Finding
pair_finding fields path d = first_of (
    text_finding path d
    ∷ fault_unless (is_some (pair_of fields (text_of d))) BadPair path
    ∷ [])

-- each place of an array has a text that is a pair
abbrev pub pair_places : List Field → Text → List Data → Finding
pair_places fields path ds = by_place (λ before d. pair_finding fields
    (at_place path (length before)) d) [] ds

-- the places of an array of pairs, of which at most 16 are kept
abbrev pub pairs_finding : List Field → Text → List Data → Finding
pairs_finding fields path ds = first_of (
    pair_places fields path ds
    ∷ fault_unless (nat_le (length (pairs_of fields ds)) 16) TooMany path
    ∷ [])
