-- The numbers of fields by their names.
use Rattle.std.specs.Prelude.{ℕ, ◌+◌, Bool, ◌==◌, List, [], ◌∷◌, Option, Some, None, is_some, if◌then◌else◌}
use Rattle.std.specs.List.{list_any}
use Rattle.std.specs.Str.{bytes_eq}
use Rattle.table_schema.specs.declared.field.Field.{Field}
use Rattle.table_schema.specs.Names.{Text}

-- the number of the field of that name
abbrev pub number_from : ℕ → List Field → Text → Option ℕ
number_from i [] name = None
number_from i (f ∷ fs) name = if bytes_eq f.name name then Some i else number_from (i + 1) fs name

-- the number of the field of that name, from 0, if there is one
abbrev pub number_of : List Field → Text → Option ℕ
number_of fields name = number_from 0 fields name

-- some field has that name
abbrev pub is_known : List Field → Text → Bool
is_known fields name = is_some (number_of fields name)

-- the number is in the list
abbrev pub is_member : List ℕ → ℕ → Bool
is_member ns n = list_any (λ m. m == n) ns
