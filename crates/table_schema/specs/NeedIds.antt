-- Which columns are looked up by their ids.
use Rattle.std.specs.Prelude.{ℕ, Bool, false, ◌||◌, ◌==◌, List, Option, Some, None}
use Rattle.std.specs.List.{list_any, slice_get}
use Rattle.table_schema.specs.declared.settings.TreeSetting.{TreeSetting}
use Rattle.table_schema.specs.declared.settings.Settings.{Settings}
use Rattle.table_schema.specs.Columns.{is_member}

-- there is a number, and it is n
abbrev pub is_the_number : ℕ → Option ℕ → Bool
is_the_number n None = false
is_the_number n (Some m) = m == n

-- there is a flag for the column, and it is true
abbrev pub is_set : Option Bool → Bool
is_set None = false
is_set (Some b) = b

-- the column is a split dimension of one of the star-trees
abbrev pub is_split : List TreeSetting → ℕ → Bool
is_split trees n = list_any (λ tree. is_member tree.split n) trees

-- the column is looked up by its ids
abbrev pub needs_ids : Settings → ℕ → Bool
needs_ids s n = is_the_number n s.sorted || is_set (slice_get s.inverted n)
    || is_set (slice_get s.ranged n) || is_split s.trees n
