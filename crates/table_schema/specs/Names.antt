-- The names of columns and tables.
use Rattle.std.specs.Prelude.{ℕ, Bool, not, ◌&&◌, ◌==◌, nat_lt, nat_le, List, length}
use Rattle.std.specs.List.{list_all, list_any}
use Rattle.std.specs.Str.{bytes_eq}

-- the bytes of a text
abbrev pub Text : Type 0
Text = List ℕ

-- printable ASCII but the space, `"` (34), `*` (42) and `,` (44)
abbrev pub is_name_byte : ℕ → Bool
is_name_byte b = nat_le 33 b && nat_le b 126 && not (b == 34) && not (b == 42) && not (b == 44)

-- 1 to 128 characters
abbrev pub is_column_name : Text → Bool
is_column_name name = nat_lt 0 (length name) && nat_le (length name) 128
    && list_all is_name_byte name

-- the name is one of these
abbrev pub is_among : List Text → Text → Bool
is_among names name = list_any (λ n. bytes_eq n name) names
