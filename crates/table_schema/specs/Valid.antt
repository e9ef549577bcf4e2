-- Valid schemas: what each call that takes one may rely on.
use Rattle.std.specs.Prelude.{◌≡◌, ◌<◌, ◌≤◌, Bool, true, not, ◌&&◌, nat_le, List, [], ◌∷◌, ◌++◌, map, length}
use Rattle.std.specs.List.{list_all}
use Rattle.data_types.specs.declared.kind.FieldKind.{FieldKind}
use Rattle.values.specs.declared.value.Value.{Value}
use Rattle.values.specs.declared.value.Value.TheVariants as value
use Rattle.values.specs.Kinds.{fits}
use Rattle.table_schema.specs.declared.field.Field.{Field}
use Rattle.table_schema.specs.declared.field.Schema.{Schema}
use Rattle.table_schema.specs.Names.{Text}
use Rattle.table_schema.specs.Names.{is_column_name}
use Rattle.table_schema.specs.Names.{is_among}
use Rattle.table_schema.specs.Roles.{is_text_metric}

-- a number, or a text of at most 64 bytes
abbrev pub is_short : Value → Bool
is_short (value.Text text) = nat_le (length text) 64
is_short (value.Whole z) = true

-- a default is a value of the kind of its field, and no long text
abbrev pub default_fits : FieldKind → Value → Bool
default_fits kind v = fits kind v && is_short v

-- the name keeps the rule of column names, no metric is of texts, and the default fits
abbrev pub is_valid_field : Field → Bool
is_valid_field f = is_column_name f.name && not (is_text_metric f.role f.kind)
    && default_fits f.kind f.default

-- no name stands before
abbrev pub no_repeat : List Text → List Text → Bool
no_repeat before [] = true
no_repeat before (name ∷ names) = not (is_among before name)
    && no_repeat (before ++ name ∷ []) names

-- 1 to 64 fields with distinct names, each of which is valid
pub record IsValidSchema (s : Schema) : Type 0 where
  pub some : 0 < length s.fields
  pub at_most : length s.fields ≤ 64
  pub fields : list_all is_valid_field s.fields ≡ true
  pub apart : no_repeat [] (map (λ f. f.name) s.fields) ≡ true
