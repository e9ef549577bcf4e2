-- Values of a kind.
use Rattle.std.specs.Prelude.{nat_le, Bool, true, false, length}
use Rattle.data_types.specs.declared.kind.FieldKind.{FieldKind}
use Rattle.data_types.specs.declared.kind.FieldKind.TheVariants as kind
use Rattle.values.specs.declared.value.Value.{Value}
use Rattle.values.specs.declared.value.Value.TheVariants.{Whole, Text}
use Rattle.data_types.specs.Numbers.{is_in_range}

-- a number for a field of numbers, a text for a field of texts
abbrev pub is_of : FieldKind → Value → Bool
is_of kind.Text (Text text) = true
is_of kind.Text (Whole number) = false
is_of kind.Int (Text text) = false
is_of kind.Int (Whole number) = true
is_of kind.Long (Text text) = false
is_of kind.Long (Whole number) = true

-- a value that a field of the kind may have: a number in its range, or a text of at most 512 bytes
abbrev pub fits : FieldKind → Value → Bool
fits kind.Int (Whole number) = is_in_range kind.Int number
fits kind.Int (Text text) = false
fits kind.Long (Whole number) = is_in_range kind.Long number
fits kind.Long (Text text) = false
fits kind.Text (Whole number) = false
fits kind.Text (Text text) = nat_le (length text) 512
