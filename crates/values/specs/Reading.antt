-- The value that a text is in a field.
use Rattle.std.specs.Prelude.{ℕ, ℤ, nat_le, List, length, Result, Ok, Err, if◌then◌else◌}
use Rattle.data_types.specs.declared.kind.FieldKind.{FieldKind}
use Rattle.data_types.specs.declared.kind.FieldKind.TheVariants as kind
use Rattle.values.specs.declared.value.Value.{Value}
use Rattle.values.specs.declared.value.Value.TheVariants.{Whole, Text}
use Rattle.data_types.specs.declared.whole.WholeFault.{WholeFault}
use Rattle.data_types.specs.declared.whole.WholeFault.TheVariants as whole
use Rattle.values.specs.declared.read.ValueFault.{ValueFault}
use Rattle.values.specs.declared.read.ValueFault.TheVariants.{NotANumber, OutOfRange, TooLong}
use Rattle.data_types.specs.Numbers.{whole_of}

-- a number, or the same fault
abbrev pub number_value : Result ℤ WholeFault → Result Value ValueFault
number_value (Ok number) = Ok (Whole number)
number_value (Err whole.NotANumber) = Err NotANumber
number_value (Err whole.OutOfRange) = Err OutOfRange

-- a text has at most 512 bytes
abbrev pub text_value : List ℕ → Result Value ValueFault
text_value text = if nat_le (length text) 512 then Ok (Text text) else Err TooLong

-- the value that a text spells, or why there is none
abbrev pub value_of : FieldKind → List ℕ → Result Value ValueFault
value_of kind.Int text = number_value (whole_of kind.Int text)
value_of kind.Long text = number_value (whole_of kind.Long text)
value_of kind.Text text = text_value text
