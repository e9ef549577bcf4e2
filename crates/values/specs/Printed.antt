-- What a value is printed as: a number in decimal, with a sign where it is negative, and a text as
-- it is.
use Rattle.std.specs.Prelude.{ℕ, List}
use Rattle.std.specs.Fmt.{signed_decimal}
use Rattle.values.specs.declared.value.Value.{Value}
use Rattle.values.specs.declared.value.Value.TheVariants.{Whole, Text}

-- a value as it is printed
abbrev pub text_of : Value → List ℕ
text_of (Whole number) = signed_decimal number
text_of (Text text) = text
