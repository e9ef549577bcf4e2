-- The steps in which a whole number is read: its digits, and then its sign.
use Rattle.std.specs.Prelude.{ℕ, ℤ, pos, nat_le, Bool, List, Option, Some, None, Result, Ok, Err, if◌then◌else◌}
use Rattle.std.specs.List.{list_all}
use Rattle.data_types.specs.declared.kind.FieldKind.{FieldKind}
use Rattle.data_types.specs.declared.whole.WholeFault.{WholeFault}
use Rattle.data_types.specs.declared.whole.WholeFault.TheVariants.{NotANumber, OutOfRange}
use Rattle.data_types.specs.Numbers.{is_digit, unsigned_number, negative, ranged}

-- what is kept of a number whose sign is not looked at yet: no more than ten times the most that
-- may stand before a digit
abbrev pub kept : Option ℕ → Result ℕ WholeFault
kept None = Err NotANumber
kept (Some n) = if nat_le n 9223372036854775809 then Ok n else Err OutOfRange

-- the number that digits spell, or why there is none
abbrev pub magnitude_of : List ℕ → Result ℕ WholeFault
magnitude_of digits = kept (unsigned_number digits)

-- the fault of a text that spells no number to be kept
abbrev pub refusal_of : List ℕ → WholeFault
refusal_of digits = if list_all is_digit digits then OutOfRange else NotANumber

-- a number with its sign, where it is in the range of the kind
abbrev pub signed_of : FieldKind → Bool → ℕ → Result ℤ WholeFault
signed_of kind minus n = ranged kind (Some (if minus then negative n else pos n))
