-- Whole numbers in texts: an optional sign and one digit or more, in base ten.
use Rattle.std.specs.Prelude.{ℕ, ◌+◌, ◌-◌, ◌*◌, ◌^◌, ℤ, pos, negsuc, neg_ℤ, nat_le, nat_lt, Bool, ◌&&◌, ◌==◌, List, [], ◌∷◌, length, Option, Some, None, Result, Ok, Err, if◌then◌else◌}
use Rattle.std.specs.List.{list_all}
use Rattle.std.specs.Option.{option_map}
use Rattle.data_types.specs.declared.kind.FieldKind.{FieldKind}
use Rattle.data_types.specs.declared.kind.FieldKind.TheVariants.{Int}
use Rattle.data_types.specs.declared.whole.WholeFault.{WholeFault}
use Rattle.data_types.specs.declared.whole.WholeFault.TheVariants.{NotANumber, OutOfRange}

-- `0` to `9`
abbrev pub is_digit : ℕ → Bool
is_digit byte = nat_le 48 byte && nat_le byte 57

-- what digits count, each by its place
abbrev pub place_value : List ℕ → ℕ
place_value [] = 0
place_value (digit ∷ digits) = (digit - 48) * 10 ^ length digits + place_value digits

-- the number that a text without a sign spells, if it is made of one digit or more
abbrev pub unsigned_number : List ℕ → Option ℕ
unsigned_number [] = None
unsigned_number (digit ∷ digits) = if list_all is_digit (digit ∷ digits) then Some
    (place_value (digit ∷ digits)) else None

-- what digits are with a `-` before them
abbrev pub negative : ℕ → ℤ
negative n = neg_ℤ (pos n)

-- the number that a text spells, without limit, if it spells one: 45 is `-` and 43 is `+`
abbrev pub spelled_number : List ℕ → Option ℤ
spelled_number [] = None
spelled_number (first ∷ rest) = if first == 45 then option_map negative (unsigned_number rest)
    else (if first == 43 then option_map pos (unsigned_number rest) else option_map pos
    (unsigned_number (first ∷ rest)))

-- a field's numbers go from minus this number to one below it
abbrev pub range_of : FieldKind → ℕ
range_of Int = 2 ^ 31
range_of kind = 2 ^ 63

-- whether a number is in the range of a kind
abbrev pub is_in_range : FieldKind → ℤ → Bool
is_in_range kind (pos n) = nat_lt n (range_of kind)
is_in_range kind (negsuc n) = nat_lt n (range_of kind)

-- the number, if there is one and the type has it, or the fault
abbrev pub ranged : FieldKind → Option ℤ → Result ℤ WholeFault
ranged kind None = Err NotANumber
ranged kind (Some number) = if is_in_range kind number then Ok number else Err OutOfRange

-- the whole number that a text is read as
abbrev pub whole_of : FieldKind → List ℕ → Result ℤ WholeFault
whole_of kind text = ranged kind (spelled_number text)
