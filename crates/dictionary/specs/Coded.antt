-- A column by its distinct values.
use Rattle.std.specs.Prelude.{◌≡◌, ◌-◌, ℕ, ℤ, List, length, slice_get}
use Rattle.std.specs.List.{All}
use Rattle.std.specs.Option.{IfSome}
use Rattle.std.specs.Ordering.{int_cmp}
use Rattle.std.specs.declared.cmp.Ordering.TheVariants.{Less}
use Rattle.values.specs.declared.value.Value.{Value}
use Rattle.value_ids.specs.Coding.{AreBelow, AreNumbersOf, Codes, numbers_at}
use Rattle.value_ids.specs.Dictionary.{IsUnicode, distinct}

-- the distinct values of a column, ascending, and the ids of its rows
pub record IsCodedColumn (column values : List Value) (ids : List ℕ) : Type 0 where
  pub are : values ≡ distinct column
  pub unicode : All IsUnicode values
  pub codes : Codes values ids column

-- numbers of a list, some perhaps twice, and the place among them of each of the list
pub record SeesNumbers (numbers seen : List ℤ) (ids : List ℕ) : Type 0 where
  pub each : numbers_at seen ids ≡ numbers
  pub below : AreBelow (length seen) ids
  pub among : AreNumbersOf numbers seen

-- a number is greater than the last of some, if there is one
abbrev pub IsNextNumber : List ℤ → ℤ → Type 0
IsNextNumber numbers number = IfSome (slice_get numbers (length numbers - 1))
    (λ last. int_cmp last number ≡ Less)
