-- Lists of values of one sort.
pub mod Cells
use Rattle.std.specs.Prelude.{◌≡◌, ℕ, ℤ, List, map}
use Rattle.values.specs.declared.value.Value.{Value}
use Rattle.values.specs.declared.value.Value.TheVariants.{Whole, Text}

-- all are numbers
abbrev pub AreNumbers : List Value → Type 0
AreNumbers values = (numbers : List ℤ) × (values ≡ map Whole numbers)

-- all are texts
abbrev pub AreTexts : List Value → Type 0
AreTexts values = (texts : List (List ℕ)) × (values ≡ map Text texts)
