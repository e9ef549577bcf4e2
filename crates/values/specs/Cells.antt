-- What is in the memory of a column, as its values.
use Rattle.std.specs.Prelude.{true, false, map}
use Rattle.values.specs.declared.value.Value.TheVariants.{Whole, Text}
use Rattle.values.specs.Columns.{Listed}
use Rattle.values.specs.declared.column.Cells.{Cells}
use Rattle.values.specs.declared.column.Cells.TheVariants.{Numbers, Texts}

-- a column as the list of its values
abbrev pub listed : Cells → Listed
listed (Numbers numbers) = record { are_texts = false; values = map Whole numbers.items }
listed (Texts texts) = record { are_texts = true; values = map Text texts }
