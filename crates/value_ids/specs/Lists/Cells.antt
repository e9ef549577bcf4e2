-- What is in the memory of a list of values, as these values.
use Rattle.std.specs.Prelude.{List, map}
use Rattle.values.specs.declared.value.Value.{Value}
use Rattle.values.specs.declared.value.Value.TheVariants.{Whole, Text}
use Rattle.value_ids.specs.declared.value_list.Cells as declared
use Rattle.value_ids.specs.declared.value_list.Cells.TheVariants.{Block, Numbers, Texts}

-- the values, by their sort
abbrev pub listed : declared.Cells → List Value
listed (Numbers numbers) = map Whole numbers.items
listed (Texts texts) = map Text texts
listed (Block texts) = map Text texts
