use Rattle.bit_column.proofs.Widths.{width-least}
use Rattle.bit_column.proofs.laws.widths_are_least.Goals as goal

pub returns : goal.returns
returns c = width-least
