use Rattle.bit_column.proofs.WordSteps.{of_rest}
use Rattle.bit_column.proofs.reading.id_from.Goals as goal

pub returns : goal.returns
returns c = of_rest c.args.bytes.now c.args.byte c.args.bit c.args.width.bits c.field_at.result c.field_at.ensures
