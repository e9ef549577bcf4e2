use Rattle.bit_column.proofs.Fields.{field-found}
use Rattle.bit_column.proofs.reading.field_at.Goals as goal

pub returns : goal.returns
returns c =
    field-found c.args.bytes.now c.front-head.result.now c.args.bit c.args.width.bits c.window.result c.taken.result c.args.width.most c.requires c.front-head.ensures c.window.ensures c.taken.ensures
