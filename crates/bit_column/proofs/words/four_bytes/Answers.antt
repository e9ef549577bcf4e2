use Rattle.std.proofs.Common.{rules}
use Rattle.bit_column.proofs.Fields.{bits-four}
use Rattle.bit_column.proofs.words.four_bytes.Goals as goal

pub returns : goal.returns
returns c = bits-four c.from_be_bytes.result c.args.at c.args.bytes.now c.requires (search rules) c.from_be_bytes.ensures
