use Rattle.std.proofs.Common.{rules}
use Rattle.bit_column.proofs.Fields.{bits-eight}
use Rattle.bit_column.proofs.reading.eight.Goals as goal

pub returns : goal.returns
returns c = bits-eight c.from_be_bytes.result c.args.bytes.now c.requires (search rules) c.from_be_bytes.ensures
