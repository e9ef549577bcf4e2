use Rattle.std.proofs.Common.{rules}
use Rattle.bit_column.proofs.Fields.{bits-eight_at}
use Rattle.bit_column.proofs.WordSteps.{words}
use Rattle.bit_column.proofs.words.word_at.Goals as goal

pub returns : goal.returns
returns c =
    words c.args.bytes.now c.args.at c.from_be_bytes.result
    (bits-eight_at c.from_be_bytes.result c.args.at c.args.bytes.now c.requires (search rules) c.from_be_bytes.ensures)
