use Rattle.bit_column.proofs.Pushed.{four-whole}
use Rattle.bit_column.proofs.writing.four_bytes.Goals as goal

pub returns : goal.returns
returns c = four-whole c.whole_byte.result c.whole_byte-2.result c.whole_byte-3.result c.whole_byte-4.result c.args.following c.args.window c.whole_byte.ensures c.whole_byte-2.ensures c.whole_byte-3.ensures c.whole_byte-4.ensures
