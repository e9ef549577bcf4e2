use Rattle.csv_text.proofs.CellLemmas.{taken_chunk}
use Rattle.csv_text.proofs.putting.put_chunk.Goals as goal

pub returns-clause-text : goal.returns-clause-text
returns-clause-text c = taken_chunk c.args.bytes.now c.args.text.now c.args.from c.args.at c.args.count c.requires.count c.requires.from c.requires.at
