use Rattle.std.proofs.Common.{arith}
use Rattle.csv.specs.Records.{fields_of}
use Rattle.csv_ingest.proofs.NumberLemmas.{header_width}
use Rattle.csv_ingest.proofs.blocks.NumberHeader.schema.Goals as goal

pub returns-in-Ok-clause-at_most : goal.returns-in-Ok-clause-at_most
returns-in-Ok-clause-at_most c =
    omega (arith, header_width (fields_of c.args.self.now.names) c.in-Ok.fields c.in-Ok.ensures.ok, c.requires.at_most)
