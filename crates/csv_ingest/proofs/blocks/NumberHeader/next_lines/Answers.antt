use Rattle.std.proofs.Common.{subst, sym}
use Rattle.csv.specs.Records.{fields_of}
use Rattle.csv_row.specs.Columns.{DefaultsFit}
use Rattle.csv_ingest.proofs.NumberLemmas.{number-defaults}
use Rattle.csv_ingest.proofs.blocks.NumberHeader.next_lines.Goals as goal

pub new-requires-clause-defaults : goal.new-requires-clause-defaults
new-requires-clause-defaults c = subst DefaultsFit (sym c.as_slice.ensures) (number-defaults (fields_of c.args.self.now.names) c.args.self.now.fields c.requires.fields)
