use Rattle.csv.specs.Records.{fields_of}
use Rattle.csv_row.proofs.Fields.{field-some, field-none}
use Rattle.csv_row.proofs.cells.cell.Goals as goal

pub returns : goal.returns
returns c = field-some (fields_of c.args.cells.now) c.args.at c.in-Some.cell.now c.in-Some.ensures.value

pub unreachable-requires : goal.unreachable-requires
unreachable-requires c = field-none (fields_of c.args.cells.now) c.args.at c.in-None.ensures.value c.requires
