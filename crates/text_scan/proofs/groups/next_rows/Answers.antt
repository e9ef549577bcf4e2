use Rattle.std.proofs.Common.{Option, Some, None, IfSome, List}
use Rattle.csv_ingest.specs.NumberBlocks as csv
use Rattle.table_schema.specs.declared.field.Field.{Field}
use Rattle.values.specs.Columns.{ListedColumns}
use Rattle.scan_engine.specs.Numbers.{AreNumbers}
use Rattle.text_scan.proofs.TextLemmas.{stops-by}
use Rattle.text_scan.proofs.groups.next_rows.Goals as goal

some-numbers : (fields : List Field) (o : Option ListedColumns) → IfSome o (λ t. csv.AreNumbers fields t.columns) → IfSome o AreNumbers
some-numbers fields None n = tt
some-numbers fields (Some t) n = n.numbers

pub returns-in-Ok-clause-numbers : goal.returns-in-Ok-clause-numbers
returns-in-Ok-clause-numbers c = some-numbers c.args.blocks.now.header.fields c.in-Ok.block c.in-Ok.ensures.numbers

pub returns-in-Err-clause-err : goal.returns-in-Err-clause-err
returns-in-Err-clause-err c = λ whole h. stops-by whole c.in-Err.fault c.csv_fault.result c.csv_fault.ensures (λ real. c.in-Err.ensures.err real whole h)
