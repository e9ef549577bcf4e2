use Rattle.std.proofs.Common.{arith}
use Rattle.csv.specs.Records.{fields_of}
use Rattle.csv_ingest.proofs.NumberTextLemmas.{bad-header, many-columns}
use Rattle.csv_ingest.proofs.blocks.NumberHeader.of_record.Goals as goal

pub returns-then-len-gt-MOST_COLUMNS-clause-err : goal.returns-then-len-gt-MOST_COLUMNS-clause-err
returns-then-len-gt-MOST_COLUMNS-clause-err c = λ _ records. many-columns (fields_of c.args.names) records (omega (arith, c.len.ensures, c.if-len-gt-MOST_COLUMNS.true))

pub returns-in-Err-clause-err : goal.returns-in-Err-clause-err
returns-in-Err-clause-err c = λ real records. bad-header (fields_of c.args.names) records c.in-Err.fault (omega (arith, c.len.ensures, c.if-len-gt-MOST_COLUMNS.false)) (c.in-Err.ensures.err real)
