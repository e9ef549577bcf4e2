use Rattle.csv_row.specs.Row.{csv_limits}
use Rattle.csv_ingest.specs.Rows.{records_of, rows_in}
use Rattle.csv_ingest.proofs.FaultLemmas.{any_columns}
use Rattle.command_model.proofs.RowsLemmas.{stops-by}
use Rattle.command_model.proofs.rows.columns_of.Goals as goal

pub stop_of-requires : goal.stop_of-requires
stop_of-requires c = λ same. any_columns c.args.table.now.schema.fields (records_of c.args.text.now) c.in-Err.fault (c.in-Err.ensures.refused (λ e. cc)) same

pub returns-in-Err-clause-stops : goal.returns-in-Err-clause-stops
returns-in-Err-clause-stops c =
    stops-by (rows_in csv_limits c.args.table.now.schema.fields (records_of c.args.text.now)) c.in-Err.fault c.stop_of.result c.stop_of.ensures.refused c.stop_of.ensures.memory (λ real. c.in-Err.ensures.refused real)
