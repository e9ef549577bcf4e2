use Rattle.csv_ingest.proofs.FaultLemmas.{any_columns}
use Rattle.csv_ingest.proofs.ValidRows.{rows_by_schema, rows_by_header}
use Rattle.csv_ingest.proofs.laws.rows_law.Goals as goal

pub returns-clause-schema : goal.returns-clause-schema
returns-clause-schema c = rows_by_schema

pub returns-clause-numbers : goal.returns-clause-numbers
returns-clause-numbers c = rows_by_header

pub returns-clause-columns : goal.returns-clause-columns
returns-clause-columns c = any_columns
