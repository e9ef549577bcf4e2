-- What the faults of the layers below are for a store inside a program.
use Rattle.csv_row.specs.declared.fault.CsvFault.{CsvFault}
use Rattle.csv_row.specs.declared.fault.CsvFault.TheVariants as csv
use Rattle.json_keys.specs.declared.fault.TextFault.{TextFault}
use Rattle.json_keys.specs.declared.fault.TextFault.TheVariants as text
use Rattle.query_executor.specs.declared.fault.ExecutorFault.{ExecutorFault}
use Rattle.query_executor.specs.declared.fault.ExecutorFault.TheVariants as executor
use Rattle.sql_reply.specs.declared.fault.SqlFault.{SqlFault}
use Rattle.sql_reply.specs.declared.fault.SqlFault.TheVariants as query
use Rattle.table_store.specs.declared.fault.StoreFault.TheVariants as store
use Rattle.embedded.specs.declared.fault.Fault.{Fault}
use Rattle.embedded.specs.declared.fault.Fault.TheVariants.{BadCsv, BadQuery, BadSchema, BadSettings, Store}

-- the fault of the text of a schema
abbrev pub of_schema : TextFault → Fault
of_schema (text.At kind path) = BadSchema kind path
of_schema text.NoMemory = Store store.NoMemory

-- the fault of the text of settings
abbrev pub of_settings : TextFault → Fault
of_settings (text.At kind path) = BadSettings kind path
of_settings text.NoMemory = Store store.NoMemory

-- the fault of a CSV text
abbrev pub of_csv : CsvFault → Fault
of_csv csv.NoMemory = Store store.NoMemory
of_csv other = BadCsv other

-- the fault of a query's text
abbrev pub of_sql : SqlFault → Fault
of_sql query.NoMemory = Store store.NoMemory
of_sql other = BadQuery other

-- the fault of a query over segments
abbrev pub of_query : ExecutorFault → Fault
of_query (executor.Sql fault) = of_sql fault
of_query (executor.NotASegment at part) = Store (store.NotASegment part)
of_query executor.ReadFault = Store store.ReadFault

-- a device failed, or memory ran out
abbrev pub IsOutside : Fault → Type 0
IsOutside (Store store.ReadFault) = Unit {0}
IsOutside (Store store.WriteFault) = Unit {0}
IsOutside (Store store.NoMemory) = Unit {0}
IsOutside other = ⊥
