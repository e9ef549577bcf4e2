use Rattle.std.proofs.Common.{◌≡◌, drop}
use Rattle.table_schema.specs.Columns.{number_from, number_of}
use Rattle.table_schema.proofs.field.Field.number_of.Given as goal

abbrev pub invariant-loop-number : goal.invariant-loop-number
invariant-loop-number l = number_from l.number (drop l.number l.fields) l.name ≡ number_of l.fields l.name
