use Rattle.csv_ingest.proofs.PartRows.{AddsSome}
use Rattle.csv_ingest.proofs.part_columns.push_fields.Given as goal

abbrev pub invariant-fields : goal.invariant-fields
invariant-fields l = AddsSome l.part l.layout.fields.now l.layout.places.items l.fn.columns.items l.columns.items l.i
