use Rattle.csv_ingest.proofs.KeptLemmas.{KeepsSome}
use Rattle.csv_ingest.proofs.kept_columns.push_plain.Given as goal

abbrev pub invariant-fields : goal.invariant-fields
invariant-fields l = KeepsSome l.kept l.part l.layout.fields.now l.layout.places.items l.fn.columns.items l.columns.items l.i
