use Rattle.std.proofs.Common.{ℕ, ◌<◌, get_or}
use Rattle.csv_ingest.specs.Unicode.{IsUnicode}
use Rattle.table_schema.specs.declared.field.Field.{Field}
use Rattle.command_model.proofs.rows.look_at_defaults.Given as goal

abbrev pub invariant-loop-field : goal.invariant-loop-field
invariant-loop-field l = (k : ℕ) (d : Field) → k < l.field-index → IsUnicode (get_or l.fields k d).default
