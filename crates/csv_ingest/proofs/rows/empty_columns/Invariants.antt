use Rattle.std.proofs.Common.{◌≡◌, map, take}
use Rattle.std.specs.List.{All}
use Rattle.values.specs.Columns.{Counts}
use Rattle.csv_row.specs.Columns.{is_text_kind}
use Rattle.csv_ingest.proofs.rows.empty_columns.Given as goal

abbrev pub invariant-loop-field : goal.invariant-loop-field
invariant-loop-field l = (map (λ c. c.are_texts) l.columns.items ≡ map (λ f. is_text_kind f.kind) (take l.field-index l.fields)) × All (Counts 0) l.columns.items
