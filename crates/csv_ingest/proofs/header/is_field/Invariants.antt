use Rattle.std.proofs.Common.{◌≡◌, map, drop}
use Rattle.std.specs.List.{list_any}
use Rattle.std.specs.Str.{bytes_eq}
use Rattle.csv_ingest.proofs.header.is_field.Given as goal

abbrev pub invariant-loop-field : goal.invariant-loop-field
invariant-loop-field l = list_any (bytes_eq l.name) (map (λ f. f.name) l.fields) ≡ list_any (bytes_eq l.name) (map (λ f. f.name) (drop l.field-index l.fields))
