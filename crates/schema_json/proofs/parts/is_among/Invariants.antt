use Rattle.std.proofs.Common.{◌≡◌, map, drop}
use Rattle.table_schema.specs.Names.{is_among}
use Rattle.schema_json.proofs.parts.is_among.Given as goal

abbrev pub invariant-loop-field : goal.invariant-loop-field
invariant-loop-field l = is_among (map (λ f. f.name) (drop l.field-index l.fields)) l.name ≡ is_among (map (λ f. f.name) l.fields) l.name
