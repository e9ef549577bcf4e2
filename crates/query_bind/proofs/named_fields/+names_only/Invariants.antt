use Rattle.std.proofs.Common.{◌≡◌, ◌==◌, flat_map, drop}
use Rattle.std.specs.List.{list_all}
use Rattle.query_bind.proofs.named_fields.+names_only.Given as goal
use Rattle.table_schema.specs.ValidQuery.{fields_of}

abbrev pub invariant-all_name_only-loop-wide : goal.invariant-all_name_only-loop-wide
invariant-all_name_only-loop-wide l = list_all (λ other. other == l.field) (flat_map fields_of l.wides) ≡ list_all (λ other. other == l.field) (flat_map fields_of (drop l.wide-index l.wides))
