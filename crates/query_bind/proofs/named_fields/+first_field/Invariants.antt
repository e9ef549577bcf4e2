use Rattle.std.proofs.Common.{◌≡◌, flat_map, drop}
use Rattle.query_bind.specs.Conjuncts.{first}
use Rattle.query_bind.proofs.named_fields.+first_field.Given as goal
use Rattle.table_schema.specs.ValidQuery.{fields_of}

abbrev pub invariant-first_field_in-loop-wide : goal.invariant-first_field_in-loop-wide
invariant-first_field_in-loop-wide l = first (flat_map fields_of l.wides) ≡ first (flat_map fields_of (drop l.wide-index l.wides))
