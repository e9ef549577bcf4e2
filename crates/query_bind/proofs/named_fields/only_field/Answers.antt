use Rattle.std.proofs.Common.{sym, ◌∙◌}
use Rattle.query_bind.proofs.WideLemmas.{found_only, found_other}
use Rattle.query_bind.proofs.named_fields.only_field.Goals as goal
use Rattle.table_schema.specs.ValidQuery.{fields_of}

pub returns-then-names_only : goal.returns-then-names_only
returns-then-names_only c = found_only (fields_of c.args.wide.now) c.in-Some.field
    (sym c.first_field.ensures ∙ c.in-Some.is) (sym c.names_only.ensures ∙ c.if-names_only.true)

pub returns-else-names_only : goal.returns-else-names_only
returns-else-names_only c = found_other (fields_of c.args.wide.now) c.in-Some.field
    (sym c.first_field.ensures ∙ c.in-Some.is) (sym c.names_only.ensures ∙ c.if-names_only.false)
