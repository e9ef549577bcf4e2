use Rattle.std.proofs.Common.{◌∙◌}
use Rattle.query_bind.specs.Conjuncts.{first}
use Rattle.query_bind.proofs.WideLemmas.{here_All, here_Any}
use Rattle.query_bind.proofs.named_fields.+first_field.Goals as goal

pub first_field-returns-in-All : goal.first_field-returns-in-All
first_field-returns-in-All t c = c.first_field_in.ensures ∙ here_All first c.args.wide.now c.in-All.inner c.as_slice.result.now c.in-All.is c.as_slice.ensures

pub first_field-returns-in-Any : goal.first_field-returns-in-Any
first_field-returns-in-Any t c = c.first_field_in-in-Any.ensures ∙ here_Any first c.args.wide.now c.in-Any.inner c.as_slice-in-Any.result.now c.in-Any.is c.as_slice-in-Any.ensures
