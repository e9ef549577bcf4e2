use Rattle.std.proofs.Common.{◌∙◌, ◌==◌}
use Rattle.std.specs.List.{list_all}
use Rattle.query_bind.proofs.WideLemmas.{here_All, here_Any}
use Rattle.query_bind.proofs.named_fields.+names_only.Goals as goal

pub names_only-returns-in-All : goal.names_only-returns-in-All
names_only-returns-in-All t c = c.all_name_only.ensures
    ∙ here_All (λ fields. list_all (λ other. other == c.args.field) fields) c.args.wide.now c.in-All.inner c.as_slice.result.now c.in-All.is c.as_slice.ensures

pub names_only-returns-in-Any : goal.names_only-returns-in-Any
names_only-returns-in-Any t c = c.all_name_only-in-Any.ensures
    ∙ here_Any (λ fields. list_all (λ other. other == c.args.field) fields) c.args.wide.now c.in-Any.inner c.as_slice-in-Any.result.now c.in-Any.is c.as_slice-in-Any.ensures
