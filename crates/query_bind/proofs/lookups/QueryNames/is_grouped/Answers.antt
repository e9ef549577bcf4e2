use Rattle.std.proofs.Common.{ap, ◌∙◌}
use Rattle.std.specs.List.{list_any}
use Rattle.std.specs.Str.{bytes_eq}
use Rattle.query_bind.proofs.lookups.QueryNames.is_grouped.Goals as goal

pub returns : goal.returns
returns c =
    c.contains_key.ensures ∙ c.args.self.now.groups_known c.as_str.result.now
    ∙ ap (λ name. list_any (λ g. bytes_eq g.name name) c.args.self.now.query.now.groups) c.as_str.ensures
