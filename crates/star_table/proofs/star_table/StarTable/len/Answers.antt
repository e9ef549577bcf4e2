use Rattle.std.proofs.Common.{length, sym, ap, ◌∙◌}
use Rattle.state_columns.proofs.RegionLemmas.{length-docs_in}
use Rattle.star_table.proofs.star_table.StarTable.len.Goals as goal

pub returns-clause-count : goal.returns-clause-count
returns-clause-count c =
    let t = c.self.inside in
    sym (length-docs_in t.count t.dims t.ids.items t.columns.items)
    ∙ ap (λ v. length v.docs) c.self.view_is
