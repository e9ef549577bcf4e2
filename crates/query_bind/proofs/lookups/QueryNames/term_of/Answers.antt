use Rattle.std.proofs.Common.{◌≡◌, Some, None, option_map, unwrap_or, sym, ap, ◌∙◌}
use Rattle.std.specs.Option.{option_copied}
use Rattle.query_tokens.specs.declared.tree.Term.TheVariants.{Column}
use Rattle.query_bind.specs.Names.{labelled, term_of}
use Rattle.query_bind.proofs.lookups.QueryNames.term_of.Goals as goal

pub returns-in-Some : goal.returns-in-Some
returns-in-Some c =
    let items = c.args.self.now.query.now.items in
    let name = c.in-Column.name in
    let hit : labelled items name.name ≡ Some c.in-Some.named.now.now =
    ap (labelled items) (sym c.as_str.ensures) ∙ sym (c.args.self.now.labels_known c.as_str.result.now)
    ∙ ap (option_map (λ t. t.now)) (sym c.get.ensures.value ∙ ap option_copied c.in-Some.is) in
    sym (ap (term_of items) c.in-Column.is ∙ ap (λ o. unwrap_or o (Column name)) hit)

pub returns-in-None : goal.returns-in-None
returns-in-None c =
    let items = c.args.self.now.query.now.items in
    let name = c.in-Column.name in
    let miss : labelled items name.name ≡ None =
    ap (labelled items) (sym c.as_str.ensures) ∙ sym (c.args.self.now.labels_known c.as_str.result.now)
    ∙ ap (option_map (λ t. t.now)) (sym c.get.ensures.value ∙ ap option_copied c.in-None.is) in
    sym (ap (term_of items) c.in-Column.is ∙ ap (λ o. unwrap_or o (Column name)) miss ∙ sym c.in-Column.is)
