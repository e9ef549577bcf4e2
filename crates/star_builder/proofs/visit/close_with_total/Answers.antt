use Rattle.std.proofs.Common.{subst, sym, List}
use Rattle.state_columns.specs.Docs.{Doc}
use Rattle.state_columns.specs.Region.{range}
use Rattle.state_columns.specs.Documents.{AreAlike}
use Rattle.star_builder.proofs.Children.{alike_docs}
use Rattle.star_builder.proofs.visit.close_with_total.Goals as goal

pub add_total-requires-clause-alike : goal.add_total-requires-clause-alike
add_total-requires-clause-alike c =
    let docs = c.args.tree.now.docs.docs in
    let start = c.bounds-start.ensures.start in
    let end = c.bounds-start.ensures.end in
    subst (λ (l : List Doc). AreAlike c.args.level l)
    (λ i. range (sym start i) (sym end i) docs)
    (alike_docs c.args.shape.now.dims c.args.level _ c.requires.stands.proper)
