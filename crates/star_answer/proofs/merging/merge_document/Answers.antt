use Rattle.std.proofs.Common.{◌≡◌, ◌∙◌, MatchOption, length, sym, ap, subst}
use Rattle.state_columns.specs.Docs.{doc_at}
use Rattle.group_table.specs.Pooled.{IsKeyAt}
use Rattle.star_reader.specs.Selected.{key_values}
use Rattle.star_answer.proofs.MergeSteps.{length_key}
use Rattle.star_answer.proofs.merging.merge_document.Goals as goal

pub merge_row-requires-clause-key : goal.merge_row-requires-clause-key
merge_row-requires-clause-key c =
    let columns = c.args.columns.now in
    let ids = (doc_at c.args.selected.now.docs c.args.at).0 in
    let own = key_values columns ids in
    let is : c.known_place.new.key ≡ own =
    subst (λ known. MatchOption known (c.known_place.new.key ≡ own) (IsKeyAt c.args.groups.now own))
    c.in_default.is c.in-Ok.ensures in
    ap length is ∙ length_key columns ids c.requires.merges.keyed.ids ∙ sym c.requires.merges.as_many
