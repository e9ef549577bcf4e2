use Rattle.std.proofs.Common.{◌≡◌, map, All, subst, ap, ◌∙◌}
use Rattle.std.specs.Option.{IfSome}
use Rattle.state_columns.specs.Region.{numbers}
use Rattle.state_columns.specs.Packing.{place, IsWord}
use Rattle.state_columns.specs.Grouping.{first_words, numbered, IsSplit}
use Rattle.star_table.proofs.GroupMerge.{grouped}
use Rattle.star_table.proofs.star_table.StarTable.groups.Goals as goal

pub returns : goal.returns
returns c =
    let start = c.args.start in
    let docs = c.args.self.now.docs in
    let spans = c.args.spans.now in
    let words = c.in-Some-2.words.items in
    let parts = c.in-Some-3.parts in
    let found : (map (place start) words ≡ numbers start c.args.end)
    × All (IsWord spans c.args.level start docs) words =
    subst (λ o. IfSome o (λ w. (map (place start) w.items ≡ numbers start c.args.end)
    × All (IsWord spans c.args.level start docs) w.items)) c.in-Some-2.is c.in_ok-words.ensures in
    let split : IsSplit words parts.table.items parts.others.items =
    subst (λ o. IfSome o (λ s. IsSplit words s.table.items s.others.items)) c.in-Some-3.is
    c.in_ok-parts.ensures in
    grouped spans c.args.level start c.args.end docs words parts.table.items parts.others.items
    c.in_ok-firsts.firsts.items c.in_ok-slots.slots.items found.0 found.1 split
    (c.in_ok-firsts.ensures
    ∙ ap (λ t. map (place start) (first_words 0 t)) c.as_slice.ensures.value)
    (c.in_ok-slots.ensures ∙ ap (numbered 0) c.as_slice-2.ensures.value)
