use Rattle.std.proofs.Common.{◌≡◌, ◌∙◌, ◌∷◌, ◌++◌, List, ap}
use Rattle.segment_build.specs.declared.section.MadeSection.{MadeSection}
use Rattle.segment_build.specs.declared.section.MadeSection.TheVariants.{Stands}
use Rattle.segment_build.proofs.MadeLemmas.{appended, each_in_order}
use Rattle.segment_build.proofs.sections.Sections.move_to.Goals as goal

pub returns : goal.returns
returns c =
    let own = c.self.inside in
    let view = c.self.view_is in
    let old : List MadeSection = c.args.all.now.items in
    let ds : List MadeSection = own.dictionaries.items in
    let ns : List MadeSection = c.args.trees.now.nodes.items in
    let fs : List MadeSection = own.forwards.items in
    let rs : List MadeSection = own.runs.items in
    let ls : List MadeSection = own.lists.items in
    let gs : List MadeSection = own.ranges.items in
    let ss : List MadeSection = c.args.trees.now.stars.items in
    let b : MadeSection = Stands c.from_vec.result in
    let items : c.append-7.new.self.items ≡ old ++ b ∷ ((ds ++ ns) ++ ((fs ++ (rs ++ (ls ++ gs))) ++ ss)) =
    c.in_ok-append-7.ensures.items ∙ ap (λ x. x ++ ss) (c.in_ok-append-6.ensures.items ∙ ap (λ x. x ++ gs) (c.in_ok-append-5.ensures.items
    ∙ ap (λ x. x ++ ls) (c.in_ok-append-4.ensures.items ∙ ap (λ x. x ++ rs) (c.in_ok-append-3.ensures.items ∙ ap (λ x. x ++ fs) (c.in_ok-append-2.ensures.items
    ∙ ap (λ x. x ++ ns) (c.in_ok-append.ensures.items ∙ ap (λ x. x ++ ds) c.in_ok-push.ensures.items))))))
    ∙ appended old ds ns fs rs ls gs ss b in
    let bounds = c.from_vec.ensures ∙ ap (λ v. v.items) c.replace-bounds.ensures.value in
    cc (
      each_in_order old ds ns fs rs ls gs ss b c.append-7.new.self.items items,
      bounds,
      ap (λ m. m.bounds) view,
      ap (λ m. m.dictionaries) view,
      ap (λ m. m.forwards) view,
      ap (λ m. m.runs) view,
      ap (λ m. m.lists) view,
      ap (λ m. m.ranges) view,
    )
