use Rattle.std.proofs.Common.{◌≡◌, ◌∙◌, [], sym}
use Rattle.table_schema.specs.declared.query.Conjunct.TheVariants.{One}
use Rattle.segment_opening.proofs.EmptyLemmas.{matches_same, none_of}
use Rattle.segment_opening.proofs.LoadLemmas.{none_loaded}
use Rattle.segment_opening.proofs.small.small_matches_none.Goals as goal

pub returns-in-Ok-ids_matching-clause-none : goal.returns-in-Ok-ids_matching-clause-none
returns-in-Ok-ids_matching-clause-none g c = λ is.
    let table = c.args.table.now in
    let held = g.S.Shelf.held c.args.shelf.now in
    let none : c.in-Ok-ids_matching.ids ≡ [] = none_of c.in-Ok-ids_matching.ids (sym c.is_empty.ensures ∙ is) in
    matches_same table held c.args.head.now (One c.in-One.column c.in-One.test) c.args.conjunct.now (sym c.in-One.is)
    (none_loaded table held c.args.head.now c.load_one.new.head c.in-One.column c.in-One.test c.dictionary.result.now c.in-Ok.ensures.part c.dictionary.ensures (sym c.in-Ok-ids_matching.ensures.ids ∙ none))
