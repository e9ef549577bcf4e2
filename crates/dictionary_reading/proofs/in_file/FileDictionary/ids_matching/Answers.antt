use Rattle.std.proofs.Common.{◌≡◌, ◌∙◌, List, subst, sym}
use Rattle.values.specs.declared.value.Value.{Value}
use Rattle.value_ids.specs.Ids.{matching}
use Rattle.value_ids.specs.declared.cuts.Cut.{Cut}
use Rattle.dictionary_reading.specs.declared.in_file.FileDictionary.{FileDictionary}
use Rattle.dictionary_reading.specs.Bounds.{AreCutsFrom, bounds_of}
use Rattle.dictionary_reading.proofs.CutLemmas.{of_more}
use Rattle.dictionary_reading.proofs.in_file.FileDictionary.ids_matching.Goals as goal

pub returns-clause-ids : goal.returns-clause-ids
returns-clause-ids g c =
    let l : FileDictionary = c.args.self.now in
    let cuts : List Cut = c.in-Ok.cuts.items in
    let bounds : c.deref.result.now ≡ bounds_of c.args.test.now = c.deref.ensures.value ∙ c.in_ok-bounds.ensures in
    of_more l (g.S.Shelf.held c.args.shelf.now) (λ d. AreCutsFrom 0 c.deref.result.now cuts d.values) (λ d. c.in_ok-matching_ids.field-0 ≡ matching c.args.test.now d.values)
    (λ files d is n are. c.in_ok-matching_ids.ensures d.values (record { many = sym n; each = subst (λ (cs : List Cut). AreCutsFrom 0 (bounds_of c.args.test.now) cs d.values) (sym c.deref-2.ensures.value) (subst (λ (bs : List Value). AreCutsFrom 0 bs cuts d.values) bounds are) }))
    c.in-Ok.ensures.cuts
