use Rattle.std.proofs.Common.{◌≡◌, ◌∙◌, Some, Err, slice_get, sym, ap, subst}
use Rattle.std.proofs.lemmas.Option.{slice_get-get_or}
use Rattle.outside.specs.Seen.{Seen, seen}
use Rattle.segment_head.specs.Heads.{IsPartOf, OfWhole}
use Rattle.segment_opening.specs.Emptied.{MatchesNone}
use Rattle.segment_opening.proofs.EmptyLemmas.{emptied_by}
use Rattle.segment_opening.proofs.LoadLemmas.{loaded_by, loaded_none, loaded_then, loads_all, loads_on, part_same, whole_before}
use Rattle.segment_opening.proofs.small.is_emptied_by_small.Goals as goal

pub conjuncts-init : goal.conjuncts-init
conjuncts-init g c = record {
  loaded = loaded_none c.args.table.now c.args.head.now (seen g.S.Shelf c.args.shelf.now) c.requires.of_table;
  part = part_same c.args.table.now (g.S.Shelf.held c.args.shelf.now) c.args.head.now;
}

pub conjuncts-preserved : goal.conjuncts-preserved
conjuncts-preserved g c =
    let a : Seen = seen g.S.Shelf c.args.shelf.now in
    let b : Seen = seen g.S.Shelf c.conjuncts.shelf in
    let d : Seen = seen g.S.Shelf c.small_matches_none.new.shelf in
    let table = c.args.table.now in
    let new = c.small_matches_none.new.head in
    record {
      loaded = loaded_then table c.args.head.now c.conjuncts.head new a b d c.conjuncts.invariant.loaded (loaded_by table c.in-Ok-false.field-0 c.conjuncts.head new b d c.in-Ok-false.ensures.loads);
      part = whole_before (λ whole. IsPartOf whole new) table a.held c.args.head.now c.conjuncts.head c.conjuncts.invariant.part
          (subst (λ h. OfWhole table h c.conjuncts.head (λ whole. IsPartOf whole new)) c.conjuncts.invariant.loaded.reads.held c.in-Ok-false.ensures.part);
    }

pub returns-in-Ok-true-clause-emptied : goal.returns-in-Ok-true-clause-emptied
returns-in-Ok-true-clause-emptied g c = λ e.
    let table = c.args.table.now in
    let query = c.args.query.now in
    let head = c.args.head.now in
    let held = g.S.Shelf.held c.args.shelf.now in
    let listed = c.as_slice-conjuncts.result.now in
    let conjunct = c.index-conjuncts-at.result in
    let there : slice_get listed c.conjuncts.at ≡ Some conjunct = slice_get-get_or listed c.conjuncts.at conjunct c.conjuncts-test.true ∙ ap Some (sym c.index-conjuncts-at.is) in
    emptied_by table query c.requires.query held head c.conjuncts.at conjunct (ap (λ l. slice_get l c.conjuncts.at) (sym c.as_slice-conjuncts.ensures) ∙ there)
    (whole_before (MatchesNone conjunct) table held head c.conjuncts.head c.conjuncts.invariant.part
    (subst (λ h. OfWhole table h c.conjuncts.head (MatchesNone conjunct)) c.conjuncts.invariant.loaded.reads.held (c.in-Ok-true.ensures.none c.in-Ok-true.field-0-test)))

pub returns-in-Ok-true-clause-loads : goal.returns-in-Ok-true-clause-loads
returns-in-Ok-true-clause-loads g c =
    let a : Seen = seen g.S.Shelf c.args.shelf.now in
    let b : Seen = seen g.S.Shelf c.conjuncts.shelf in
    let d : Seen = seen g.S.Shelf c.small_matches_none.new.shelf in
    loads_all c.args.table.now _ c.args.head.now c.small_matches_none.new.head a d
    (loaded_then c.args.table.now c.args.head.now c.conjuncts.head c.small_matches_none.new.head a b d c.conjuncts.invariant.loaded
    (loaded_by c.args.table.now c.in-Ok-true.field-0 c.conjuncts.head c.small_matches_none.new.head b d c.in-Ok-true.ensures.loads))

pub returns-in-Err-clause-loads : goal.returns-in-Err-clause-loads
returns-in-Err-clause-loads g c =
    loads_on c.args.table.now (Err c.in-Err.fault) c.args.head.now c.conjuncts.head c.small_matches_none.new.head (seen g.S.Shelf c.args.shelf.now) (seen g.S.Shelf c.conjuncts.shelf) (seen g.S.Shelf c.small_matches_none.new.shelf)
    c.conjuncts.invariant.loaded c.in-Err.ensures.loads

pub returns-clause-loads : goal.returns-clause-loads
returns-clause-loads g c = loads_all c.args.table.now _ c.args.head.now c.conjuncts.head (seen g.S.Shelf c.args.shelf.now) (seen g.S.Shelf c.conjuncts.shelf) c.conjuncts.invariant.loaded
