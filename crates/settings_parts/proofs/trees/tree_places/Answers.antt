use Rattle.std.proofs.Common.{◌<◌, ◌∷◌, [], ◌++◌, length, map, take, ap, sym, ◌∙◌, arith}
use Rattle.serde_json.specs.View.{view}
use Rattle.json_keys.specs.Faults.{at_place}
use Rattle.settings_parts.specs.Trees.{tree_finding, tree_of}
use Rattle.json_keys.proofs.Places.{done_more, map-append, places_done, passed_here}
use Rattle.settings_parts.proofs.trees.tree_places.Goals as goal

pub loop-place-preserved : goal.loop-place-preserved
loop-place-preserved c =
    let l = c.loop-place in
    let fields = c.args.fields.all.now in
    let xs = c.args.items.now in
    let x = c.index-items-place.result in
    let within : l.place < length xs = omega arith in
    let is = c.index-items-place.is in
    let base = c.as_str.ensures ∙ c.in_ok-base.ensures ∙ ap (at_place c.args.path.now) (sym (places_done view xs l.place within)) in (
      passed_here view _ xs l.place x within is l.invariant.0 _ (ap (λ b. tree_finding fields b (view x)) base) c.in_ok-tree.ensures.0,
      c.in_ok-push.ensures.ok
          ∙ ap (λ ts. ts ++ c.in_ok-tree.tree ∷ []) l.invariant.1
          ∙ ap (λ t. map (tree_of fields) (map view (take l.place xs)) ++ t ∷ []) c.in_ok-tree.ensures.1
          ∙ sym (ap (map (tree_of fields)) (done_more view xs l.place x within is) ∙ map-append (tree_of fields) (map view (take l.place xs)) (view x ∷ [])),
    )
