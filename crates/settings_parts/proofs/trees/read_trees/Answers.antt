use Rattle.std.proofs.Common.{map, ap, ◌∙◌, arith}
use Rattle.serde_json.specs.View.{view}
use Rattle.json_keys.specs.Faults.{below}
use Rattle.json_keys.specs.Keys.{items_at, optional_array}
use Rattle.settings_parts.specs.Trees.{TREES_KEY, tree_places, tree_of}
use Rattle.json_keys.proofs.Answered.{Gives-same, third_of_three, fault_unless-few}
use Rattle.settings_parts.proofs.trees.read_trees.Goals as goal

pub returns : goal.returns
returns c =
    let fields = c.args.fields.all.now in
    let base = c.args.base.now in
    let d = view c.args.json.now in
    let path = c.as_str.ensures ∙ c.in_ok-path.ensures in
    let items = c.in_ok-items.ensures.items in
    Gives-same _ _ _ _ c.tree_places.result
    (ap (λ p. tree_places fields p (map view c.in_ok-items.items.now)) path ∙ ap (tree_places fields (below base TREES_KEY)) items
    ∙ third_of_three (optional_array base TREES_KEY d) _ _ c.in_ok-items.ensures.ok
    (fault_unless-few c.in_ok-items.items.now (items_at TREES_KEY d) 8 _ _ items (omega arith)))
    (ap (map (tree_of fields)) items)
    c.tree_places.ensures
