use Rattle.std.proofs.Common.{map, ap, ◌∙◌, arith}
use Rattle.serde_json.specs.View.{view}
use Rattle.json_keys.specs.Faults.{below}
use Rattle.json_keys.specs.NamedColumns.{numbers_of}
use Rattle.json_keys.specs.Keys.{items_at}
use Rattle.settings_parts.specs.Trees.{SPLIT_KEY, needed_array, split_places}
use Rattle.json_keys.proofs.Answered.{Gives-same, third_of_three, fault_unless-few}
use Rattle.settings_parts.proofs.trees.read_split.Goals as goal

pub returns-clause-split : goal.returns-clause-split
returns-clause-split c =
    let fields = c.args.fields.all.now in
    let base = c.args.base.now in
    let d = view c.args.json.now in
    let path = c.as_str.ensures ∙ c.in_ok-path.ensures in
    let items = c.in_ok-items.ensures.items in
    Gives-same _ _ _ _ c.split_places.result
    (ap (λ p. split_places fields p (map view c.in_ok-items.items.now)) path ∙ ap (split_places fields (below base SPLIT_KEY)) items
    ∙ third_of_three (needed_array base SPLIT_KEY d) _ _ c.in_ok-items.ensures.ok
    (fault_unless-few c.in_ok-items.items.now (items_at SPLIT_KEY d) 16 _ _ items (omega arith)))
    (ap (numbers_of fields) items)
    c.split_places.ensures.split
