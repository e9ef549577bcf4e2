use Rattle.std.proofs.Common.{map, ap, ◌∙◌}
use Rattle.serde_json.specs.View.{view}
use Rattle.json_keys.specs.Faults.{below}
use Rattle.settings_parts.specs.Pairs.{pairs_finding, pairs_of}
use Rattle.settings_parts.specs.Trees.{PAIRS_KEY, needed_array}
use Rattle.json_keys.proofs.Answered.{Gives-same, second_of_two}
use Rattle.settings_parts.proofs.trees.tree_pairs.Goals as goal

pub returns : goal.returns
returns c =
    let fields = c.args.fields.all.now in
    let d = view c.args.json.now in
    let path = c.as_str.ensures ∙ c.in_ok-path.ensures in
    let items = c.in_ok-items.ensures.items in
    Gives-same _ _ _ _ c.read_pairs.result
    (ap (λ p. pairs_finding fields p (map view c.in_ok-items.items.now)) path ∙ ap (pairs_finding fields (below c.args.base.now PAIRS_KEY)) items
    ∙ second_of_two (needed_array c.args.base.now PAIRS_KEY d) _ c.in_ok-items.ensures.ok)
    (ap (pairs_of fields) items)
    c.read_pairs.ensures
