use Rattle.std.proofs.Common.{Some, map, option_map, sym, ap, ◌∙◌}
use Rattle.serde_json.specs.View.{view}
use Rattle.json_keys.specs.Json.{items}
use Rattle.json_keys.proofs.Items.{items-items_view}
use Rattle.json_keys.proofs.json.array_of.Goals as goal

pub returns-in-Some : goal.returns-in-Some
returns-in-Some c =
    ap Some (ap (map view) c.as_slice.ensures.value ∙ sym (items-items_view c.in-Some.items.now.items)) ∙ ap (option_map items) c.in-Some.ensures
