use Rattle.std.proofs.Common.{◌≡◌, map, drop}
use Rattle.serde_json.specs.View.{view}
use Rattle.json_keys.specs.NamedColumns.{has_text}
use Rattle.settings_parts.proofs.columns.has_text.Given as goal

abbrev pub invariant-loop-item : goal.invariant-loop-item
invariant-loop-item l = has_text (map view (drop l.item-index l.items)) l.name ≡ has_text (map view l.items) l.name
