use Rattle.std.proofs.Common.{◌≡◌, map, take}
use Rattle.serde_json.specs.View.{view}
use Rattle.json_keys.specs.NamedColumns.{named}
use Rattle.settings_parts.proofs.columns.named.Given as goal

abbrev pub invariant-loop-field : goal.invariant-loop-field
invariant-loop-field l = l.flags ≡ named (take l.field-index l.fields) (map view l.items)
