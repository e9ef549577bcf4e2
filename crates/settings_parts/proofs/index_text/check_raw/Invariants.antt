use Rattle.std.proofs.Common.{◌≡◌, map, take, drop, length}
use Rattle.serde_json.specs.View.{view}
use Rattle.json_keys.specs.Faults.{at_place}
use Rattle.settings_parts.specs.Indexes.{raw_place, raw_places}
use Rattle.settings_parts.proofs.index_text.check_raw.Given as goal
use Rattle.table_schema.specs.Firsts.{by_place}

abbrev pub invariant-loop-place : goal.invariant-loop-place
invariant-loop-place l =
    by_place (λ before d. raw_place l.fields.all.now l.settings (at_place l.path (length before)) d) (map view (take l.place l.items)) (map view (drop l.place l.items))
    ≡ raw_places l.fields.all.now l.settings l.path (map view l.items)
