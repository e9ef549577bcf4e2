use Rattle.std.proofs.Common.{◌≡◌, map, take, drop, length}
use Rattle.serde_json.specs.View.{view}
use Rattle.json_keys.specs.Faults.{at_place}
use Rattle.json_keys.specs.NamedColumns.{column_finding, column_places}
use Rattle.settings_parts.proofs.columns.check_places.Given as goal
use Rattle.table_schema.specs.Firsts.{by_place}

abbrev pub invariant-loop-place : goal.invariant-loop-place
invariant-loop-place l =
    by_place (λ before d. column_finding l.fields.all.now (at_place l.path (length before)) d) (map view (take l.place l.items)) (map view (drop l.place l.items))
    ≡ column_places l.fields.all.now l.path (map view l.items)
