use Rattle.std.proofs.Common.{◌≡◌, map, take, drop, length}
use Rattle.serde_json.specs.View.{view}
use Rattle.json_keys.specs.Faults.{at_place}
use Rattle.json_keys.specs.NamedColumns.{numbers_of}
use Rattle.settings_parts.specs.Trees.{skip_place, skip_places}
use Rattle.settings_parts.proofs.trees.skip_places.Given as goal
use Rattle.table_schema.specs.Firsts.{by_place}

abbrev pub invariant-loop-place : goal.invariant-loop-place
invariant-loop-place l =
    (by_place (λ before d. skip_place l.fields.all.now (at_place l.path (length before)) l.split d) (map view (take l.place l.items)) (map view (drop l.place l.items))
    ≡ skip_places l.fields.all.now l.path l.split (map view l.items))
    × (l.skips ≡ numbers_of l.fields.all.now (map view (take l.place l.items)))
