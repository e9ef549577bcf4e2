use Rattle.std.proofs.Common.{◌≡◌, ◌≤◌, map, take, drop, length}
use Rattle.serde_json.specs.View.{view}
use Rattle.json_keys.specs.Faults.{at_place}
use Rattle.json_keys.specs.NamedColumns.{numbers_of}
use Rattle.settings_parts.specs.Trees.{split_place, split_places}
use Rattle.settings_parts.proofs.trees.split_places.Given as goal
use Rattle.table_schema.specs.Firsts.{by_place}

abbrev pub invariant-loop-place : goal.invariant-loop-place
invariant-loop-place l =
    (by_place (λ before d. split_place l.fields.all.now (at_place l.path (length before)) (numbers_of l.fields.all.now before) d) (map view (take l.place l.items)) (map view (drop l.place l.items))
    ≡ split_places l.fields.all.now l.path (map view l.items))
    × (l.split ≡ numbers_of l.fields.all.now (map view (take l.place l.items)))
    × (length l.split ≤ l.place)
