use Rattle.std.proofs.Common.{◌≡◌, map, take, drop, length}
use Rattle.serde_json.specs.View.{view}
use Rattle.json_keys.specs.Faults.{at_place}
use Rattle.settings_parts.specs.Trees.{tree_finding, tree_places, tree_of}
use Rattle.settings_parts.proofs.trees.tree_places.Given as goal
use Rattle.table_schema.specs.Firsts.{by_place}

abbrev pub invariant-loop-place : goal.invariant-loop-place
invariant-loop-place l =
    (by_place (λ before d. tree_finding l.fields.all.now (at_place l.path (length before)) d) (map view (take l.place l.items)) (map view (drop l.place l.items))
    ≡ tree_places l.fields.all.now l.path (map view l.items))
    × (l.trees ≡ map (tree_of l.fields.all.now) (map view (take l.place l.items)))
