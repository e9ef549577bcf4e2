use Rattle.std.proofs.Common.{◌≡◌, map, take, drop, length}
use Rattle.serde_json.specs.View.{view}
use Rattle.json_keys.specs.Faults.{at_place}
use Rattle.settings_parts.specs.Pairs.{pair_finding, pair_places, pairs_from, pairs_of}
use Rattle.settings_parts.proofs.pairs.kept_pairs.Given as goal
use Rattle.table_schema.specs.Firsts.{by_place}

abbrev pub invariant-loop-place : goal.invariant-loop-place
invariant-loop-place l =
    (by_place (λ before d. pair_finding l.fields.all.now (at_place l.path (length before)) d) (map view (take l.place l.items)) (map view (drop l.place l.items))
    ≡ pair_places l.fields.all.now l.path (map view l.items))
    × (pairs_from l.fields.all.now l.kept (map view (drop l.place l.items)) ≡ pairs_of l.fields.all.now (map view l.items))
