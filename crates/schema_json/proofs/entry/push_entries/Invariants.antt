use Rattle.std.proofs.Common.{◌≡◌, ◌++◌, map, drop}
use Rattle.serde_json.specs.View.{view}
use Rattle.schema_json.specs.Fields.{entries_from}
use Rattle.schema_json.specs.Entries.{seen}
use Rattle.schema_json.proofs.entry.push_entries.Given as goal

abbrev pub invariant-loop-place : goal.invariant-loop-place
invariant-loop-place l =
    map seen l.entries.items ++ entries_from l.role l.place (map view (drop l.place l.items))
    ≡ map seen l.initial.entries.items ++ entries_from l.role 0 (map view l.items)
