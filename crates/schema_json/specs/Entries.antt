-- A place of a list, as the code holds it.
use Rattle.serde_json.specs.View.{view}
use Rattle.schema_json.specs.declared.entry.Entry.{Entry}
use Rattle.schema_json.specs.Fields as fields

-- an entry of a schema's list as the definitions have it
abbrev pub seen : Entry → fields.Entry
seen e = record { role = e.role; place = e.place; json = view e.json.now }
