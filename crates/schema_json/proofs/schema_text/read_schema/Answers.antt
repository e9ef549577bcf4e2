use Rattle.serde_json.specs.View.{view}
use Rattle.schema_json.proofs.SchemaLaw.{gives_valid}
use Rattle.schema_json.proofs.schema_text.read_schema.Goals as goal

pub returns-clause-valid : goal.returns-clause-valid
returns-clause-valid c = gives_valid (view c.in_ok-json.json) c.schema_of.result c.schema_of.ensures
