use Rattle.schema_json.proofs.SchemaLaw.{schema_valid}
use Rattle.schema_json.proofs.laws.schema_law.Goals as goal

pub returns : goal.returns
returns c = schema_valid
