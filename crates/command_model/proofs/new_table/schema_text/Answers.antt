use Rattle.std.proofs.Common.{refl}
use Rattle.command_model.specs.Generated.{generated_schema}
use Rattle.command_model.proofs.new_table.schema_text.Goals as goal

pub returns : goal.returns
unfolding generated_schema
returns c = refl
