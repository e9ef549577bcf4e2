use Rattle.std.proofs.Common.{refl}
use Rattle.command_model.specs.Generated.{generated_settings}
use Rattle.command_model.proofs.new_table.settings_text.Goals as goal

pub returns : goal.returns
unfolding generated_settings
returns c = refl
