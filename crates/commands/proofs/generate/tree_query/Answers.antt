use Rattle.std.proofs.Common.{refl}
use Rattle.command_model.specs.Generated.{tree_query}
use Rattle.commands.proofs.generate.tree_query.Goals as goal

pub returns : goal.returns
unfolding tree_query
returns c = refl
