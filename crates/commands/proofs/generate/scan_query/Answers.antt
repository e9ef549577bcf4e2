use Rattle.std.proofs.Common.{refl}
use Rattle.command_model.specs.Generated.{scan_query, tree_query}
use Rattle.commands.proofs.generate.scan_query.Goals as goal

pub returns : goal.returns
unfolding scan_query tree_query
returns c = refl
