use Rattle.command_model.proofs.DumpBuild.{dump_build}
use Rattle.command_model.proofs.laws.dump_build_law.Goals as goal

pub returns : goal.returns
returns c = dump_build
