use Rattle.command_model.proofs.WritingLemmas.{leaves_depot, leaves_state}
use Rattle.command_model.proofs.laws.may_write_law.Goals as goal

pub returns-clause-state : goal.returns-clause-state
returns-clause-state c = leaves_state

pub returns-clause-depot : goal.returns-clause-depot
returns-clause-depot c = leaves_depot
