use Rattle.dictionary.proofs.Spells.{spells_one}
use Rattle.dictionary.proofs.laws.spells_one_law.Goals as goal

pub returns : goal.returns
returns c = spells_one
