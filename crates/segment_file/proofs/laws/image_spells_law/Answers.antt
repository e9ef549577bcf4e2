use Rattle.segment_file.proofs.ImageSpells.{image_spells}
use Rattle.segment_file.proofs.laws.image_spells_law.Goals as goal

pub returns : goal.returns
returns c = image_spells
