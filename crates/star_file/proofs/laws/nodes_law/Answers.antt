use Rattle.star_file.proofs.SectionLemmas.{section_back}
use Rattle.star_file.proofs.TreeLaws.{tree_keeps}
use Rattle.star_file.proofs.laws.nodes_law.Goals as goal

pub returns : goal.returns
returns c = record { trees = tree_keeps; sections = section_back }
