use Rattle.std.proofs.Common.{length}
use Rattle.data_types.proofs.text_index.hash_of.Given as goal

abbrev pub decreases-loop-word : goal.decreases-loop-word
decreases-loop-word l = length l.rest
