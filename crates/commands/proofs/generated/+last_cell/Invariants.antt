use Rattle.std.proofs.Common.{length}
use Rattle.commands.proofs.generated.+last_cell.Given as goal

abbrev pub decreases-last_cell : goal.decreases-last_cell
decreases-last_cell l = length l.text.now
