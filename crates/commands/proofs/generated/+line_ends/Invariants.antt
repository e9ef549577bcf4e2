use Rattle.std.proofs.Common.{length}
use Rattle.commands.proofs.generated.+line_ends.Given as goal

abbrev pub decreases-line_ends : goal.decreases-line_ends
decreases-line_ends l = length l.text.now
