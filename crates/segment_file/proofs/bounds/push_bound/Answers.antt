use Rattle.std.proofs.Common.{arith, subst}
use Rattle.segment_file.specs.Bounds.{IsShort}
use Rattle.segment_file.proofs.bounds.push_bound.Goals as goal

pub overflow_cast-len : goal.overflow_cast-len
overflow_cast-len c = let short = subst IsShort c.in-Text.is c.requires in omega arith
