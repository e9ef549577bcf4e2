use Rattle.std.proofs.Common.{◌≡◌, drop}
use Rattle.segment_opening.specs.Wanted.{is_whole_from}
use Rattle.segment_opening.proofs.wanted.is_whole.Given as goal

abbrev pub invariant-loop-level : goal.invariant-loop-level
invariant-loop-level l = is_whole_from l.query l.tree.shape 0 l.tree.split l.column ≡ is_whole_from l.query l.tree.shape l.level (drop l.level l.tree.split) l.column
