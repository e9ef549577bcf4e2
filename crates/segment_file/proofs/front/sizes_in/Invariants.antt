use Rattle.std.proofs.Common.{◌≡◌, ◌*◌, ◌++◌, drop}
use Rattle.segment_file.specs.Reading.{sizes_from}
use Rattle.segment_file.proofs.front.sizes_in.Given as goal

abbrev pub invariant-loop-at : goal.invariant-loop-at
invariant-loop-at l = l.sizes.items ++ sizes_from (drop l.at l.sections) (drop (19 * l.at) l.directory) ≡ sizes_from l.sections l.directory
