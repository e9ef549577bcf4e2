use Rattle.std.proofs.Common.{◌≡◌, map, take, Some}
use Rattle.segment_file.specs.Names.{file_of}
use Rattle.cursors.proofs.opening.live_files.Given as goal

abbrev pub invariant-loop-name : goal.invariant-loop-name
invariant-loop-name l = l.files.items ≡ map (λ name. Some (file_of name)) (take l.name-index l.names)
