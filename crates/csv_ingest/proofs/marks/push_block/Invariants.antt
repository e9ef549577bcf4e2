use Rattle.std.proofs.Common.{take, drop}
use Rattle.csv_ingest.proofs.PlaceLemmas.{Taken}
use Rattle.csv_ingest.specs.Places.{is_separator}
use Rattle.csv_ingest.proofs.marks.push_block.Given as goal

abbrev pub invariant-bits : goal.invariant-bits
invariant-bits l = Taken is_separator (take 64 (drop l.fn.at l.fn.text)) l.fn.at l.left l.initial.out.items l.out.items

abbrev pub decreases-bits : goal.decreases-bits
decreases-bits l = l.left
