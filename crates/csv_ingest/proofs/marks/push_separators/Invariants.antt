use Rattle.std.proofs.Common.{◌≡◌, ◌*◌, ◌++◌, take}
use Rattle.csv_ingest.specs.Places.{is_separator, places}
use Rattle.csv_ingest.proofs.marks.push_separators.Given as goal

abbrev pub invariant-parts : goal.invariant-parts
invariant-parts l = l.out.items ≡ l.initial.out.items ++ places is_separator 0 (take (l.i * 64) l.text)

abbrev pub invariant-bytes : goal.invariant-bytes
invariant-bytes l = l.out.items ≡ l.fn.out.items ++ places is_separator 0 (take l.at l.text)
