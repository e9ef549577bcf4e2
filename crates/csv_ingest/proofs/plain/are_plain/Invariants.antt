use Rattle.std.proofs.Common.{◌≡◌, true}
use Rattle.csv_ingest.specs.Plain.{ArePlain}
use Rattle.csv_ingest.proofs.plain.are_plain.Given as goal

abbrev pub invariant-bytes : goal.invariant-bytes
invariant-bytes l = l.all ≡ true → ArePlain l.text l.i
