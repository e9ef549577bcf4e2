use Rattle.std.proofs.Common.{◌≡◌, true}
use Rattle.csv_ingest.specs.Plain.{AreShort}
use Rattle.csv_ingest.proofs.plain.are_short.Given as goal

abbrev pub invariant-places : goal.invariant-places
invariant-places l = l.all ≡ true → AreShort l.places l.i
