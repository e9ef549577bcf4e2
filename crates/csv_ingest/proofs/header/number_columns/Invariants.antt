use Rattle.std.proofs.Common.{Bor, List, ℕ}
use Rattle.csv_ingest.specs.Names.{number_name}
use Rattle.csv_ingest.proofs.HeaderLemmas.{NamesTo}
use Rattle.csv_ingest.proofs.header.number_columns.Given as goal

abbrev pub invariant-names : goal.invariant-names
invariant-names l = NamesTo number_name (λ (f : Bor (List ℕ)). f.now) l.names l.i l.fields
