use Rattle.std.proofs.Common.{Bor, List, ℕ}
use Rattle.csv_ingest.specs.Names.{schema_name}
use Rattle.csv_ingest.proofs.HeaderLemmas.{NamesTo}
use Rattle.csv_ingest.proofs.header.check_names.Given as goal

abbrev pub invariant-names : goal.invariant-names
invariant-names l = (done : List (List ℕ)) × NamesTo (schema_name l.fields) (λ (f : Bor (List ℕ)). f.now) l.names l.i done
