use Rattle.std.proofs.Common.{◌≡◌, take, true}
use Rattle.std.specs.List.{list_all}
use Rattle.csv_ingest.specs.Lines.{is_bare}
use Rattle.csv_ingest.proofs.first_line.header_end.Given as goal

abbrev pub invariant-bytes : goal.invariant-bytes
invariant-bytes l = list_all is_bare (take l.i l.text) ≡ true
