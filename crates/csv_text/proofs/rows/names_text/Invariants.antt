use Rattle.std.proofs.Common.{◌≡◌, take}
use Rattle.csv.specs.Writing.{default_writer, row_body}
use Rattle.csv_text.specs.Rows.{names_of}
use Rattle.csv_text.proofs.rows.names_text.Given as goal

abbrev pub invariant-names : goal.invariant-names
invariant-names l = l.text.items ≡ row_body default_writer (names_of (take l.at l.fields))
