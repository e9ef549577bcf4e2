use Rattle.csv_ingest.proofs.UnicodeRows.{rows_are_unicode}
use Rattle.csv_ingest.proofs.laws.unicode_law.Goals as goal

pub returns : goal.returns
returns c = rows_are_unicode
