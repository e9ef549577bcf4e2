use Rattle.segment_scan.proofs.LeastLemmas.{least_read}
use Rattle.segment_scan.proofs.scan_laws.least_read_law.Goals as goal

pub returns : goal.returns
returns c = λ query table name file bytes whole head column held count before entries full part of_table loaded looked logs.
    least_read query table head column looked name file bytes whole held count before entries full part of_table loaded logs
