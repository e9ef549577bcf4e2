use Rattle.csv_ingest.proofs.ReadingLemmas.{shows}
use Rattle.csv_ingest.proofs.records.next_record.Goals as goal

pub returns : goal.returns
returns c = λ rest r.
    shows c.args.reader.now c.read_byte_record.new.self _ rest c.in-Ok.found r (c.in-Ok.ensures.ready r.trims_nothing) (c.in-Ok.ensures.reads r.trims_nothing r.ready)
