use Rattle.csv_ingest.proofs.PartRows.{last-within}
use Rattle.csv_ingest.proofs.parts.Part.len.Goals as goal

pub bounds-self-self : goal.bounds-self-self
bounds-self-self c = last-within c.args.self c.requires.is c.requires.some
