use Rattle.csv_ingest.proofs.MarkedLines.{mark-within}
use Rattle.csv_ingest.proofs.parts.mark.Goals as goal

pub bounds-text-places : goal.bounds-text-places
bounds-text-places c = mark-within c.args.text.now c.args.places.now c.requires.marks c.args.i c.requires.within
