use Rattle.csv_ingest.proofs.KeptBlocks.{next-all}
use Rattle.csv_ingest.proofs.blocks.NumberBlocks.next.Goals as goal

pub returns-clause-ok : goal.returns-clause-ok
returns-clause-ok c = next-all c.args.self.now c.next_kept.new.self c.next_kept.result c.next_kept.ensures.ok
