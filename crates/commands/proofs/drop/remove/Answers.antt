use Rattle.std.proofs.Common.{◌∷◌, []}
use Rattle.segment_build.specs.Publishing.{incoming}
use Rattle.segment_file.specs.Names.{file_of}
use Rattle.commands.proofs.DropLemmas.{kept_these, taken_these}
use Rattle.commands.proofs.drop.remove.Goals as goal

pub returns-in-Ok-clause-writes : goal.returns-in-Ok-clause-writes
returns-in-Ok-clause-writes g c = record {
  held = taken_these (file_of c.args.name.now) (g.D.Shelf.held c.args.depot.now) (g.D.Shelf.held c.drop_segment.new.depot) c.in-Ok.ensures.dropped;
  parts = kept_these (incoming ∷ []) (g.D.Shelf.parts c.args.depot.now) (g.D.Shelf.parts c.drop_segment.new.depot) c.drop_segment.ensures.only_removes.parts;
  reads_later = c.drop_segment.ensures.only_removes.reads_later;
  writes_later = c.drop_segment.ensures.only_removes.writes_later;
  log = c.drop_segment.ensures.only_removes.log;
}
