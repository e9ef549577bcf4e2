use Rattle.outside.specs.Seen.{seen}
use Rattle.segment_check.proofs.PackedLemmas.{copied_reads}
use Rattle.segment_check.proofs.coded.read_narrow.Goals as goal

pub returns-in-Ok-clause-reads : goal.returns-in-Ok-clause-reads
returns-in-Ok-clause-reads g c =
    copied_reads c.in-Ok.field-0 c.copied.result c.args.place.now c.args.range.width.bits c.args.range.count c.args.range.from c.args.range.to (seen g.S.Shelf c.args.shelf.now) (seen g.S.Shelf c.append_narrow.new.shelf) c.copied.ensures.only c.in-Ok.ensures.reads
