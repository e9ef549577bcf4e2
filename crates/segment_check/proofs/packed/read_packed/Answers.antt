use Rattle.bit_column.specs.Column.{width_of}
use Rattle.outside.specs.Seen.{seen}
use Rattle.segment_check.proofs.PackedLemmas.{growth_range}
use Rattle.segment_check.proofs.packed.read_packed.Goals as goal

pub returns-in_err-resize-clause-reads : goal.returns-in_err-resize-clause-reads
returns-in_err-resize-clause-reads g c =
    growth_range c.from_residual.result c.args.place.now (width_of c.args.count) c.args.count c.args.rows (seen g.S.Shelf c.args.shelf.now) c.from_residual.ensures
