use Rattle.std.proofs.Common.{◌∙◌, ap, length, sym}
use Rattle.outside.specs.Seen.{seen}
use Rattle.segment_plan.specs.Matched.{values_of}
use Rattle.column_reader.proofs.LogLemmas.{forward_reads}
use Rattle.column_reader.proofs.reading.read_column.Goals as goal

pub returns-clause-reads : goal.returns-clause-reads
returns-clause-reads g c =
    forward_reads c.read_ids.result c.args.head.now c.args.column c.count-count.result c.rows.result c.in-Some.place.now (seen g.S.Shelf c.args.shelf.now) (seen g.S.Shelf c.read_ids.new.shelf) c.in-Some.ensures
    (c.count-count.ensures.count ∙ sym (ap (λ o. length (values_of o)) c.dictionary.ensures)) c.rows.ensures c.read_ids.ensures.reads
