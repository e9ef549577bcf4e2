use Rattle.std.proofs.Common.{length, arith}
use Rattle.outside.specs.Seen.{seen}
use Rattle.segment_check.proofs.PackedLemmas.{list_appended, list_bytes, list_held, list_is, list_reads, on_ok}
use Rattle.segment_check.proofs.packed.read_list.Goals as goal

pub unpack-requires-clause-held : goal.unpack-requires-clause-held
unpack-requires-clause-held g c =
    list_held c.in-Ok.field-0 c.args.place.now c.args.range.width.bits c.args.range.from c.args.range.to (length c.args.list.now) c.read_bytes.new.buffer.items c.as_slice.result.now (seen g.S.Shelf c.args.shelf.now) (seen g.S.Shelf c.read_bytes.new.shelf) c.requires.first c.requires.room c.as_slice.ensures.value c.in-Ok.ensures c.args.range.order

pub returns-in-Ok-clause-held : goal.returns-in-Ok-clause-held
returns-in-Ok-clause-held g c = on_ok c.unpack.result (
    list_bytes c.in-Ok.field-0 c.args.place.now c.args.range.width.bits c.args.range.from c.args.range.to (length c.args.list.now) c.read_bytes.new.buffer.items c.as_slice.result.now (seen g.S.Shelf c.args.shelf.now) (seen g.S.Shelf c.read_bytes.new.shelf) c.requires.first c.requires.room c.as_slice.ensures.value c.in-Ok.ensures c.args.range.order)

pub returns-in-Ok-clause-list : goal.returns-in-Ok-clause-list
returns-in-Ok-clause-list g c =
    list_is c.in-Ok.field-0 c.args.place.now c.args.range.width.bits c.args.range.from c.args.range.to (length c.args.list.now) c.read_bytes.new.buffer.items c.as_slice.result.now (seen g.S.Shelf c.args.shelf.now) (seen g.S.Shelf c.read_bytes.new.shelf) c.requires.first c.requires.room c.as_slice.ensures.value c.in-Ok.ensures
    c.unpack.result c.unpack.new.ids c.unpack.ensures.ids

pub returns-in-Ok-clause-ids : goal.returns-in-Ok-clause-ids
returns-in-Ok-clause-ids g c =
    list_appended c.in-Ok.field-0 c.args.place.now c.args.range.width.bits c.args.range.from c.args.range.to (length c.args.list.now) c.read_bytes.new.buffer.items c.as_slice.result.now (seen g.S.Shelf c.args.shelf.now) (seen g.S.Shelf c.read_bytes.new.shelf) c.requires.first c.requires.room c.as_slice.ensures.value c.in-Ok.ensures
    c.unpack.result c.args.range.count c.unpack.new.ids c.args.range.width.least (omega (arith, c.requires.first, c.requires.some)) c.unpack.ensures.ids c.unpack.ensures.below

pub returns-in-Ok-clause-reads : goal.returns-in-Ok-clause-reads
returns-in-Ok-clause-reads g c =
    list_reads c.in-Ok.field-0 c.args.place.now c.args.range.width.bits c.args.range.from c.args.range.to (length c.args.list.now) c.read_bytes.new.buffer.items c.as_slice.result.now (seen g.S.Shelf c.args.shelf.now) (seen g.S.Shelf c.read_bytes.new.shelf) c.requires.first c.requires.room c.as_slice.ensures.value c.in-Ok.ensures
    c.unpack.result c.args.range.count c.args.range.width.least (omega (arith, c.requires.first, c.requires.some)) c.unpack.ensures.bad c.unpack.ensures.only

pub returns-in-Err-clause-reads : goal.returns-in-Err-clause-reads
returns-in-Err-clause-reads g c = c.in-Err.ensures.reads c.args.range.count
