use Rattle.std.proofs.Common.{arith}
use Rattle.outside.specs.Seen.{seen}
use Rattle.bit_column.proofs.RangeSteps.{bits-held, bytes-appended, bytes-reads, none-appended}
use Rattle.bit_column.proofs.range.append_narrow.Goals as goal

pub returns-then-range-clause-ids : goal.returns-then-range-clause-ids
returns-then-range-clause-ids g c = none-appended (g.S.Shelf.held c.args.shelf.now) c.args.place.now c.args.range.width.bits c.args.range.count c.args.range.from c.args.range.to c.args.ids.now (omega arith)

pub append-requires-clause-held : goal.append-requires-clause-held
append-requires-clause-held g c =
    bits-held c.in-Ok.field-0 c.args.place.now c.args.range.width.bits c.args.range.from c.args.range.to c.first_bit-bit.result c.read_bytes.new.buffer.items c.as_slice.result.now
    (seen g.S.Shelf c.args.shelf.now) (seen g.S.Shelf c.read_bytes.new.shelf) c.first_bit-bit.ensures.is c.as_slice.ensures.value c.in-Ok.ensures c.args.range.order

pub returns-in-Ok-clause-ids : goal.returns-in-Ok-clause-ids
returns-in-Ok-clause-ids g c =
    bytes-appended c.in-Ok.field-0 c.args.place.now c.args.range.width.bits c.args.range.from c.args.range.to c.first_bit-bit.result c.read_bytes.new.buffer.items c.as_slice.result.now
    (seen g.S.Shelf c.args.shelf.now) (seen g.S.Shelf c.read_bytes.new.shelf) c.first_bit-bit.ensures.is c.as_slice.ensures.value c.in-Ok.ensures
    c.append.result c.args.range.count c.args.ids.now c.append.new.self c.args.range.width.least (omega arith) c.append.ensures.ids c.append.ensures.below

pub returns-in-Ok-clause-reads : goal.returns-in-Ok-clause-reads
returns-in-Ok-clause-reads g c =
    bytes-reads c.in-Ok.field-0 c.args.place.now c.args.range.width.bits c.args.range.from c.args.range.to c.first_bit-bit.result c.read_bytes.new.buffer.items c.as_slice.result.now
    (seen g.S.Shelf c.args.shelf.now) (seen g.S.Shelf c.read_bytes.new.shelf) c.first_bit-bit.ensures.is c.as_slice.ensures.value c.in-Ok.ensures
    c.append.result c.args.range.count c.args.range.width.least (omega arith) c.append.ensures.bad c.append.ensures.read

pub returns-in-Err-clause-reads : goal.returns-in-Err-clause-reads
returns-in-Err-clause-reads g c = c.in-Err.ensures.reads c.args.range.count
