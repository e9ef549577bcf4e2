use Rattle.std.proofs.Common.{◌≡◌, ◌≤◌, ◌<◌, ◌+◌, ◌-◌, [], true, false, Ok, refl, arith}
use Rattle.csv.specs.Records.{fields_of}
use Rattle.csv_ingest.specs.Blocks.{IsFullBlock, IsLastBlock, rows_from}
use Rattle.csv_ingest.specs.Reading.{records_left}
use Rattle.csv_ingest.proofs.BlockLemmas.{at-full, at-last, next-full, next-last, nothing-left}
use Rattle.csv_ingest.proofs.LineBlocks.{by-records}
use Rattle.csv_ingest.proofs.NumberLemmas.{number-columns}
use Rattle.csv_ingest.proofs.blocks.NumberBlocks.next_records.Goals as goal

pub returns-then-last-clause-ok : goal.returns-then-last-clause-ok
returns-then-last-clause-ok c = λ whole h.
    let me = c.args.self.now in
    let some : 0 < me.left = omega (arith, c.requires.room.0, c.requires.room.1) in
    let le : c.args.room ≤ me.left = c.requires.room.1 in
    let r = by-records me.header.fields (fields_of me.header.names) me.before me.left whole me.source c.in-Records.reader c.in-Records.is (h.some some) in
    let e : c.in-Ok.field-0.last ≡ true = cc in
    let b = at-last c.in-Ok.field-0.last (IsLastBlock me.header.fields (fields_of me.header.names) me.before c.args.room c.in-Records.reader r.rest c.in-Ok.field-0.columns)
    (IsFullBlock me.header.fields (fields_of me.header.names) me.before c.args.room c.in-Records.reader c.next_block.new.reader r.rest c.in-Ok.field-0.columns) e (c.in-Ok.ensures.ok r.rest r.reads) in (
      Ok [],
      record { none = λ _. refl; some = λ lt. absurd (omega (arith, lt)) },
      next-last me.header.fields (fields_of me.header.names) me.before c.args.room me.left c.in-Records.reader r.rest c.in-Ok.field-0.columns whole le b r.is,
    )

pub returns-else-last-clause-ok : goal.returns-else-last-clause-ok
returns-else-last-clause-ok c = λ whole h.
    let me = c.args.self.now in
    let some : 0 < me.left = omega (arith, c.requires.room.0, c.requires.room.1) in
    let le : c.args.room ≤ me.left = c.requires.room.1 in
    let r = by-records me.header.fields (fields_of me.header.names) me.before me.left whole me.source c.in-Records.reader c.in-Records.is (h.some some) in
    let e : c.in-Ok.field-0.last ≡ false = cc in
    let b = at-full c.in-Ok.field-0.last (IsLastBlock me.header.fields (fields_of me.header.names) me.before c.args.room c.in-Records.reader r.rest c.in-Ok.field-0.columns)
    (IsFullBlock me.header.fields (fields_of me.header.names) me.before c.args.room c.in-Records.reader c.next_block.new.reader r.rest c.in-Ok.field-0.columns) e (c.in-Ok.ensures.ok r.rest r.reads) in (
      rows_from (me.before + c.args.room) me.header.fields (fields_of me.header.names) (records_left (me.left - c.args.room) c.next_block.new.reader b.block.left),
      record {
        none = λ z. nothing-left me.header.fields (fields_of me.header.names) (me.before + c.args.room) (me.left - c.args.room) c.next_block.new.reader b.block.left z;
        some = λ _. record { rest = b.block.left; reads = b.block.reads; is = refl };
      },
      next-full me.header.fields (fields_of me.header.names) me.before c.args.room me.left c.in-Records.reader c.next_block.new.reader r.rest c.in-Ok.field-0.columns whole le b r.is,
    )

pub returns-then-last-clause-numbers : goal.returns-then-last-clause-numbers
returns-then-last-clause-numbers c = number-columns (fields_of c.args.self.now.header.names) c.args.self.now.header.fields c.in-Ok.field-0.columns.columns c.requires.is.header.fields c.in-Ok.ensures.sorts

pub returns-else-last-clause-numbers : goal.returns-else-last-clause-numbers
returns-else-last-clause-numbers c = number-columns (fields_of c.args.self.now.header.names) c.args.self.now.header.fields c.in-Ok.field-0.columns.columns c.requires.is.header.fields c.in-Ok.ensures.sorts
