use Rattle.std.proofs.Common.{rules, ◌+◌, arith, refl}
use Rattle.outside.specs.Reads.{LogsUpTo}
use Rattle.bit_column.specs.Sections.{first_byte, end_byte}
use Rattle.outside.proofs.ReadLemmas.{logs-none, on-err}
use Rattle.bit_column.proofs.Ranges.{range-beyond, range-order, end-of}
use Rattle.bit_column.proofs.range_bytes.read_bytes.Goals as goal

pub returns-then-end-place : goal.returns-then-end-place
returns-then-end-place g c = record {
  within = search rules;
  number = search rules;
  part = search rules;
  reads = λ count. record {
    only_reads = search rules;
    log = search rules;
    log_of_fault =
        let width = c.args.range.width.bits in
        let from = c.args.range.from in
        let to = c.args.range.to in
        let offset = c.args.place.now.offset in
        let log = g.S.Shelf.log c.args.shelf.now in
        logs-none c.args.place.now.file (offset + first_byte width from) (offset + end_byte width from to) log log
        (omega (arith, range-order width from to c.args.range.width.least c.requires, end-of width from to c.requires)) refl;
    past = search rules;
    bad = λ _.
        range-beyond (g.S.Shelf.held c.args.shelf.now) c.args.place.now c.args.range.width.bits
        count c.args.range.from c.args.range.to c.requires c.if-end-place.true;
  };
}

pub returns-in_err-resize : goal.returns-in_err-resize
returns-in_err-resize g c = record {
  within = search rules;
  number = search rules;
  part = search rules;
  reads = λ count. record {
    only_reads = search rules;
    log = search rules;
    log_of_fault =
        let width = c.args.range.width.bits in
        let from = c.args.range.from in
        let to = c.args.range.to in
        let offset = c.args.place.now.offset in
        let log = g.S.Shelf.log c.args.shelf.now in
        on-err c.from_residual.result (LogsUpTo c.args.place.now.file (offset + first_byte width from) (offset + end_byte width from to) log log)
        (logs-none c.args.place.now.file (offset + first_byte width from) (offset + end_byte width from to) log log
        (omega (arith, range-order width from to c.args.range.width.least c.requires, end-of width from to c.requires)) refl);
    past = search rules;
    bad = search rules;
  };
}
