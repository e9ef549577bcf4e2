use Rattle.std.proofs.Common.{rules, ◌≡◌, ◌+◌, ◌-◌, ◌*◌, ◌/◌, take, arith, refl, subst, sym, ap}
use Rattle.outside.specs.Reads.{LogsOn}
use Rattle.bit_column.specs.Sections.{first_byte, end_byte}
use Rattle.outside.proofs.ReadLemmas.{logs-none}
use Rattle.bit_column.proofs.Ranges.{range-beyond, range-order, end-of, part-read}
use Rattle.bit_column.proofs.ShortSteps.{few-bytes, few-long}
use Rattle.bit_column.proofs.range_bytes.read_short_range.Goals as goal

pub returns-then-end-place : goal.returns-then-end-place
returns-then-end-place g c = record {
  within = search rules;
  number = search rules;
  part = search rules;
  reads = λ count. record {
    only_reads = search rules;
    log = search rules;
    log_of_fault =
        let width = c.args.range.width.bits in
        let from = c.args.range.from in
        let to = c.args.range.to in
        let offset = c.args.place.now.offset in
        let log = g.S.Shelf.log c.args.shelf.now in
        logs-none c.args.place.now.file (offset + first_byte width from) (offset + end_byte width from to) log log
        (omega (arith, range-order width from to c.args.range.width.least c.requires.some, end-of width from to c.requires.some)) refl;
    past = search rules;
    bad = λ _.
        range-beyond (g.S.Shelf.held c.args.shelf.now) c.args.place.now c.args.range.width.bits
        count c.args.range.from c.args.range.to c.requires.some c.if-end-place.true;
  };
}

pub read_few-requires : goal.read_few-requires
read_few-requires g c = few-bytes c.args.range.width.bits c.args.range.from c.args.range.to c.args.range.order c.requires.few

pub returns-in-Ok : goal.returns-in-Ok
returns-in-Ok g c =
    let held = g.S.Shelf.held c.args.shelf.now in
    let place = c.args.place.now in
    let width = c.args.range.width.bits in
    let from = c.args.range.from in
    let to = c.args.range.to in
    let first = place.offset + from * width / 8 in
    let end = place.offset + (to * width + 7) / 8 in
    let bytes = take ((to * width + 7) / 8 - from * width / 8) c.read_few.new.bytes in
    let old = g.S.Shelf.log c.args.shelf.now in
    let new = g.S.Shelf.log c.read_few.new.shelf in
    let same : end ≡ place.offset + end_byte width from to = ap (λ n. place.offset + n) (sym (end-of width from to c.requires.some)) in
    record {
      within = omega (arith, c.if-end-place.false);
      number = few-long width from to c.read_few.new.bytes c.args.range.order c.requires.few c.read_few.array_long;
      part = part-read held c.as_str-name.result.now place.file first end bytes bytes c.as_str-name.ensures refl c.in-Ok.ensures.part;
      reads = λ count. record {
        only_reads = search rules;
        log = subst (λ n. LogsOn place.file first n old new) same (subst (λ name. LogsOn name first end old new) c.as_str-name.ensures c.in-Ok.ensures.log);
        log_of_fault = search rules;
        past = search rules;
        bad = search rules;
      };
    }
