use Rattle.std.proofs.Common.{◌≡◌, ◌∙◌, inl, Ok, Err, sym, ap}
use Rattle.outside.specs.Seen.{seen}
use Rattle.segment_file.specs.declared.fault.HeadFault.TheVariants as head
use Rattle.segment_head.specs.declared.fault.EngineFault.TheVariants as engine
use Rattle.segment_head.specs.Faults.{fault_of}
use Rattle.segment_head.proofs.FaultLemmas.{bad_head, never_full, read_head}
use Rattle.segment_opening.proofs.HeadLemmas.{broken_none, has_opening, opened_image, opened_spread, opens_as}
use Rattle.segment_reads.proofs.LogLemmas.{opened_ends, opened_log, reads_as}
use Rattle.segment_opening.proofs.opening.open_segment.Goals as goal

pub returns-in-Ok-clause-opened : goal.returns-in-Ok-clause-opened
returns-in-Ok-clause-opened g c =
    let table = c.args.table.now in
    let segment = c.args.segment.now in
    let held = g.S.Shelf.held c.args.shelf.now in
    let head = c.in-Ok.head in
    let opens = opens_as table segment c.as_str-name.result.now c.as_str-file.result.now (seen g.S.Shelf c.args.shelf.now) (seen g.S.Shelf c.open_head.new.shelf) (Ok head) c.as_str-name.ensures c.as_str-file.ensures c.in-Ok.ensures in
    record {
      of = opens.of;
      placed = opens.placed;
      image = opened_image c.image_keeps_law.ensures table c.requires.valid segment c.requires.name held head opens.part;
      ends = opened_ends table segment held head opens.opened;
      spread = opened_spread c.image_keeps_law.ensures table c.requires.valid segment c.requires.name held head opens.part;
      opening = has_opening table segment held head opens.opened;
      said = opens.opened;
    }

pub returns-in-Ok-clause-looks : goal.returns-in-Ok-clause-looks
returns-in-Ok-clause-looks g c =
    let segment = c.args.segment.now in
    let opens = opens_as c.args.table.now segment c.as_str-name.result.now c.as_str-file.result.now (seen g.S.Shelf c.args.shelf.now) (seen g.S.Shelf c.open_head.new.shelf) (Ok c.in-Ok.head) c.as_str-name.ensures c.as_str-file.ensures c.in-Ok.ensures in
    record {
      bad = λ part is. absurd cc;
      never_full = λ is. cc;
      only_reads = reads_as (seen g.S.Shelf c.args.shelf.now) (seen g.S.Shelf c.open_head.new.shelf) opens.only_reads (λ e. absurd cc) (λ e. absurd cc);
      log = opened_log c.args.table.now segment (g.S.Shelf.held c.args.shelf.now) (g.S.Shelf.log c.args.shelf.now) (g.S.Shelf.log c.open_head.new.shelf) opens.log;
    }

pub returns-in-Err-clause-looks : goal.returns-in-Err-clause-looks
returns-in-Err-clause-looks g c =
    let segment = c.args.segment.now in
    let opens = opens_as c.args.table.now segment c.as_str-name.result.now c.as_str-file.result.now (seen g.S.Shelf c.args.shelf.now) (seen g.S.Shelf c.open_head.new.shelf) (Err c.in-Err.fault) c.as_str-name.ensures c.as_str-file.ensures c.in-Err.ensures in
    record {
      bad = λ part is.
          let own : c.engine_fault.result ≡ engine.NotASegment part = cc in
          let fault = bad_head c.in-Err.fault part (sym c.engine_fault.ensures ∙ own) in (
            inl (opens.named part fault, opens.first part fault),
            broken_none c.image_keeps_law.ensures c.args.table.now c.requires.valid segment c.requires.name (g.S.Shelf.held c.args.shelf.now) (opens.refused part fault),
          );
      never_full = λ is. let own : c.engine_fault.result ≡ engine.TooManyGroups = cc in never_full c.in-Err.fault (sym c.engine_fault.ensures ∙ own);
      only_reads = reads_as (seen g.S.Shelf c.args.shelf.now) (seen g.S.Shelf c.open_head.new.shelf) opens.only_reads
          (λ e. let own : c.engine_fault.result ≡ engine.ReadFault = cc in ap Err (read_head c.in-Err.fault (sym c.engine_fault.ensures ∙ own)))
          (λ e. let own : c.in-Err.fault ≡ head.ReadFault = cc in ap Err (c.engine_fault.ensures ∙ ap fault_of own));
      log = opened_log c.args.table.now segment (g.S.Shelf.held c.args.shelf.now) (g.S.Shelf.log c.args.shelf.now) (g.S.Shelf.log c.open_head.new.shelf) opens.log;
    }

pub returns-in-Ok-clause-first : goal.returns-in-Ok-clause-first
returns-in-Ok-clause-first g c = λ part is. absurd cc

pub returns-in-Err-clause-first : goal.returns-in-Err-clause-first
returns-in-Err-clause-first g c = λ part is.
    let own : c.engine_fault.result ≡ engine.NotASegment part = cc in
    let fault = bad_head c.in-Err.fault part (sym c.engine_fault.ensures ∙ own) in
    let opens = opens_as c.args.table.now c.args.segment.now c.as_str-name.result.now c.as_str-file.result.now (seen g.S.Shelf c.args.shelf.now) (seen g.S.Shelf c.open_head.new.shelf) (Err c.in-Err.fault) c.as_str-name.ensures c.as_str-file.ensures c.in-Err.ensures in
    (opens.named part fault, opens.first part fault)
