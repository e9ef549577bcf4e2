use Rattle.std.proofs.Common.{rules, ◌≡◌, ◌∙◌, ◌*◌, ◌+◌, ◌++◌, ℕ, All, List, IfSome, ap, refl, subst, sym}
use Rattle.outside.specs.Reads.{LogsOn, LogsUpTo}
use Rattle.outside.specs.Seen.{Seen, seen}
use Rattle.outside.specs.declared.place.Place.{Place}
use Rattle.bit_column.specs.Column.{ids_between, width_of}
use Rattle.bit_column.specs.Sections.{Readable, end_byte, first_byte, section}
use Rattle.bit_column.specs.declared.fault.ColumnFault.{ColumnFault}
use Rattle.bit_column.specs.declared.fault.ColumnFault.TheVariants as columns
use Rattle.coded_columns.specs.Ids.{ids_in}
use Rattle.column_reader.proofs.BlockSteps.{blocks_bad, blocks_end, blocks_next, blocks_none, blocks_partly, blocks_start, narrow_width}
use Rattle.column_reader.proofs.FaultLemmas.{column_bad}
use Rattle.outside.proofs.SeenLemmas.{reads_well, err_is}
use Rattle.column_reader.proofs.reading.read_ids.Goals as goal

pub returns-in_err-room-clause-reads : goal.returns-in_err-room-clause-reads
returns-in_err-room-clause-reads g c = record {
  only_reads = search rules;
  log = search rules;
  log_of_fault =
      let log = g.S.Shelf.log c.args.shelf.now in
      let place : Place = c.args.place.now in
      let width : ℕ = width_of c.args.count in
      err_is c.from_residual.result (LogsUpTo place.file (place.offset + first_byte width 0) (place.offset + end_byte width 0 c.args.rows) log log) (blocks_none place width c.args.rows log);
}

pub returns-in-Err-clause-bad : goal.returns-in-Err-clause-bad
returns-in-Err-clause-bad g c = λ bad.
    let place : Place = c.args.place.now in
    let first : Seen = seen g.S.Shelf c.args.shelf.now in
    subst (λ w. IfSome first.held (λ files. ¬ Readable w c.args.count 0 c.args.rows (section files place))) c.width_for-width.ensures.width
    (blocks_bad place c.width_for-width.result c.args.count c.args.rows c.loop-at.at first (seen g.S.Shelf c.loop-at.shelf) (ids_in c.loop-at.room) c.block_end-to.result c.loop-at-test.true c.block_end-to.ensures c.loop-at.invariant.step
    (c.in-Err.ensures.reads.bad (column_bad (Unit {0}) (List ℕ) c.in-Err.fault c.args.column c.of_column.result c.of_column.ensures bad)))

pub returns-in-Err-clause-reads : goal.returns-in-Err-clause-reads
returns-in-Err-clause-reads g c = record {
  only_reads = search rules;
  log = tt;
  log_of_fault =
      let place : Place = c.args.place.now in
      let first : Seen = seen g.S.Shelf c.args.shelf.now in
      let next : Seen = seen g.S.Shelf c.append_block.new.shelf in
      subst (λ w. LogsUpTo place.file (place.offset + first_byte w 0) (place.offset + end_byte w 0 c.args.rows) first.log next.log) c.width_for-width.ensures.width
      (blocks_partly place c.width_for-width.result c.args.count c.args.rows c.loop-at.at first (seen g.S.Shelf c.loop-at.shelf) (ids_in c.loop-at.room) c.block_end-to.result next c.loop-at-test.true c.block_end-to.ensures c.loop-at.invariant.step
      c.in-Err.ensures.reads.log_of_fault);
}

pub loop-at-init : goal.loop-at-init
loop-at-init g c = record {
  step = blocks_start c.args.place.now c.width_for-width.result c.args.count c.args.rows 0 (seen g.S.Shelf c.args.shelf.now) (ids_in c.in_ok-room.room) refl c.in_ok-room.ensures.none;
  narrow = narrow_width c.args.count c.width_for-width.result c.in_ok-room.room c.width_for-width.ensures.least c.in_ok-room.ensures.room;
}

pub loop-at-preserved : goal.loop-at-preserved
loop-at-preserved g c =
    let now : Seen = seen g.S.Shelf c.loop-at.shelf in
    let next : Seen = seen g.S.Shelf c.append_block.new.shelf in
    record {
      step = blocks_next c.args.place.now c.width_for-width.result c.args.count c.args.rows c.loop-at.at (seen g.S.Shelf c.args.shelf.now) now (ids_in c.loop-at.room) c.block_end-to.result next (ids_in c.append_block.new.room)
          c.loop-at-test.true c.block_end-to.ensures c.loop-at.invariant.step (reads_well (Unit {0}) ColumnFault c.in-Ok.field-0 columns.ReadFault now next c.in-Ok.ensures.reads.only_reads) c.in-Ok.ensures.reads.log c.in-Ok.ensures.ids;
      narrow = λ narrow. c.loop-at.invariant.narrow (c.append_block.ensures.narrow narrow);
    }

pub returns-clause-ids : goal.returns-clause-ids
returns-clause-ids g c =
    let place : Place = c.args.place.now in
    let first : Seen = seen g.S.Shelf c.args.shelf.now in
    let end = blocks_end place c.width_for-width.result c.args.count c.args.rows c.loop-at.at first (seen g.S.Shelf c.loop-at.shelf) (ids_in c.loop-at.room) c.loop-at-test.false c.loop-at.invariant.step in
    let is : c.into_ids.result ≡ end.appended.ids = c.into_ids.ensures ∙ end.appended.appended in
    subst (λ w. IfSome first.held (λ files. Readable w c.args.count 0 c.args.rows (section files place) × (c.into_ids.result ≡ ids_between w 0 c.args.rows (section files place)))) c.width_for-width.ensures.width
    (subst (λ (l : List ℕ). IfSome first.held (λ files. Readable c.width_for-width.result c.args.count 0 c.args.rows (section files place) × (l ≡ ids_between c.width_for-width.result 0 c.args.rows (section files place)))) (sym is) end.appended.told)

pub returns-clause-reads : goal.returns-clause-reads
returns-clause-reads g c = record {
  only_reads = search rules;
  log =
      let place : Place = c.args.place.now in
      let first : Seen = seen g.S.Shelf c.args.shelf.now in
      let now : Seen = seen g.S.Shelf c.loop-at.shelf in
      let end = blocks_end place c.width_for-width.result c.args.count c.args.rows c.loop-at.at first now (ids_in c.loop-at.room) c.loop-at-test.false c.loop-at.invariant.step in
      subst (λ w. LogsOn place.file (place.offset + first_byte w 0) (place.offset + end_byte w 0 c.args.rows) first.log now.log) c.width_for-width.ensures.width end.log;
  log_of_fault = tt;
}
