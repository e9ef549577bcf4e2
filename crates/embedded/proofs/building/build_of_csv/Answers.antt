use Rattle.std.proofs.Common.{◌∙◌, ap, arith}
use Rattle.outside.specs.Files.{with_file}
use Rattle.outside.specs.Seen.{Seen, seen}
use Rattle.values.specs.Columns.{rows_of}
use Rattle.segment_file.specs.Image.{image}
use Rattle.segment_file.specs.Names.{file_of}
use Rattle.table_store.proofs.CallLemmas.{looked_then}
use Rattle.embedded.specs.Rows.{csv_rows}
use Rattle.embedded.proofs.CallLemmas.{published, rows_given, unplaced}
use Rattle.embedded.proofs.building.build_of_csv.Goals as goal

pub returns-in-Err : goal.returns-in-Err
returns-in-Err g c =
    let e = c.in-Err.ensures in
    unplaced c.args.table.now c.args.name.now (csv_rows c.args.table.now.schema.fields c.args.csv.now) c.in-Err.fault (seen g.D.Shelf c.args.depot.now) (seen g.D.Shelf c.find_room.new.depot) e.place e.only e.looks

pub returns-in-Ok-publish : goal.returns-in-Ok-publish
returns-in-Ok-publish g c =
    let table = c.args.table.now in
    let fields = table.schema.fields in
    let csv = c.args.csv.now in
    let rows = rows_of c.in-Ok-csv_columns.columns in
    let made = c.in-Ok-csv_columns.ensures.made in
    let e = c.in-Ok-publish.ensures in
    let place = c.in-Ok.ensures.place in
    let looks = c.in-Ok.ensures.looks in
    let a : Seen = seen g.D.Shelf c.args.depot.now in
    let b : Seen = seen g.D.Shelf c.find_room.new.depot in
    let d : Seen = seen g.D.Shelf c.publish.new.depot in
    published table c.args.name.now (csv_rows fields csv) c.if-not-is_segment_name.ensures.named rows (rows_given fields csv (omega arith) rows c.in-Ok-csv_columns.ensures.rows) a d
    (record { fit = made.fit; unicode = made.unicode; trees = e.fits }) place.free place.room (e.published ∙ ap (with_file (file_of c.args.name.now) (image 1 table c.args.name.now rows)) looks.reads.held) (λ e. e) (λ w. cc)
    (looked_then _ ⊥ _ a b d (λ f. cc) (λ e. e) looks e.only_writes)
