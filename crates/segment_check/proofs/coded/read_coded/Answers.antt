use Rattle.std.proofs.Common.{◌≡◌, ◌∙◌, ◌<◌, ◌+◌, ℕ, List, [], ◌∷◌, length, map, All, IfSome, refl, sym, ap, subst, arith}
use Rattle.std.proofs.lemmas.List.{map-append}
use Rattle.std.proofs.lemmas.List.Elements.{All-nil, All-push}
use Rattle.outside.specs.Seen.{Seen, seen}
use Rattle.outside.proofs.SeenLemmas.{reads_after, reads_none, reads_so}
use Rattle.csv_text.specs.Coded.{IsCodedColumn, listed}
use Rattle.csv_text.specs.declared.coded.CodedColumn.{CodedColumn}
use Rattle.segment_file.specs.declared.part.Part.TheVariants as parts
use Rattle.segment_file.proofs.Faults.{growth_bad, growth_ok, growth_reads, reads_ended, reads_err, reads_well}
use Rattle.segment_build.specs.FileReads.{file_then, file_unread}
use Rattle.segment_check.specs.Reading.{AreColumns, FailsColumn, HasIdsOf, IsColumn}
use Rattle.segment_check.proofs.ColumnLemmas.{columns_have, columns_more}
use Rattle.segment_check.proofs.HeadLemmas.{forward_placed}
use Rattle.segment_check.proofs.RowLemmas.{dictionary_of_head, own_dictionary}
use Rattle.segment_check.proofs.Once.{columns_end, columns_next, columns_start}
use Rattle.segment_check.proofs.coded.read_coded.Goals as goal

pub read_coded_column-requires-clause-loaded : goal.read_coded_column-requires-clause-loaded
read_coded_column-requires-clause-loaded g c =
    let table = c.args.table.now in
    let is = c.requires.is.head_is in
    let lt : c.columns.at < length table.schema.fields = omega (arith, c.columns-test.true, c.len-count.ensures) in
    (dictionary_of_head table c.args.name.now c.requires.file c.requires.bytes c.args.read.now.head is c.columns.at, (own_dictionary table c.args.name.now c.requires.file c.requires.bytes c.args.read.now.head c.columns.at is lt).at)

pub read_coded_column-requires-clause-placed : goal.read_coded_column-requires-clause-placed
read_coded_column-requires-clause-placed g c =
    let lt : c.columns.at < length c.args.table.now.schema.fields = omega (arith, c.columns-test.true, c.len-count.ensures) in
    forward_placed c.args.table.now c.args.name.now c.requires.file c.requires.bytes c.args.read.now.head c.columns.at c.requires.is.head_is lt

pub columns-init : goal.columns-init
columns-init g c = record {
  coded = subst (All (IsCodedColumn c.args.read.now.head.rows)) (sym c.new-columns.ensures.items) (All-nil (IsCodedColumn c.args.read.now.head.rows));
  columns = record {
    many = ap (λ (l : List CodedColumn). length (map listed l)) c.new-columns.ensures.items;
    each = λ column d lt. absurd (omega (arith, lt));
  };
  only_reads = reads_none (seen g.S.Shelf c.args.shelf.now);
  log = λ file within. file_unread file (g.S.Shelf.log c.args.shelf.now) (g.S.Shelf.log c.args.shelf.now) refl;
  once = columns_start c.args.table.now c.args.read.now.head (g.S.Shelf.log c.args.shelf.now) (g.S.Shelf.log c.args.shelf.now) refl;
}

pub columns-preserved : goal.columns-preserved
columns-preserved g c =
    let held = g.S.Shelf.held c.args.shelf.now in
    let head = c.args.read.now.head in
    let old : Seen = seen g.S.Shelf c.args.shelf.now in
    let mid : Seen = seen g.S.Shelf c.columns.shelf in
    let now : Seen = seen g.S.Shelf c.read_coded_column.new.shelf in
    let before : List CodedColumn = c.columns.columns.items in
    let column : CodedColumn = c.in-Ok.column in
    let own = c.in-Ok.ensures.reads in
    let kept = c.in_default.ensures in
    record {
      coded = subst (All (IsCodedColumn head.rows)) (sym kept) (All-push (IsCodedColumn head.rows) before column c.columns.invariant.coded own.coded);
      columns = subst (AreColumns held head (c.columns.at + 1)) (sym (ap (map listed) kept ∙ map-append listed before (column ∷ [])))
          (columns_more held head c.columns.at (map listed before) (listed column) c.columns.invariant.columns
          (λ d loaded. subst (λ h. IsColumn h head c.columns.at d (listed column).values) c.columns.invariant.only_reads.held (own.column_is d loaded)));
      only_reads = reads_after ⊥ old mid now c.columns.invariant.only_reads (reads_well column mid now own.only_reads);
      log = λ file within. file_then file old.log mid.log now.log (c.columns.invariant.log file within) (c.in-Ok.ensures.log file within);
      once = columns_next c.args.table.now c.args.read.now.head c.columns.at old.log mid.log now.log (omega (arith, c.columns-test.true, c.len-count.ensures)) c.columns.invariant.once c.in-Ok.ensures.once;
    }

pub returns-in-Err-keep : goal.returns-in-Err-keep
returns-in-Err-keep g c =
    let old : Seen = seen g.S.Shelf c.args.shelf.now in
    let mid : Seen = seen g.S.Shelf c.columns.shelf in
    let now : Seen = seen g.S.Shelf c.read_coded_column.new.shelf in
    record {
      coded = tt;
      columns = tt;
      refused = λ p is. absurd cc;
      only_reads = reads_so _ _ old now (λ err. absurd cc) (λ err. absurd err) (reads_after ⊥ old mid now c.columns.invariant.only_reads (reads_well c.in-Ok.column mid now c.in-Ok.ensures.reads.only_reads));
      log = λ file within. file_then file old.log mid.log now.log (c.columns.invariant.log file within) (c.in-Ok.ensures.log file within);
      once = columns_end c.args.table.now c.args.read.now.head (c.columns.at + 1) old.log now.log (columns_next c.args.table.now c.args.read.now.head c.columns.at old.log mid.log now.log (omega (arith, c.columns-test.true, c.len-count.ensures)) c.columns.invariant.once c.in-Ok.ensures.once);
    }

pub returns-in-Err : goal.returns-in-Err
returns-in-Err g c =
    let table = c.args.table.now in
    let head = c.args.read.now.head in
    let lt : c.columns.at < length table.schema.fields = omega (arith, c.columns-test.true, c.len-count.ensures) in
    let old : Seen = seen g.S.Shelf c.args.shelf.now in
    let mid : Seen = seen g.S.Shelf c.columns.shelf in
    let now : Seen = seen g.S.Shelf c.read_coded_column.new.shelf in
    record {
      coded = tt;
      columns = tt;
      refused = λ p is.
          let first = c.in-Err.ensures.reads.refused p is in (
            c.columns.at,
            first.0,
            record {
              field = lt;
              before = columns_have old.held head c.columns.at (map listed c.columns.columns.items) c.columns.invariant.columns;
              none = λ d loaded. subst (λ h. IfSome h (λ files. ¬ HasIdsOf files head c.columns.at (length d.values))) c.columns.invariant.only_reads.held (first.1 d loaded);
            },
          );
      only_reads = reads_err c.in-Err.fault old mid now c.columns.invariant.only_reads c.in-Err.ensures.reads.only_reads;
      log = λ file within. file_then file old.log mid.log now.log (c.columns.invariant.log file within) (c.in-Err.ensures.log file within);
      once = columns_end c.args.table.now c.args.read.now.head (c.columns.at + 1) old.log now.log (columns_next c.args.table.now c.args.read.now.head c.columns.at old.log mid.log now.log (omega (arith, c.columns-test.true, c.len-count.ensures)) c.columns.invariant.once c.in-Err.ensures.once);
    }

pub returns : goal.returns
returns g c =
    let table = c.args.table.now in
    let head = c.args.read.now.head in
    let old : Seen = seen g.S.Shelf c.args.shelf.now in
    let mid : Seen = seen g.S.Shelf c.columns.shelf in
    let end : c.columns.at ≡ length table.schema.fields = omega (arith, c.columns-test.false, c.columns.auto.at-end, c.len-count.ensures) in
    record {
      coded = c.columns.invariant.coded;
      columns = subst (λ n. AreColumns old.held head n (map listed c.columns.columns.items)) end c.columns.invariant.columns;
      refused = tt;
      only_reads = reads_ended c.columns.columns old mid c.columns.invariant.only_reads;
      log = c.columns.invariant.log;
      once = columns_end c.args.table.now c.args.read.now.head c.columns.at old.log mid.log c.columns.invariant.once;
    }

pub returns-in_err-room : goal.returns-in_err-room
returns-in_err-room g c =
    let table = c.args.table.now in
    let head = c.args.read.now.head in
    let old : Seen = seen g.S.Shelf c.args.shelf.now in
    let r = c.from_residual in
    record {
      coded = growth_ok (λ columns. All (IsCodedColumn head.rows) columns.items) r.result r.ensures;
      columns = growth_ok (λ columns. AreColumns old.held head (length table.schema.fields) (map listed columns.items)) r.result r.ensures;
      refused = growth_bad (λ p. (column : ℕ) × (p ≡ parts.Forward column) × FailsColumn table old.held head column) r.result r.ensures;
      only_reads = growth_reads r.result old old r.ensures (reads_none old);
      log = λ file within. file_unread file old.log old.log refl;
      once = columns_end table head 0 old.log old.log (columns_start table head old.log old.log refl);
    }
