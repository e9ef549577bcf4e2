use Rattle.std.proofs.Common.{◌≡◌, ◌∙◌, ◌<◌, ◌≤◌, ◌+◌, ◌++◌, ◌∷◌, [], ℕ, List, length, map, get_or, slice_get, Some, IfSome, refl, sym, ap, subst, arith}
use Rattle.std.proofs.lemmas.List.{map-append}
use Rattle.std.specs.List.{All}
use Rattle.outside.specs.Seen.{Seen, seen}
use Rattle.outside.proofs.SeenLemmas.{reads_after, reads_none}
use Rattle.values.specs.Columns.{Counts, ListedColumns}
use Rattle.value_ids.specs.Dictionary.{Distinct}
use Rattle.table_schema.specs.declared.field.Field.{Field}
use Rattle.segment_file.specs.Columns.{kind_at}
use Rattle.segment_file.specs.declared.part.Part.TheVariants as parts
use Rattle.segment_file.proofs.Faults.{growth_bad, growth_ok, growth_reads, reads_ended, reads_err, reads_well}
use Rattle.segment_build.specs.declared.coded.CodedColumns.{CodedColumns}
use Rattle.segment_build.specs.Coded.{AreCoded, columns_in, decoded}
use Rattle.segment_build.specs.FileReads.{file_then, file_unread}
use Rattle.segment_check.specs.Reading.{AreColumns, AreOfFields, FailsColumn, HasIdsOf, IsColumn}
use Rattle.segment_check.proofs.IdLemmas.{AreRead, read_all, read_more, read_none}
use Rattle.segment_check.proofs.ColumnLemmas.{columns_have, columns_more, columns_none, counts_each}
use Rattle.segment_check.proofs.HeadLemmas.{column_kind, few_rows, forward_placed}
use Rattle.segment_check.proofs.RowLemmas.{dictionary_of_head, field_at, of_fields, own_dictionary}
use Rattle.segment_check.proofs.Once.{columns_end, columns_next, columns_start}
use Rattle.segment_check.proofs.codes.read_codes.Goals as goal

pub read_column_codes-requires-clause-loaded : goal.read_column_codes-requires-clause-loaded
read_column_codes-requires-clause-loaded g c =
    let table = c.args.table.now in
    let is = c.requires.is.head_is in
    let lt : c.columns.at < length table.schema.fields = omega (arith, c.columns-test.true, ap length c.as_slice-fields.ensures) in
    (dictionary_of_head table c.args.name.now c.requires.file c.requires.bytes c.args.read.now.head is c.columns.at, (own_dictionary table c.args.name.now c.requires.file c.requires.bytes c.args.read.now.head c.columns.at is lt).at)

pub read_column_codes-requires-clause-placed : goal.read_column_codes-requires-clause-placed
read_column_codes-requires-clause-placed g c =
    let lt : c.columns.at < length c.args.table.now.schema.fields = omega (arith, c.columns-test.true, ap length c.as_slice-fields.ensures) in
    forward_placed c.args.table.now c.args.name.now c.requires.file c.requires.bytes c.args.read.now.head c.columns.at c.requires.is.head_is lt

pub read_column_codes-requires-clause-kind : goal.read_column_codes-requires-clause-kind
read_column_codes-requires-clause-kind g c = λ d loaded.
    let lt : c.columns.at < length c.args.table.now.schema.fields = omega (arith, c.columns-test.true, ap length c.as_slice-fields.ensures) in
    column_kind c.args.table.now c.args.name.now c.requires.file c.requires.bytes c.args.read.now.head c.columns.at c.as_slice-fields.result.now c.index-fields-at.result d c.requires.is.head_is c.as_slice-fields.ensures lt loaded

pub read_column_codes-requires-clause-at_most : goal.read_column_codes-requires-clause-at_most
read_column_codes-requires-clause-at_most g c =
    let is = c.requires.is.head_is in
    subst (λ n. n ≤ 1048576) (sym is.rows_are) (few_rows c.args.table.now is.front.rows is.keeps.front_is.at_most)

pub returns-in-Err : goal.returns-in-Err
returns-in-Err g c =
    let lt : c.columns.at < length c.args.table.now.schema.fields = omega (arith, c.columns-test.true, ap length c.as_slice-fields.ensures) in
    let old : Seen = seen g.S.Shelf c.args.shelf.now in
    let mid : Seen = seen g.S.Shelf c.columns.shelf in
    let now : Seen = seen g.S.Shelf c.read_column_codes.new.shelf in
    record {
      fields = tt;
      coded = tt;
      count = tt;
      columns = tt;
      refused = λ p is.
          let first = c.in-Err.ensures.reads.refused p is in (
            c.columns.at,
            first.0,
            record {
              field = lt;
              before = columns_have old.held c.args.read.now.head c.columns.at (map decoded c.columns.columns.items) c.columns.invariant.columns;
              none = λ d loaded. subst (λ h. IfSome h (λ files. ¬ HasIdsOf files c.args.read.now.head c.columns.at (length d.values))) c.columns.invariant.only_reads.held (first.1 d loaded);
            },
          );
      only_reads = reads_err c.in-Err.fault old mid now c.columns.invariant.only_reads c.in-Err.ensures.reads.only_reads;
      log = λ file within. file_then file old.log mid.log now.log (c.columns.invariant.log file within) (c.in-Err.ensures.log file within);
      once = columns_end c.args.table.now c.args.read.now.head (c.columns.at + 1) old.log now.log (columns_next c.args.table.now c.args.read.now.head c.columns.at old.log mid.log now.log (omega (arith, c.columns-test.true, ap length c.as_slice-fields.ensures)) c.columns.invariant.once c.in-Err.ensures.once);
    }

pub columns-init : goal.columns-init
columns-init g c = record {
  read = read_none c.args.table.now c.in_ok-columns.columns.items c.in_ok-columns.ensures.items;
  columns = subst (λ xs. AreColumns (g.S.Shelf.held c.args.shelf.now) c.args.read.now.head 0 (map decoded xs)) (sym c.in_ok-columns.ensures.items) (columns_none (g.S.Shelf.held c.args.shelf.now) c.args.read.now.head);
  only_reads = reads_none (seen g.S.Shelf c.args.shelf.now);
  log = λ file within. file_unread file (g.S.Shelf.log c.args.shelf.now) (g.S.Shelf.log c.args.shelf.now) refl;
  once = columns_start c.args.table.now c.args.read.now.head (g.S.Shelf.log c.args.shelf.now) (g.S.Shelf.log c.args.shelf.now) refl;
}

pub columns-preserved : goal.columns-preserved
columns-preserved g c =
    let table = c.args.table.now in
    let held = g.S.Shelf.held c.args.shelf.now in
    let head = c.args.read.now.head in
    let old : Seen = seen g.S.Shelf c.args.shelf.now in
    let mid : Seen = seen g.S.Shelf c.columns.shelf in
    let now : Seen = seen g.S.Shelf c.read_column_codes.new.shelf in
    let at = c.columns.at in
    let column = c.in-Ok.column in
    let before = c.columns.columns.items in
    let field = c.index-fields-at.result in
    let lt : at < length table.schema.fields = omega (arith, c.columns-test.true, ap length c.as_slice-fields.ensures) in
    let kind = c.in-Ok.ensures.reads.kind_is ∙ ap (λ (f : Field). f.kind) (sym c.index-fields-at.is) ∙ sym (field_at table at field lt (subst (λ fields. field ≡ get_or fields at field) c.as_slice-fields.ensures c.index-fields-at.is)) in
    record {
      read = read_more table at before _ column c.columns.invariant.read c.in-Ok.ensures.reads.coding kind c.in_ok-keep_codes-in-Ok.ensures;
      columns = subst (λ xs. AreColumns held head (at + 1) xs) (sym (ap (map decoded) c.in_ok-keep_codes-in-Ok.ensures ∙ map-append decoded before (column ∷ [])))
          (columns_more held head at (map decoded before) (decoded column) c.columns.invariant.columns
          (λ d loaded. subst (λ h. IsColumn h head at d (decoded column).values) c.columns.invariant.only_reads.held (c.in-Ok.ensures.reads.column_is d loaded)));
      only_reads = reads_after ⊥ old mid now c.columns.invariant.only_reads (reads_well column mid now c.in-Ok.ensures.reads.only_reads);
      log = λ file within. file_then file old.log mid.log now.log (c.columns.invariant.log file within) (c.in-Ok.ensures.log file within);
      once = columns_next c.args.table.now c.args.read.now.head c.columns.at old.log mid.log now.log (omega (arith, c.columns-test.true, ap length c.as_slice-fields.ensures)) c.columns.invariant.once c.in-Ok.ensures.once;
    }

pub returns : goal.returns
returns g c =
    let table = c.args.table.now in
    let head = c.args.read.now.head in
    let is = c.requires.is.head_is in
    let old : Seen = seen g.S.Shelf c.args.shelf.now in
    let mid : Seen = seen g.S.Shelf c.columns.shelf in
    let end : c.columns.at ≡ length table.schema.fields = omega (arith, c.columns-test.false, c.columns.auto.at-end, ap length c.as_slice-fields.ensures) in
    let made = map decoded c.columns.columns.items in
    let t : ListedColumns = record { columns = made; count = c.rows-rows.result } in
    let coded : CodedColumns = record { columns = c.columns.columns; rows = c.rows-rows.result } in
    let counts : All (Counts c.rows-rows.result) made =
    counts_each old.held head c.columns.at c.rows-rows.result made c.rows-rows.ensures
    (λ k lt. (dictionary_of_head table c.args.name.now c.requires.file c.requires.bytes head is k, (own_dictionary table c.args.name.now c.requires.file c.requires.bytes head k is (omega (arith, lt, end))).at))
    c.columns.invariant.columns in
    let columns : AreColumns old.held head (length table.schema.fields) made = subst (λ n. AreColumns old.held head n made) end c.columns.invariant.columns in
    let fields : AreOfFields table t = of_fields table c.args.name.now c.args.read.now old.held t c.requires counts c.rows-rows.ensures columns in
    record {
      fields = fields;
      coded = read_all table coded c.requires.valid (subst (λ n. AreRead table n c.columns.columns.items) end c.columns.invariant.read) fields;
      count = c.rows-rows.ensures;
      columns = columns;
      refused = tt;
      only_reads = reads_ended coded old mid c.columns.invariant.only_reads;
      log = c.columns.invariant.log;
      once = columns_end c.args.table.now c.args.read.now.head c.columns.at old.log mid.log c.columns.invariant.once;
    }

pub returns-in_err-keep_codes-in-Ok : goal.returns-in_err-keep_codes-in-Ok
returns-in_err-keep_codes-in-Ok g c =
    let table = c.args.table.now in
    let head = c.args.read.now.head in
    let old : Seen = seen g.S.Shelf c.args.shelf.now in
    let mid : Seen = seen g.S.Shelf c.columns.shelf in
    let now : Seen = seen g.S.Shelf c.read_column_codes.new.shelf in
    let r = c.from_residual-in_err-keep_codes-in-Ok in
    record {
      fields = growth_ok (λ coded. AreOfFields table (columns_in coded)) r.result r.ensures;
      coded = growth_ok (AreCoded table) r.result r.ensures;
      count = growth_ok (λ coded. coded.rows ≡ head.rows) r.result r.ensures;
      columns = growth_ok (λ coded. AreColumns old.held head (length table.schema.fields) (columns_in coded).columns) r.result r.ensures;
      refused = growth_bad (λ p. (column : ℕ) × (p ≡ parts.Forward column) × FailsColumn table old.held head column) r.result r.ensures;
      only_reads = growth_reads r.result old now r.ensures (reads_after ⊥ old mid now c.columns.invariant.only_reads (reads_well c.in-Ok.column mid now c.in-Ok.ensures.reads.only_reads));
      log = λ file within. file_then file old.log mid.log now.log (c.columns.invariant.log file within) (c.in-Ok.ensures.log file within);
      once = columns_end c.args.table.now c.args.read.now.head (c.columns.at + 1) old.log now.log (columns_next c.args.table.now c.args.read.now.head c.columns.at old.log mid.log now.log (omega (arith, c.columns-test.true, ap length c.as_slice-fields.ensures)) c.columns.invariant.once c.in-Ok.ensures.once);
    }

pub returns-in_err-columns : goal.returns-in_err-columns
returns-in_err-columns g c =
    let table = c.args.table.now in
    let head = c.args.read.now.head in
    let old : Seen = seen g.S.Shelf c.args.shelf.now in
    let r = c.from_residual in
    record {
      fields = growth_ok (λ coded. AreOfFields table (columns_in coded)) r.result r.ensures;
      coded = growth_ok (AreCoded table) r.result r.ensures;
      count = growth_ok (λ coded. coded.rows ≡ head.rows) r.result r.ensures;
      columns = growth_ok (λ coded. AreColumns old.held head (length table.schema.fields) (columns_in coded).columns) r.result r.ensures;
      refused = growth_bad (λ p. (column : ℕ) × (p ≡ parts.Forward column) × FailsColumn table old.held head column) r.result r.ensures;
      only_reads = growth_reads r.result old old r.ensures (reads_none old);
      log = λ file within. file_unread file old.log old.log refl;
      once = columns_end c.args.table.now c.args.read.now.head 0 old.log old.log (columns_start c.args.table.now c.args.read.now.head old.log old.log refl);
    }
