use Rattle.std.proofs.Common.{◌≡◌, ◌∙◌, ℕ, List, length, map, ap, subst}
use Rattle.outside.specs.Seen.{Seen, seen}
use Rattle.outside.proofs.SeenLemmas.{reads_after, reads_so}
use Rattle.segment_file.proofs.Faults.{reads_ended, reads_err, reads_handed, reads_well}
use Rattle.values.specs.Columns.{rows_of}
use Rattle.csv_text.specs.Coded.{listed, listed_columns}
use Rattle.csv_text.specs.Rows.{rows_text}
use Rattle.csv_text.specs.declared.coded.CodedColumn.{CodedColumn}
use Rattle.segment_build.specs.FileReads.{at_most_once, file_then}
use Rattle.segment_check.specs.Reading.{AreColumns, FailsColumn}
use Rattle.segment_check.proofs.Once.{read_once}
use Rattle.segment_check.proofs.Sameness.{ids_unspelled, rule_unspelled}
use Rattle.segment_check.proofs.SpelledText.{text_spelled}
use Rattle.segment_check.proofs.spell.spell_text.Goals as goal

pub returns-in-Err : goal.returns-in-Err
returns-in-Err g c =
    let old = seen g.S.Shelf c.args.shelf.now in
    record {
      spells = tt;
      refused = λ p is. rule_unspelled c.args.table.now c.args.name.now c.args.file.now old.held p (c.in-Err.ensures.refused p is);
      only_reads = reads_handed c.in-Err.fault old (seen g.S.Shelf c.read_file_head.new.shelf) c.in-Err.ensures.only_reads;
      log = c.in-Err.ensures.log;
      once = at_most_once c.args.file.now 0 c.in-Err.ensures.once.0 old.log (g.S.Shelf.log c.read_file_head.new.shelf) c.in-Err.ensures.once.1;
    }

pub returns-in-Err-read_coded : goal.returns-in-Err-read_coded
returns-in-Err-read_coded g c =
    let table = c.args.table.now in
    let name = c.args.name.now in
    let file = c.args.file.now in
    let old : Seen = seen g.S.Shelf c.args.shelf.now in
    let mid : Seen = seen g.S.Shelf c.read_file_head.new.shelf in
    let last : Seen = seen g.S.Shelf c.read_coded.new.shelf in
    let first = c.in-Ok.ensures in
    let fails = c.in-Err-read_coded.ensures in
    record {
      spells = tt;
      refused = λ p is.
          let f = fails.refused p is in
          ids_unspelled table name file old.held c.in-Ok.read f.0 p c.requires.valid c.requires.name first.told f.1 (subst (λ h. FailsColumn table h c.in-Ok.read.head f.0) first.only_reads.held f.2);
      only_reads = reads_err c.in-Err-read_coded.fault old mid last (reads_well c.in-Ok.read old mid first.only_reads) fails.only_reads;
      log = file_then file old.log mid.log last.log first.log (fails.log file first.placed);
      once = read_once table name file c.in-Ok.read old mid last first.placed_is first.once_head fails.once;
    }

pub returns-in-Ok-coded_text : goal.returns-in-Ok-coded_text
returns-in-Ok-coded_text g c =
    let table = c.args.table.now in
    let name = c.args.name.now in
    let file = c.args.file.now in
    let old : Seen = seen g.S.Shelf c.args.shelf.now in
    let mid : Seen = seen g.S.Shelf c.read_file_head.new.shelf in
    let last : Seen = seen g.S.Shelf c.read_coded.new.shelf in
    let first = c.in-Ok.ensures in
    let second = c.in-Ok-read_coded.ensures in
    let head = c.in-Ok.read.head in
    let columns : List CodedColumn = c.in-Ok-read_coded.columns.items in
    let text : List ℕ = c.in-Ok-coded_text.text in
    let is : text ≡ rows_text table.schema.fields (rows_of (listed_columns head.rows columns)) =
    c.in-Ok-coded_text.ensures ∙ ap (λ fields. rows_text fields (rows_of (listed_columns c.rows.result c.deref.result.now))) c.as_slice-fields.ensures
    ∙ ap (λ l. rows_text table.schema.fields (rows_of (listed_columns c.rows.result l))) c.deref.ensures.value
    ∙ ap (λ n. rows_text table.schema.fields (rows_of (listed_columns n columns))) c.rows.ensures in
    record {
      spells = text_spelled table name file text old.held c.in-Ok.read columns c.requires first.some first.told second.coded
          (subst (λ h. AreColumns h head (length table.schema.fields) (map listed columns)) first.only_reads.held second.columns) is;
      refused = tt;
      only_reads = reads_ended text old last (reads_after ⊥ old mid last (reads_well c.in-Ok.read old mid first.only_reads) (reads_well c.in-Ok-read_coded.columns mid last second.only_reads));
      log = file_then file old.log mid.log last.log first.log (second.log file first.placed);
      once = read_once c.args.table.now c.args.name.now file c.in-Ok.read old mid last first.placed_is first.once_head second.once;
    }

pub returns : goal.returns
returns g c =
    let file = c.args.file.now in
    let old : Seen = seen g.S.Shelf c.args.shelf.now in
    let mid : Seen = seen g.S.Shelf c.read_file_head.new.shelf in
    let last : Seen = seen g.S.Shelf c.read_coded.new.shelf in
    let first = c.in-Ok.ensures in
    let second = c.in-Ok-read_coded.ensures in
    record {
      spells = tt;
      refused = λ p is. absurd cc;
      only_reads = reads_so _ _ old last (λ err. absurd cc) (λ err. absurd err) (reads_after ⊥ old mid last (reads_well c.in-Ok.read old mid first.only_reads) (reads_well c.in-Ok-read_coded.columns mid last second.only_reads));
      log = file_then file old.log mid.log last.log first.log (second.log file first.placed);
      once = read_once c.args.table.now c.args.name.now file c.in-Ok.read old mid last first.placed_is first.once_head second.once;
    }
