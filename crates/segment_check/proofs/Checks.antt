-- A file is checked in steps: its head, its ids, and the comparison.
use Rattle.std.proofs.Common.{◌≡◌, ◌∙◌, ◌≤◌, arith, List, ℕ, Result, Ok, Err, length, subst, take}
use Rattle.outside.specs.Seen.{OnlyReads, Seen}
use Rattle.outside.proofs.SeenLemmas.{reads_after}
use Rattle.values.specs.declared.value.Value.{Value}
use Rattle.values.specs.Columns.{ListedColumns, rows_of}
use Rattle.table_schema.specs.declared.table.Table.{Table}
use Rattle.table_schema.specs.ValidTable.{AreRows, IsValidTable}
use Rattle.segment_file.proofs.Faults.{IsGrowth, growth_bad, growth_ok, growth_reads, reads_ended, reads_err, reads_handed, reads_well}
use Rattle.segment_file.specs.declared.fault.HeadFault.{HeadFault}
use Rattle.segment_file.specs.Image.{image}
use Rattle.segment_file.specs.Names.{IsSegmentName}
use Rattle.segment_build.specs.declared.coded.CodedColumns.{CodedColumns}
use Rattle.segment_build.specs.Coded.{columns_in}
use Rattle.segment_build.specs.FileReads.{LogsFile, LogsOnce, at_most_once, at_most_twice, file_then, more_often}
use Rattle.segment_build.specs.Growing.{TreesFit}
use Rattle.segment_check.specs.declared.head.FileHead.{FileHead}
use Rattle.segment_check.specs.Calls.{ChecksImage, OfBytes}
use Rattle.segment_check.specs.Checked.{IsImageOf, IsNoImage}
use Rattle.segment_check.specs.Codes.{ReadsAllCodes}
use Rattle.segment_check.specs.Reading.{AreColumns, ComparesImage, FailsColumn, IsUnlike, ReadsFileHead}
use Rattle.segment_check.proofs.Once.{columns_after, read_once}
use Rattle.segment_check.proofs.Sameness.{column_refused, image_found, rule_refused, unlike_refused}

-- the same rows by another name
pub same_checks : {A : Type 0} (f g : A → List (List Value)) (table : Table) (name file : List ℕ) (old new : Seen) (x : A) → f x ≡ g x → ChecksImage f table name file old new (Ok x) → ChecksImage g table name file old new (Ok x)
same_checks f g table name file old new x same k = record {
  rows = subst (AreRows table.schema.fields) same k.rows;
  fits = subst (TreesFit table) same k.fits;
  image = subst (λ rows. OfBytes old.held file (λ bytes. IsImageOf table name bytes rows)) same k.image;
  refused = tt;
  only_reads = k.only_reads;
  log = k.log;
  twice = k.twice;
}

module _ {A : Type 0} (rows_in : A → List (List Value)) (table : Table) (name file : List ℕ) (valid : IsValidTable table) (named : IsSegmentName name) where
  pub head_wrong : (old mid : Seen) (fault : HeadFault) → ReadsFileHead table name file old mid (Err fault) → ChecksImage rows_in table name file old mid (Err fault)
  head_wrong old mid fault k = record {
    rows = tt;
    fits = tt;
    image = tt;
    refused = λ p is. rule_refused table name file old.held p (k.refused p is);
    only_reads = reads_handed fault old mid k.only_reads;
    log = k.log;
    twice = more_often 1 2 file old.log mid.log (omega arith) (at_most_once file 0 k.once.0 old.log mid.log k.once.1);
  }

  module _ (read : FileHead) (old mid later : Seen) (first : ReadsFileHead table name file old mid (Ok read)) where
    pub codes_wrong : (fault : HeadFault) → ReadsAllCodes table read.head mid later (Err fault) → ChecksImage rows_in table name file old later (Err fault)
    codes_wrong fault second = record {
      rows = tt;
      fits = tt;
      image = tt;
      refused = λ p is.
          let f = second.refused p is in
          column_refused table name file old.held read f.0 p valid named first.told f.1 (subst (λ h. FailsColumn table h read.head f.0) first.only_reads.held f.2);
      only_reads = reads_err fault old mid later (reads_well read old mid first.only_reads) second.only_reads;
      log = file_then file old.log mid.log later.log first.log (second.log file first.placed);
      twice = more_often 1 2 file old.log later.log (omega arith) (read_once table name file read old mid later first.placed_is first.once_head second.once);
    }

    module _ (coded : CodedColumns) (second : ReadsAllCodes table read.head mid later (Ok coded)) where
      abbrev t : ListedColumns
      t = columns_in coded

      held-same : later.held ≡ old.held
      held-same = second.only_reads.held ∙ first.only_reads.held

      columns-are : AreColumns old.held read.head (length table.schema.fields) t.columns
      columns-are = subst (λ h. AreColumns h read.head (length table.schema.fields) t.columns) first.only_reads.held second.columns

      pub read-so-far : OnlyReads ⊥ old later
      read-so-far = reads_after ⊥ old mid later (reads_well read old mid first.only_reads) (reads_well coded mid later second.only_reads)

      pub log-so-far : LogsFile file old.log later.log
      log-so-far = file_then file old.log mid.log later.log first.log (second.log file first.placed)

      once-so-far : (to : ℕ) × LogsOnce file 0 to old.log later.log
      once-so-far = columns_after table name file read old mid later first.placed_is first.once_head second.once

      -- no memory for what is answered
      pub answer_lacking : (r : Result A HeadFault) → IsGrowth r → ChecksImage rows_in table name file old later r
      answer_lacking r is = record {
        rows = growth_ok (λ a. AreRows table.schema.fields (rows_in a)) r is;
        fits = growth_ok (λ a. TreesFit table (rows_in a)) r is;
        image = growth_ok (λ a. OfBytes old.held file (λ bytes. IsImageOf table name bytes (rows_in a))) r is;
        refused = growth_bad (λ p. OfBytes old.held file (λ bytes. IsNoImage table name bytes p)) r is;
        only_reads = growth_reads r old later is read-so-far;
        log = log-so-far;
        twice = more_often 1 2 file old.log later.log (omega arith) (at_most_once file 0 once-so-far.0 old.log later.log once-so-far.1);
      }

      pub other_bytes : (last : Seen) (fault : HeadFault) → ComparesImage table name file read.front (rows_of t) later last (Err fault) → ChecksImage rows_in table name file old last (Err fault)
      other_bytes last fault third = record {
        rows = tt;
        fits = tt;
        image = tt;
        refused = λ p is.
            unlike_refused table name file old.held read t p valid named first.told second.fields.counts second.count columns-are second.fields
            (subst (λ h. IsUnlike table name file h read.front (rows_of t) p) held-same (third.refused p is));
        only_reads = reads_err fault old later last read-so-far third.only_reads;
        log = file_then file old.log later.log last.log log-so-far third.log;
        twice = at_most_twice file 0 once-so-far.0 0 third.once.0 old.log later.log last.log once-so-far.1 third.once.1;
      }

      pub same_bytes : (last : Seen) (x : A) (u : Unit {0}) → ComparesImage table name file read.front (rows_of t) later last (Ok u) → rows_of t ≡ rows_in x → ChecksImage rows_in table name file old last (Ok x)
      same_bytes last x u third same = same_checks (λ y. rows_of t) rows_in table name file old last x same (record {
        rows = second.fields.rows;
        fits = third.fits;
        image = image_found table name file old.held read t valid named first.told second.fields.counts second.count columns-are second.fields third.fits
            (subst (λ h. OfBytes h file (λ bytes. take (length (image 1 table name (rows_of t))) bytes ≡ image 1 table name (rows_of t))) held-same third.same);
        refused = tt;
        only_reads = reads_ended x old last (reads_after ⊥ old later last read-so-far (reads_well u later last third.only_reads));
        log = file_then file old.log later.log last.log log-so-far third.log;
        twice = at_most_twice file 0 once-so-far.0 0 third.once.0 old.log later.log last.log once-so-far.1 third.once.1;
      })
