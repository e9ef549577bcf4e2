-- What a look at an input file that may be a segment's is for a command.
use Rattle.std.proofs.Common.{◌≡◌, ◌≢◌, inl, inr, ℕ, List, [], Option, Some, None, Result, Ok, Err, IfErr, IfOk, IsErrOf, refl, sym, ap, subst}
use Rattle.std.specs.Prelude.{unwrap_or}
use Rattle.outside.specs.Files.{Files, Has, Lacks, OfFile}
use Rattle.outside.specs.Seen.{OnlyReads, Seen}
use Rattle.values.specs.Columns.{ListedColumns, rows_of}
use Rattle.table_schema.specs.declared.table.Table.{Table}
use Rattle.segment_build.specs.FileReads.{LogsFile, file_unread}
use Rattle.segment_file.specs.declared.fault.HeadFault.{HeadFault}
use Rattle.segment_file.specs.declared.fault.HeadFault.TheVariants as head
use Rattle.table_store.specs.Images.{ChecksImage, IsImageOf, IsNoImage, OfBytes}
use Rattle.command_model.specs.Gives.{IsHeadStop}
use Rattle.command_model.specs.InputImages.{ArePublishable, FindsImage, IsLackingStop, StopsImage}
use Rattle.command_model.specs.Stored.{part_text}
use Rattle.command_words.specs.declared.fault.Fault.TheVariants as fault
use Rattle.command_words.specs.declared.note.Note.TheVariants as note
use Rattle.command_words.specs.declared.stop.Stop.{Stop}
use Rattle.command_words.specs.declared.stop.Stop.TheVariants as stop
use Rattle.command_model.proofs.StoredLemmas.{reads_as, reads_then}

-- the bytes of a file that is there
bytes_there : (P : List ℕ → Type 0) (held : Option Files) (file : List ℕ) → Has held file → OfBytes held file P → OfFile held file P
bytes_there P None file has of = tt
bytes_there P (Some files) file (bytes, got) of = (bytes, got, subst P (ap (λ o. unwrap_or o []) got) of)

module _ (old new : Seen) (table : Table) (name file : List ℕ) where
  abbrev Finds : Stop → Type 0
  Finds s = FindsImage table name file old new (Err s)

  -- an end that is no fault of the device
  ended : {F : Type 0} (s : Stop) → s ≢ stop.Fault fault.Read → OnlyReads F old new → ¬ F → LogsFile file old.log new.log → StopsImage table name file old.held s → Finds s
  ended s well reads fine log stops = record {
    reads = reads_as old new reads (λ e. absurd (well e)) (λ f. absurd (fine f));
    log = log;
    rows = tt;
    found = tt;
    stops = stops;
  }

  memory : {F : Type 0} (s : Stop) → s ≡ stop.Fault fault.Memory → OnlyReads F old new → ¬ F → LogsFile file old.log new.log → Finds s
  memory s is reads fine log = subst Finds (sym is) (ended (stop.Fault fault.Memory) (λ e. cc) reads fine log tt)

  failed : {F : Type 0} (s : Stop) → s ≡ stop.Fault fault.Read → OnlyReads F old new → F → LogsFile file old.log new.log → Finds s
  failed s is reads fails log = subst Finds (sym is) (record { reads = reads_as old new reads (λ e. fails) (λ f. refl); log = log; rows = tt; found = tt; stops = tt })

  -- there is no such file
  pub image_lacking : {F : Type 0} (s : Stop) → IsLackingStop file s → OnlyReads F old new → ¬ F → new.log ≡ old.log → Lacks old.held file → Finds s
  image_lacking s (inl is) reads fine same lacks = subst Finds (sym is) (ended (stop.Refused (note.NoInput file)) (λ e. cc) reads fine (file_unread file old.log new.log same) (refl, lacks))
  image_lacking s (inr is) reads fine same lacks = memory s is reads fine (file_unread file old.log new.log same)

  pub image_unread : {F : Type 0} → OnlyReads F old new → F → new.log ≡ old.log → Finds (stop.Fault fault.Read)
  image_unread reads fails same = failed (stop.Fault fault.Read) refl reads fails (file_unread file old.log new.log same)

  pub image_unknown : {F : Type 0} → OnlyReads F old new → ¬ F → new.log ≡ old.log → Finds (stop.Fault fault.Memory)
  image_unknown reads fine same = memory (stop.Fault fault.Memory) refl reads fine (file_unread file old.log new.log same)

  -- it was looked at
  module _ (there : Has old.held file) where
    pub image_unlike : (f : HeadFault) (s : Stop) → IsHeadStop name table.schema.fields f s → ChecksImage rows_of table name file old new (Err f) → Finds s
    image_unlike (head.NotASegment p) s (inl is) c =
        let wrong = bytes_there (λ bytes. IsNoImage table name bytes p) old.held file there (c.refused p refl) in
        subst Finds (sym is) (ended (stop.Refused (note.NotASegment name (part_text table.schema.fields p))) (λ e. cc) c.only_reads (λ e. cc) c.log (refl, p, refl, wrong))
    image_unlike (head.NotASegment p) s (inr is) c = memory s is c.only_reads (λ e. cc) c.log
    image_unlike head.ReadFault s is c = failed s is c.only_reads refl c.log
    image_unlike head.NoMemory s is c = memory s is c.only_reads (λ e. cc) c.log

    pub image_found : (t : ListedColumns) → ArePublishable table t → ChecksImage rows_of table name file old new (Ok t) → FindsImage table name file old new (Ok t)
    image_found t are c = record {
      reads = reads_as old new c.only_reads (λ e. absurd e) (λ e. absurd cc);
      log = c.log;
      rows = are;
      found = bytes_there (λ bytes. IsImageOf table name bytes (rows_of t)) old.held file there c.image;
      stops = tt;
    }

-- after a look at its length
pub image_after : (old mid new : Seen) (table : Table) (name file : List ℕ) (result : Result ListedColumns Stop) {F : Type 0} → OnlyReads F old mid → ¬ F → mid.log ≡ old.log → FindsImage table name file mid new result → FindsImage table name file old new result
image_after old mid new table name file result reads fine same f = record {
  reads = reads_then old mid new (reads_as old mid reads (λ e. absurd e) (λ f. fine f)) f.reads;
  log = subst (λ l. LogsFile file l new.log) same f.log;
  rows = f.rows;
  found = subst (λ h. IfOk result (λ t. OfFile h file (λ bytes. IsImageOf table name bytes (rows_of t)))) reads.held f.found;
  stops = subst (λ h. IfErr result (StopsImage table name file h)) reads.held f.stops;
}
