use Rattle.std.proofs.Common.{◌≡◌, ◌∙◌, Some, IfSome, subst}
use Rattle.outside.specs.Files.{bytes_of}
use Rattle.outside.specs.Seen.{Seen, seen}
use Rattle.outside.proofs.SeenLemmas.{reads_so}
use Rattle.segment_file.specs.Names.{file_of}
use Rattle.segment_file.specs.declared.part.Part.{Part}
use Rattle.segment_build.specs.FileReads.{LogsFile}
use Rattle.segment_check.specs.Checked.{IsImageOf, IsNoImage}
use Rattle.table_store.specs.Images.{IsNoStoredImage, IsStoredCount}
use Rattle.table_store.proofs.ImageLemmas.{there_not_lacking, told_so}
use Rattle.table_store.proofs.checking.count_there.Goals as goal

pub returns-in-Err-NotASegment : goal.returns-in-Err-NotASegment
returns-in-Err-NotASegment g c =
    let table = c.args.table.now in
    let name = c.args.name.now in
    let old : Seen = seen g.D.Shelf c.args.depot.now in
    let new : Seen = seen g.D.Shelf c.count_image.new.shelf in
    let is : c.as_str.result.now ≡ file_of name = c.as_str.ensures.value ∙ c.in_ok-file.ensures in
    let part : Part = c.in-Err-NotASegment.part in
    let fails = c.in-Err-NotASegment.field-0-is in
    let e = c.in-Err-NotASegment.ensures.checks in
    let wrong = subst (λ f. IfSome old.held (λ files. IsNoImage table name (bytes_of (Some files) f) part)) is (e.refused part fails) in
    record {
      there = tt;
      image = tt;
      missing = λ err. absurd cc;
      refused = λ p same.
          let one : part ≡ p = cc in
          (c.requires.there, subst (λ q. IfSome old.held (λ files. IsNoStoredImage table files name q)) one wrong);
      only = tt;
      only_reads = reads_so _ _ old new (λ err. absurd cc) (λ err. absurd (cc fails)) e.only_reads;
      log = subst (λ f. LogsFile f old.log new.log) is e.log;
      unread = there_not_lacking old.held name (new.log ≡ old.log) c.requires.there;
    }

pub returns-in-Ok : goal.returns-in-Ok
returns-in-Ok g c =
    let table = c.args.table.now in
    let name = c.args.name.now in
    let old : Seen = seen g.D.Shelf c.args.depot.now in
    let new : Seen = seen g.D.Shelf c.count_image.new.shelf in
    let is : c.as_str.result.now ≡ file_of name = c.as_str.ensures.value ∙ c.in_ok-file.ensures in
    let own = c.in-Ok.ensures in
    let e = own.checks in
    record {
      there = c.requires.there;
      image = told_so old.held (λ files. IsImageOf table name (bytes_of (Some files) c.as_str.result.now) own.rows) (λ files. IsStoredCount table files name c.in-Ok.rows)
          (λ files image. (own.rows, subst (λ f. IsImageOf table name (bytes_of (Some files) f) own.rows) is image, own.count)) e.image;
      missing = λ err. absurd cc;
      refused = tt;
      only = tt;
      only_reads = reads_so _ _ old new (λ err. absurd cc) (λ err. absurd cc) e.only_reads;
      log = subst (λ f. LogsFile f old.log new.log) is e.log;
      unread = there_not_lacking old.held name (new.log ≡ old.log) c.requires.there;
    }
