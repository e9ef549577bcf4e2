use Rattle.std.proofs.Common.{◌≡◌, ◌∙◌, ap}
use Rattle.outside.specs.Seen.{Seen, seen}
use Rattle.outside.proofs.SeenLemmas.{reads_so}
use Rattle.table_store.specs.Images.{IsStoredCount}
use Rattle.command_words.specs.declared.aim.Aim.TheVariants.{Verify}
use Rattle.command_model.specs.Look.{IsSaid, verified_text}
use Rattle.command_model.proofs.StoredLemmas.{told_each}
use Rattle.command_model.proofs.store.verify_at.Goals as goal

pub returns-in-Ok-verified : goal.returns-in-Ok-verified
returns-in-Ok-verified g c =
    let table = c.args.table.now in
    let name = c.args.name.now in
    let old : Seen = seen g.D.Shelf c.args.depot.now in
    let new : Seen = seen g.D.Shelf c.count_segment.new.depot in
    let rows = c.in-Ok.rows in
    let e = c.in-Ok.ensures in
    let text = c.in-Ok-verified.text in
    record {
      there = e.there;
      image = told_each old.held (λ files. IsStoredCount table files name rows) (λ files. IsSaid Verify table files name text) (λ files k. (k.0, k.1, c.in-Ok-verified.ensures ∙ ap (verified_text name) k.2)) e.image;
      missing = λ err. absurd cc;
      refused = tt;
      only = tt;
      only_reads = reads_so _ _ old new (λ err. absurd cc) (λ err. absurd cc) e.only_reads;
      log = e.log;
      unread = e.unread;
    }

pub returns-in-Err-verified : goal.returns-in-Err-verified
returns-in-Err-verified g c =
    let old : Seen = seen g.D.Shelf c.args.depot.now in
    let new : Seen = seen g.D.Shelf c.count_segment.new.depot in
    let e = c.in-Ok.ensures in
    record {
      there = tt;
      image = tt;
      missing = λ err. absurd cc;
      refused = λ p is. absurd cc;
      only = tt;
      only_reads = reads_so _ _ old new (λ err. absurd cc) (λ err. absurd cc) e.only_reads;
      log = e.log;
      unread = e.unread;
    }
