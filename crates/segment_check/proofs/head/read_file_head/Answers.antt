use Rattle.std.proofs.Common.{◌≡◌, ◌∙◌, ℕ, List, Some, None, Option, IfSome, Err, refl, ap, arith, length, sym, subst, take}
use Rattle.outside.specs.Files.{bytes_of}
use Rattle.outside.specs.Seen.{seen}
use Rattle.outside.proofs.SeenLemmas.{reads_after, reads_none}
use Rattle.segment_file.specs.Front.{front_size, head_end}
use Rattle.segment_file.specs.Reading.{IsFrontOf, IsHeadCut}
use Rattle.segment_file.specs.Rules.{FailsAt}
use Rattle.segment_file.proofs.Faults.{growth_bad, growth_ok, growth_reads, reads_ended, reads_err, reads_handed, reads_other, reads_well}
use Rattle.segment_file.proofs.Openings.{few_bytes}
use Rattle.segment_build.specs.FileReads.{LogsOnce, file_then, file_through, file_unread, file_up, once_none}
use Rattle.segment_head.specs.Heads.{AreIn}
use Rattle.segment_check.specs.Calls.{OfBytes}
use Rattle.segment_build.proofs.OnceReads.{once_up}
use Rattle.segment_check.specs.Reading.{IsFileHead, IsPlacedHead, IsSomeHead}
use Rattle.segment_check.proofs.Once.{head_once}
use Rattle.segment_check.proofs.HeadLemmas.{few_rows, head_fails, sections_in, told_file, told_head, untold}
use Rattle.segment_check.proofs.head.read_file_head.Goals as goal

pub read_front-requires : goal.read_front-requires
read_front-requires g c = record { valid = c.requires.valid; name = c.requires.name; parts = c.deref.ensures.value ∙ c.in_ok-parts.ensures }

pub read_rest-requires : goal.read_rest-requires
read_rest-requires g c =
    let read = c.in-Ok.read in
    record { front = subst (λ h. IsFrontOf c.args.table.now c.args.name.now c.args.file.now h read.bytes.items read.front) (sym c.in-Ok.ensures.only_reads.held) c.in-Ok.ensures.front }

pub check_head-requires : goal.check_head-requires
check_head-requires g c =
    let is = c.in-Ok.ensures.front.front_is in
    record {
      valid = c.requires.valid;
      name = few_bytes c.args.name.now c.requires.name;
      parts = c.deref-2.ensures.value ∙ c.in_ok-parts.ensures;
      each = is.each ∙ ap length (sym c.in_ok-parts.ensures ∙ sym c.deref-2.ensures.value);
      rows = few_rows c.args.table.now c.in-Ok.read.front.rows is.at_most;
      short = omega (arith, is.whole, is.small);
    }

pub returns-in_err-parts : goal.returns-in_err-parts
returns-in_err-parts g c =
    let table = c.args.table.now in
    let name = c.args.name.now in
    let file = c.args.file.now in
    let held = g.S.Shelf.held c.args.shelf.now in
    let old = seen g.S.Shelf c.args.shelf.now in
    record {
      some = growth_ok (IsSomeHead table name) c.from_residual.result c.from_residual.ensures;
      told = growth_ok (λ read. OfBytes held file (λ bytes. IsFileHead table name file bytes read)) c.from_residual.result c.from_residual.ensures;
      refused = growth_bad (λ p. OfBytes held file (λ bytes. FailsAt table name bytes p)) c.from_residual.result c.from_residual.ensures;
      placed = growth_ok (λ read. AreIn file read.head.sections) c.from_residual.result c.from_residual.ensures;
      only_reads = growth_reads c.from_residual.result old old c.from_residual.ensures (reads_none old);
      log = file_unread file old.log old.log refl;
      placed_is = growth_ok (IsPlacedHead table name file) c.from_residual.result c.from_residual.ensures;
      once = (0, once_none file 0 0 old.log old.log refl);
      once_head = growth_ok (λ read. LogsOnce file 0 (head_end table name read.front) old.log old.log) c.from_residual.result c.from_residual.ensures;
    }

pub returns-in-Err : goal.returns-in-Err
returns-in-Err g c =
    let table = c.args.table.now in
    let name = c.args.name.now in
    let file = c.args.file.now in
    let held = g.S.Shelf.held c.args.shelf.now in
    let old = seen g.S.Shelf c.args.shelf.now in
    record {
      some = tt;
      told = tt;
      refused = λ p is. let first = c.in-Err.ensures.refused p is in head_fails table name file held p first.0 first.1;
      placed = tt;
      only_reads = reads_handed c.in-Err.fault old (seen g.S.Shelf c.read_front.new.shelf) c.in-Err.ensures.only_reads;
      log = file_up file 0 (front_size table name) old.log (g.S.Shelf.log c.read_front.new.shelf) c.in-Err.ensures.log_of_fault;
      placed_is = tt;
      once = (front_size table name, once_up file 0 (front_size table name) old.log (g.S.Shelf.log c.read_front.new.shelf) c.in-Err.ensures.log_of_fault);
      once_head = tt;
    }

pub returns-in-Err-read_rest : goal.returns-in-Err-read_rest
returns-in-Err-read_rest g c =
    let table = c.args.table.now in
    let name = c.args.name.now in
    let file = c.args.file.now in
    let held = g.S.Shelf.held c.args.shelf.now in
    let old = seen g.S.Shelf c.args.shelf.now in
    let read = c.in-Ok.read in
    let between = seen g.S.Shelf c.read_front.new.shelf in
    record {
      some = tt;
      told = tt;
      placed = tt;
      refused = λ p is. untold (λ files. FailsAt table name (bytes_of (Some files) file) p) held (sym c.in-Ok.ensures.only_reads.held ∙ c.in-Err-read_rest.ensures.refused p is);
      only_reads = reads_err c.in-Err-read_rest.fault old between (seen g.S.Shelf c.read_rest.new.shelf) (reads_well read old between c.in-Ok.ensures.only_reads) c.in-Err-read_rest.ensures.only_reads;
      log = file_then file old.log between.log (g.S.Shelf.log c.read_rest.new.shelf) (file_through file 0 (front_size table name) old.log between.log c.in-Ok.ensures.log)
          (file_up file (front_size table name) (head_end table name read.front) between.log (g.S.Shelf.log c.read_rest.new.shelf) c.in-Err-read_rest.ensures.log);
      placed_is = tt;
      once = (head_end table name read.front, head_once table name file read.front old.log between.log (g.S.Shelf.log c.read_rest.new.shelf) c.in-Ok.ensures.log c.in-Err-read_rest.ensures.log);
      once_head = tt;
    }

pub returns-in-Err-check_head : goal.returns-in-Err-check_head
returns-in-Err-check_head g c =
    let table = c.args.table.now in
    let name = c.args.name.now in
    let file = c.args.file.now in
    let held = g.S.Shelf.held c.args.shelf.now in
    let old = seen g.S.Shelf c.args.shelf.now in
    let read = c.in-Ok.read in
    let between = seen g.S.Shelf c.read_front.new.shelf in
    let last = seen g.S.Shelf c.read_rest.new.shelf in
    let front = read.front in
    let is = c.in-Ok.ensures.front in
    let cut : List ℕ = c.deref-3.result.now in
    let end : List ℕ → List ℕ = take (head_end table name front) in
    let cut_is = subst (λ h. IfSome h (λ files. cut ≡ end (bytes_of (Some files) file))) c.in-Ok.ensures.only_reads.held (subst (λ b. IfSome between.held (λ files. b ≡ end (bytes_of (Some files) file))) (sym c.deref-3.ensures.value) c.in-Ok-read_rest.ensures.bytes) in
    record {
      some = tt;
      told = tt;
      placed = tt;
      refused = λ p is_p. told_head (λ whole. FailsAt table name whole p) table name file read.bytes.items cut held front is cut_is (c.in-Err-check_head.ensures.bad p is_p);
      only_reads = reads_other c.in-Err-check_head.fault old last (λ e. c.in-Err-check_head.ensures.read (ap Err e)) (reads_after ⊥ old between last (reads_well read old between c.in-Ok.ensures.only_reads) (reads_well c.in-Ok-read_rest.bytes between last c.in-Ok-read_rest.ensures.only_reads));
      log = file_then file old.log between.log last.log (file_through file 0 (front_size table name) old.log between.log c.in-Ok.ensures.log)
          (file_up file (front_size table name) (head_end table name front) between.log last.log c.in-Ok-read_rest.ensures.log);
      placed_is = tt;
      once = (head_end table name front, head_once table name file front old.log between.log last.log c.in-Ok.ensures.log c.in-Ok-read_rest.ensures.log);
      once_head = tt;
    }

pub returns : goal.returns
returns g c =
    let table = c.args.table.now in
    let name = c.args.name.now in
    let file = c.args.file.now in
    let held = g.S.Shelf.held c.args.shelf.now in
    let old = seen g.S.Shelf c.args.shelf.now in
    let read = c.in-Ok.read in
    let between = seen g.S.Shelf c.read_front.new.shelf in
    let last = seen g.S.Shelf c.read_rest.new.shelf in
    let front = read.front in
    let is = c.in-Ok.ensures.front in
    let cut : List ℕ = c.deref-3.result.now in
    let end : List ℕ → List ℕ = take (head_end table name front) in
    let cut_is = subst (λ h. IfSome h (λ files. cut ≡ end (bytes_of (Some files) file))) c.in-Ok.ensures.only_reads.held (subst (λ b. IfSome between.held (λ files. b ≡ end (bytes_of (Some files) file))) (sym c.deref-3.ensures.value) c.in-Ok-read_rest.ensures.bytes) in
    let some : IsHeadCut table name front cut = subst (IsHeadCut table name front) (sym c.deref-3.ensures.value) c.in-Ok-read_rest.ensures.cut in
    record {
      some = record {
        valid = c.requires.valid;
        named = c.requires.name;
        file = file;
        bytes = some.whole;
        is = record { parts_are = c.in_ok-parts.ensures; front_is = some.front_is; head_is = c.in-Ok-check_head.ensures.ok some.whole some.front_is some.cut_is };
      };
      told = told_file table name file read.bytes.items cut held front (record { parts = c.in_ok-parts.parts; front = front; head = c.in-Ok-check_head.head }) is refl c.in_ok-parts.ensures cut_is c.in-Ok-check_head.ensures.ok;
      refused = tt;
      placed = sections_in table name file front c.in-Ok-check_head.head c.in-Ok-check_head.ensures.placed;
      only_reads = reads_ended _ old last (reads_after ⊥ old between last (reads_well read old between c.in-Ok.ensures.only_reads) (reads_well c.in-Ok-read_rest.bytes between last c.in-Ok-read_rest.ensures.only_reads));
      log = file_then file old.log between.log last.log (file_through file 0 (front_size table name) old.log between.log c.in-Ok.ensures.log)
          (file_up file (front_size table name) (head_end table name front) between.log last.log c.in-Ok-read_rest.ensures.log);
      placed_is = record { placed = c.in-Ok-check_head.ensures.placed; each = is.front_is.each };
      once = (head_end table name front, head_once table name file front old.log between.log last.log c.in-Ok.ensures.log c.in-Ok-read_rest.ensures.log);
      once_head = head_once table name file front old.log between.log last.log c.in-Ok.ensures.log c.in-Ok-read_rest.ensures.log;
    }
