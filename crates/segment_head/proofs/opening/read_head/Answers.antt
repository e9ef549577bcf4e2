use Rattle.std.proofs.Common.{◌≡◌, ◌∙◌, ℕ, List, Some, IfSome, ap, arith, length, sym, subst, take}
use Rattle.std.specs.Result.{IsErrOf}
use Rattle.outside.specs.Files.{bytes_of}
use Rattle.outside.specs.Seen.{seen}
use Rattle.outside.proofs.SeenLemmas.{reads_after, reads_none, reads_so}
use Rattle.segment_file.specs.declared.fault.HeadFault.TheVariants as fault
use Rattle.segment_file.specs.declared.part.Part.{Part}
use Rattle.segment_file.specs.Front.{head_end}
use Rattle.segment_head.specs.Heads.{IsHead, IsHeadOf, IsPlaced}
use Rattle.segment_file.specs.Reading.{IsFrontOf}
use Rattle.segment_file.specs.Rules.{FailsAt, HasFront}
use Rattle.segment_file.proofs.Faults.{err_so, growth_bad, growth_ok, growth_reads, ok_so, reads_err, reads_handed, reads_well}
use Rattle.segment_file.proofs.Openings.{few_bytes}
use Rattle.segment_head.proofs.Openings.{few_rows, head_fails, head_of, logs_front, logs_still, logs_within, told_head, untold}
use Rattle.segment_head.proofs.opening.read_head.Goals as goal

pub returns-in_err-parts : goal.returns-in_err-parts
returns-in_err-parts g c =
    let table = c.args.table.now in
    let name = c.args.name.now in
    let file = c.args.file.now in
    let held = g.S.Shelf.held c.args.shelf.now in
    let old = seen g.S.Shelf c.args.shelf.now in
    record {
      of = growth_ok (IsHeadOf table) c.from_residual.result c.from_residual.ensures;
      head = growth_ok (λ head. IfSome held (λ files. IsHead table name file (bytes_of (Some files) file) head)) c.from_residual.result c.from_residual.ensures;
      refused = growth_bad (λ p. IfSome held (λ files. FailsAt table name (bytes_of (Some files) file) p)) c.from_residual.result c.from_residual.ensures;
      only_reads = growth_reads c.from_residual.result old old c.from_residual.ensures (reads_none old);
      log = logs_still head_end table name file held (g.S.Shelf.log c.args.shelf.now);
    }

pub returns-in-Err : goal.returns-in-Err
returns-in-Err g c =
    let table = c.args.table.now in
    let name = c.args.name.now in
    let file = c.args.file.now in
    let held = g.S.Shelf.held c.args.shelf.now in
    let old = seen g.S.Shelf c.args.shelf.now in
    record {
      of = tt;
      head = tt;
      refused = λ p is. let first = c.in-Err.ensures.refused p is in head_fails table name file held p first.0 first.1;
      only_reads = reads_handed c.in-Err.fault old (seen g.S.Shelf c.read_front.new.shelf) c.in-Err.ensures.only_reads;
      log = logs_front head_end table name file held (g.S.Shelf.log c.args.shelf.now) (g.S.Shelf.log c.read_front.new.shelf) c.in-Err.ensures.log_of_fault;
    }

pub returns-in-Err-read_rest : goal.returns-in-Err-read_rest
returns-in-Err-read_rest g c =
    let table = c.args.table.now in
    let name = c.args.name.now in
    let file = c.args.file.now in
    let held = g.S.Shelf.held c.args.shelf.now in
    let old = seen g.S.Shelf c.args.shelf.now in
    let read = c.in-Ok.read in
    let between = seen g.S.Shelf c.read_front.new.shelf in
    record {
      of = tt;
      head = tt;
      refused = λ p is. untold (λ files. FailsAt table name (bytes_of (Some files) file) p) held (sym c.in-Ok.ensures.only_reads.held ∙ c.in-Err-read_rest.ensures.refused p is);
      only_reads = reads_err c.in-Err-read_rest.fault old between (seen g.S.Shelf c.read_rest.new.shelf) (reads_well read old between c.in-Ok.ensures.only_reads) c.in-Err-read_rest.ensures.only_reads;
      log = logs_within head_end table name file read.bytes.items held read.front (g.S.Shelf.log c.args.shelf.now) (g.S.Shelf.log c.read_front.new.shelf) (g.S.Shelf.log c.read_rest.new.shelf) c.in-Ok.ensures.front c.in-Ok.ensures.log c.in-Err-read_rest.ensures.log;
    }

pub returns : goal.returns
returns g c =
    let table = c.args.table.now in
    let name = c.args.name.now in
    let file = c.args.file.now in
    let held = g.S.Shelf.held c.args.shelf.now in
    let old = seen g.S.Shelf c.args.shelf.now in
    let read = c.in-Ok.read in
    let between = seen g.S.Shelf c.read_front.new.shelf in
    let last = seen g.S.Shelf c.read_rest.new.shelf in
    let front = read.front in
    let is = c.in-Ok.ensures.front in
    let cut : List ℕ = c.deref-3.result.now in
    let end : List ℕ → List ℕ = take (head_end table name front) in
    let cut_is = subst (λ h. IfSome h (λ files. cut ≡ end (bytes_of (Some files) file))) c.in-Ok.ensures.only_reads.held (subst (λ b. IfSome between.held (λ files. b ≡ end (bytes_of (Some files) file))) (sym c.deref-3.ensures.value) c.in-Ok-read_rest.ensures.bytes) in
    let made = c.check_head.result in
    record {
      of = ok_so (IsPlaced table name file front) (IsHeadOf table) made (λ head has. head_of table name file read.bytes.items held front head is has) c.check_head.ensures.placed;
      head =
          ok_so (λ head. (whole : List ℕ) → HasFront table name whole front → cut ≡ end whole → IsHead table name file whole head) (λ head. IfSome held (λ files. IsHead table name file (bytes_of (Some files) file) head)) made
          (λ head each. told_head (λ whole. IsHead table name file whole head) table name file read.bytes.items cut held front is cut_is each) c.check_head.ensures.ok;
      refused =
          err_so (λ f. (p : Part) → f ≡ fault.NotASegment p → (whole : List ℕ) → HasFront table name whole front → cut ≡ end whole → FailsAt table name whole p)
          (λ f. (p : Part) → f ≡ fault.NotASegment p → IfSome held (λ files. FailsAt table name (bytes_of (Some files) file) p)) made
          (λ f each p is_p. told_head (λ whole. FailsAt table name whole p) table name file read.bytes.items cut held front is cut_is (each p is_p)) c.check_head.ensures.bad;
      only_reads = reads_so ⊥ (IsErrOf made fault.ReadFault) old last c.check_head.ensures.read (λ e. absurd e) (reads_after ⊥ old between last (reads_well read old between c.in-Ok.ensures.only_reads) (reads_well c.in-Ok-read_rest.bytes between last c.in-Ok-read_rest.ensures.only_reads));
      log = logs_within head_end table name file read.bytes.items held read.front (g.S.Shelf.log c.args.shelf.now) (g.S.Shelf.log c.read_front.new.shelf) (g.S.Shelf.log c.read_rest.new.shelf) c.in-Ok.ensures.front c.in-Ok.ensures.log c.in-Ok-read_rest.ensures.log;
    }

pub read_front-requires : goal.read_front-requires
read_front-requires g c = record { valid = c.requires.valid; name = c.requires.name; parts = c.deref.ensures.value ∙ c.in_ok-parts.ensures }

pub read_rest-requires : goal.read_rest-requires
read_rest-requires g c =
    let read = c.in-Ok.read in
    record { front = subst (λ h. IsFrontOf c.args.table.now c.args.name.now c.args.file.now h read.bytes.items read.front) (sym c.in-Ok.ensures.only_reads.held) c.in-Ok.ensures.front }

pub check_head-requires : goal.check_head-requires
check_head-requires g c =
    let is = c.in-Ok.ensures.front.front_is in
    record {
      valid = c.requires.valid;
      name = few_bytes c.args.name.now c.requires.name;
      parts = c.deref-2.ensures.value ∙ c.in_ok-parts.ensures;
      each = is.each ∙ ap length (sym c.in_ok-parts.ensures ∙ sym c.deref-2.ensures.value);
      rows = few_rows c.args.table.now c.in-Ok.read.front.rows is.at_most;
      short = omega (arith, is.whole, is.small);
    }
