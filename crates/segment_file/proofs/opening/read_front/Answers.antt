use Rattle.std.proofs.Common.{◌≡◌, ◌+◌, IfSome, Some, length, ap, subst, arith, le_refl}
use Rattle.outside.specs.Files.{bytes_of}
use Rattle.outside.specs.Reads.{LogsThrough, LogsUpTo}
use Rattle.outside.specs.Seen.{seen}
use Rattle.outside.proofs.ReadLemmas.{logs-none, on-err}
use Rattle.outside.proofs.SeenLemmas.{reads_after}
use Rattle.segment_file.specs.declared.fault.HeadFault.TheVariants as fault
use Rattle.segment_file.specs.declared.part.Part.TheVariants as parts
use Rattle.segment_file.specs.Front.{Front, front_size}
use Rattle.segment_file.specs.Reading.{IsFrontOf}
use Rattle.segment_file.specs.Rules.{HasFront}
use Rattle.segment_file.proofs.Counts.{few_sections}
use Rattle.segment_file.proofs.Faults.{growth_bad, growth_ok, growth_reads, other_fault, reads_ended, reads_err, reads_handed, reads_other, reads_well}
use Rattle.segment_file.proofs.Openings.{few_bytes, front_log, front_short, front_up}
use Rattle.segment_file.proofs.opening.read_front.Goals as goal

pub front_size-start-requires : goal.front_size-start-requires
front_size-start-requires g c = record {
  name = few_bytes c.args.name.now c.requires.name;
  sections = omega (arith, few_sections c.args.table.now c.requires.valid, ap length c.requires.parts);
}

pub returns-in-Err : goal.returns-in-Err
returns-in-Err g c =
    let new = seen g.S.Shelf c.file_length.new.shelf in
    record {
      front = tt;
      refused = λ p is. absurd (c.in-Err.ensures.never p is);
      only_reads = reads_handed c.in-Err.fault (seen g.S.Shelf c.args.shelf.now) new c.in-Err.ensures.only_reads;
      log = tt;
      log_of_fault = logs-none c.args.file.now 0 (front_size c.args.table.now c.args.name.now) (g.S.Shelf.log c.args.shelf.now) (g.S.Shelf.log c.file_length.new.shelf) (omega arith) c.in-Err.ensures.log;
    }

pub returns-in-Err-read_exactly : goal.returns-in-Err-read_exactly
returns-in-Err-read_exactly g c =
    let table = c.args.table.now in
    let name = c.args.name.now in
    let file = c.args.file.now in
    let old = seen g.S.Shelf c.args.shelf.now in
    let between = seen g.S.Shelf c.file_length.new.shelf in
    let count : 0 + c.front_size-start.result ≡ front_size table name = omega (arith, c.front_size-start.ensures, ap length c.requires.parts) in
    record {
      front = tt;
      refused = λ p is.
          let short = c.in-Err-read_exactly.ensures.short p is in
          (short.0, subst (λ h. IfSome h (λ files. (front : Front) → ¬ HasFront table name (bytes_of (Some files) file) front)) c.in-Ok.ensures.only_reads.held (front_short table name file between.held c.front_size-start.result count short.1));
      only_reads = reads_err c.in-Err-read_exactly.fault old between (seen g.S.Shelf c.read_exactly.new.shelf) (reads_well c.in-Ok.size old between c.in-Ok.ensures.only_reads) c.in-Err-read_exactly.ensures.only_reads;
      log = tt;
      log_of_fault = front_up file c.front_size-start.result (front_size table name) old.log between.log (g.S.Shelf.log c.read_exactly.new.shelf) count c.in-Ok.ensures.log c.in-Err-read_exactly.ensures.log_of_fault;
    }

pub returns-in_err-front : goal.returns-in_err-front
returns-in_err-front g c =
    let table = c.args.table.now in
    let name = c.args.name.now in
    let file = c.args.file.now in
    let held = g.S.Shelf.held c.args.shelf.now in
    let old = seen g.S.Shelf c.args.shelf.now in
    let between = seen g.S.Shelf c.file_length.new.shelf in
    let last = seen g.S.Shelf c.read_exactly.new.shelf in
    let end = front_size table name in
    let count : 0 + c.front_size-start.result ≡ end = omega (arith, c.front_size-start.ensures, ap length c.requires.parts) in
    let through = front_log file c.front_size-start.result end old.log between.log last.log count c.in-Ok.ensures.log c.in-Ok-read_exactly.ensures.log in
    let r = c.from_residual in
    record {
      front = growth_ok (λ read. IsFrontOf table name file held read.bytes.items read.front) r.result r.ensures;
      refused = growth_bad (λ p. (p ≡ parts.Head) × IfSome held (λ files. (front : Front) → ¬ HasFront table name (bytes_of (Some files) file) front)) r.result r.ensures;
      only_reads = growth_reads r.result old last r.ensures (reads_after ⊥ old between last (reads_well c.in-Ok.size old between c.in-Ok.ensures.only_reads) (reads_well c.in-Ok-read_exactly.bytes between last c.in-Ok-read_exactly.ensures.only_reads));
      log = growth_ok (λ read. LogsThrough file 0 end old.log last.log) r.result r.ensures;
      log_of_fault = on-err r.result (LogsUpTo file 0 end old.log last.log) (end, le_refl end, through);
    }

pub returns-in-Some-clause-only_reads : goal.returns-in-Some-clause-only_reads
returns-in-Some-clause-only_reads g c =
    let old = seen g.S.Shelf c.args.shelf.now in
    let between = seen g.S.Shelf c.file_length.new.shelf in
    let last = seen g.S.Shelf c.read_exactly.new.shelf in
    reads_ended (record { front = c.in-Some.front; bytes = c.into_vec-bytes.result }) old last (reads_after ⊥ old between last (reads_well c.in-Ok.size old between c.in-Ok.ensures.only_reads) (reads_well c.in-Ok-read_exactly.bytes between last c.in-Ok-read_exactly.ensures.only_reads))

pub returns-in-Some-clause-log : goal.returns-in-Some-clause-log
returns-in-Some-clause-log g c =
    let end = front_size c.args.table.now c.args.name.now in
    let count : 0 + c.front_size-start.result ≡ end = omega (arith, c.front_size-start.ensures, ap length c.requires.parts) in
    front_log c.args.file.now c.front_size-start.result end (g.S.Shelf.log c.args.shelf.now) (g.S.Shelf.log c.file_length.new.shelf) (g.S.Shelf.log c.read_exactly.new.shelf) count c.in-Ok.ensures.log c.in-Ok-read_exactly.ensures.log

pub returns-in-None-clause-only_reads : goal.returns-in-None-clause-only_reads
returns-in-None-clause-only_reads g c =
    let old = seen g.S.Shelf c.args.shelf.now in
    let between = seen g.S.Shelf c.file_length.new.shelf in
    let last = seen g.S.Shelf c.read_exactly.new.shelf in
    reads_other (fault.NotASegment parts.Head) old last (other_fault parts.Head) (reads_after ⊥ old between last (reads_well c.in-Ok.size old between c.in-Ok.ensures.only_reads) (reads_well c.in-Ok-read_exactly.bytes between last c.in-Ok-read_exactly.ensures.only_reads))

pub returns-in-None-clause-log_of_fault : goal.returns-in-None-clause-log_of_fault
returns-in-None-clause-log_of_fault g c =
    let end = front_size c.args.table.now c.args.name.now in
    let count : 0 + c.front_size-start.result ≡ end = omega (arith, c.front_size-start.ensures, ap length c.requires.parts) in
    (end, le_refl end, front_log c.args.file.now c.front_size-start.result end (g.S.Shelf.log c.args.shelf.now) (g.S.Shelf.log c.file_length.new.shelf) (g.S.Shelf.log c.read_exactly.new.shelf) count c.in-Ok.ensures.log c.in-Ok-read_exactly.ensures.log)
