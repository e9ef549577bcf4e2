use Rattle.std.proofs.Common.{◌≡◌, ◌+◌, length, subst, refl, arith}
use Rattle.outside.specs.Reads.{LogsThrough, LogsUpTo}
use Rattle.outside.proofs.ReadLemmas.{LogsFilled-through, logs-none, on-err}
use Rattle.outside.specs.Seen.{seen}
use Rattle.segment_file.specs.declared.fault.HeadFault.TheVariants.{NotASegment}
use Rattle.segment_file.specs.declared.part.Part.TheVariants as part
use Rattle.segment_file.proofs.Faults.{other_fault, reads_ended, reads_other, shelf_handed, shelf_well}
use Rattle.segment_file.proofs.reading.fill_exactly.Goals as goal

pub returns-in_err-resize-clause-log_of_fault : goal.returns-in_err-resize-clause-log_of_fault
returns-in_err-resize-clause-log_of_fault g c =
    let log = g.S.Shelf.log c.args.shelf.now in
    let offset = c.args.offset in
    let limit = offset + c.args.count in
    on-err c.from_residual.result (LogsUpTo c.args.file.now offset limit log log) (logs-none c.args.file.now offset limit log log (omega arith) refl)

pub returns-then-read-count-clause-log_of_fault : goal.returns-then-read-count-clause-log_of_fault
returns-then-read-count-clause-log_of_fault g c =
    let file = c.args.file.now in
    let offset = c.args.offset in
    let end = offset + c.in-Ok.read in
    let size : length c.deref_mut.result.now ≡ c.args.count = omega (arith, c.deref_mut.ensures.len, c.in_ok-resize.ensures.len) in
    (end, omega (arith, c.in-Ok.ensures.bound, size), LogsFilled-through file offset end (offset + length c.deref_mut.result.now) (g.S.Shelf.log c.args.shelf.now) (g.S.Shelf.log c.read_into.new.shelf) c.in-Ok.ensures.log)

pub returns-clause-log : goal.returns-clause-log
returns-clause-log g c =
    let file = c.args.file.now in
    let offset = c.args.offset in
    let first = g.S.Shelf.log c.args.shelf.now in
    let last = g.S.Shelf.log c.read_into.new.shelf in
    let size : c.in-Ok.read ≡ c.args.count = omega (arith, c.in-Ok.ensures.bound, c.if-read-count.false, c.deref_mut.ensures.len, c.in_ok-resize.ensures.len) in
    subst (λ n. LogsThrough file offset (offset + n) first last) size (LogsFilled-through file offset (offset + c.in-Ok.read) _ first last c.in-Ok.ensures.log)

pub returns-in-Err-clause-only_reads : goal.returns-in-Err-clause-only_reads
returns-in-Err-clause-only_reads g c =
    shelf_handed c.in-Err.fault c.from.result (seen g.S.Shelf c.args.shelf.now) (seen g.S.Shelf c.read_into.new.shelf) c.from.ensures.failed.0 c.from.ensures.failed.1 c.in-Err.ensures.only_reads

pub returns-then-read-count-clause-only_reads : goal.returns-then-read-count-clause-only_reads
returns-then-read-count-clause-only_reads g c =
    let old = seen g.S.Shelf c.args.shelf.now in
    let new = seen g.S.Shelf c.read_into.new.shelf in
    reads_other (NotASegment part.Head) old new (other_fault part.Head) (shelf_well c.in-Ok.read old new c.in-Ok.ensures.only_reads)

pub returns-clause-only_reads : goal.returns-clause-only_reads
returns-clause-only_reads g c =
    let old = seen g.S.Shelf c.args.shelf.now in
    let new = seen g.S.Shelf c.read_into.new.shelf in
    reads_ended tt old new (shelf_well c.in-Ok.read old new c.in-Ok.ensures.only_reads)

pub returns-in-Err-clause-log_of_fault : goal.returns-in-Err-clause-log_of_fault
returns-in-Err-clause-log_of_fault g c =
    let size : length c.deref_mut.result.now ≡ c.args.count = omega (arith, c.deref_mut.ensures.len, c.in_ok-resize.ensures.len) in
    subst (λ n. LogsUpTo c.args.file.now c.args.offset (c.args.offset + n) (g.S.Shelf.log c.args.shelf.now) (g.S.Shelf.log c.read_into.new.shelf)) size c.in-Err.ensures.log_of_fault
