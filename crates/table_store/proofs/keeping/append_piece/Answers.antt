use Rattle.std.proofs.Common.{◌+◌, Err, ap, length, refl}
use Rattle.outside.proofs.SeenLemmas.{reads_so}
use Rattle.outside.specs.Seen.{Seen, seen}
use Rattle.segment_build.specs.FileReads.{file_up}
use Rattle.table_store.proofs.CopyLemmas.{of_reads, piece_moved}
use Rattle.table_store.proofs.keeping.append_piece.Goals as goal

pub returns-in-Err-Missing-clause-copies : goal.returns-in-Err-Missing-clause-copies
returns-in-Err-Missing-clause-copies g c =
    let a : Seen = seen g.D.Shelf c.args.depot.now in
    let b : Seen = seen g.D.Shelf c.read_bytes.new.shelf in
    let e = c.in-Err-Missing.ensures in
    let missing = c.in-Err-Missing.field-0-is in
    of_reads c.args.file.now _ _ a b (λ w. cc) (reads_so _ _ a b (λ r. absurd cc) (λ r. absurd (cc (missing, r))) e.only_reads) (file_up c.args.file.now c.args.offset (c.args.offset + c.args.count) a.log b.log e.log_of_fault)

pub returns-in-Err-Failed-clause-copies : goal.returns-in-Err-Failed-clause-copies
returns-in-Err-Failed-clause-copies g c =
    let a : Seen = seen g.D.Shelf c.args.depot.now in
    let b : Seen = seen g.D.Shelf c.read_bytes.new.shelf in
    let e = c.in-Err-Failed.ensures in
    of_reads c.args.file.now _ _ a b (λ w. cc) (reads_so _ _ a b (λ r. ap Err c.in-Err-Failed.field-0-is) (λ r. refl) e.only_reads) (file_up c.args.file.now c.args.offset (c.args.offset + c.args.count) a.log b.log e.log_of_fault)

pub returns-in-Err-NoMemory-clause-copies : goal.returns-in-Err-NoMemory-clause-copies
returns-in-Err-NoMemory-clause-copies g c =
    let a : Seen = seen g.D.Shelf c.args.depot.now in
    let b : Seen = seen g.D.Shelf c.read_bytes.new.shelf in
    let e = c.in-Err-NoMemory.ensures in
    let memory = c.in-Err-NoMemory.field-0-is in
    of_reads c.args.file.now _ _ a b (λ w. cc) (reads_so _ _ a b (λ r. absurd cc) (λ r. absurd (cc (memory, r))) e.only_reads) (file_up c.args.file.now c.args.offset (c.args.offset + c.args.count) a.log b.log e.log_of_fault)

pub returns-in-Ok-append-clause-copies : goal.returns-in-Ok-append-clause-copies
returns-in-Ok-append-clause-copies g c =
    let a : Seen = seen g.D.Shelf c.args.depot.now in
    let b : Seen = seen g.D.Shelf c.read_bytes.new.shelf in
    let d : Seen = seen g.D.Shelf c.append.new.self in
    let e = c.in-Ok.ensures in
    let offset = c.args.offset in
    piece_moved c.args.file.now c.as_slice.result.now offset (offset + length c.in-Ok.piece) (offset + c.args.count) c.append.result _ _ _ a b d (λ f. cc f) e.only_reads e.log c.append.ensures (λ r. cc r)
    ((λ w. absurd (cc w)), (λ f. absurd (cc (c.in-Ok-append.is, f))))

pub returns-in-Err-Failed-append-clause-copies : goal.returns-in-Err-Failed-append-clause-copies
returns-in-Err-Failed-append-clause-copies g c =
    let a : Seen = seen g.D.Shelf c.args.depot.now in
    let b : Seen = seen g.D.Shelf c.read_bytes.new.shelf in
    let d : Seen = seen g.D.Shelf c.append.new.self in
    let e = c.in-Ok.ensures in
    let offset = c.args.offset in
    let is = c.in-Err-Failed-append.is in
    let failed = c.in-Err-Failed-append.field-0-is in
    piece_moved c.args.file.now c.as_slice.result.now offset (offset + length c.in-Ok.piece) (offset + c.args.count) c.append.result _ _ _ a b d (λ f. cc f) e.only_reads e.log c.append.ensures (λ r. cc r)
    ((λ w. cc (is, failed)), (λ f. refl))

pub returns-in-Err-NoMemory-append-clause-copies : goal.returns-in-Err-NoMemory-append-clause-copies
returns-in-Err-NoMemory-append-clause-copies g c =
    let a : Seen = seen g.D.Shelf c.args.depot.now in
    let b : Seen = seen g.D.Shelf c.read_bytes.new.shelf in
    let d : Seen = seen g.D.Shelf c.append.new.self in
    let e = c.in-Ok.ensures in
    let offset = c.args.offset in
    let is = c.in-Err-NoMemory-append.is in
    let memory = c.in-Err-NoMemory-append.field-0-is in
    piece_moved c.args.file.now c.as_slice.result.now offset (offset + length c.in-Ok.piece) (offset + c.args.count) c.append.result _ _ _ a b d (λ f. cc f) e.only_reads e.log c.append.ensures (λ r. cc r)
    ((λ w. absurd (cc w)), (λ f. absurd (cc (is, memory, f))))
