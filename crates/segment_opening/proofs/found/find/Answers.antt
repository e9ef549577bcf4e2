use Rattle.std.proofs.Common.{◌≡◌, ◌+◌, ◌*◌, length, Err, refl, ap}
use Rattle.outside.specs.Seen.{Seen, seen}
use Rattle.dictionary_reading.specs.Bounds.{bounds_of}
use Rattle.segment_file.specs.declared.fault.HeadFault.TheVariants as head
use Rattle.segment_reads.proofs.LogLemmas.{reads_as}
use Rattle.segment_opening.proofs.EmptyLemmas.{looked_log}
use Rattle.segment_opening.proofs.found.find.Goals as goal

pub returns-in-Ok-clause-looks : goal.returns-in-Ok-clause-looks
returns-in-Ok-clause-looks g c =
    let a : Seen = seen g.S.Shelf c.args.shelf.now in
    let b : Seen = seen g.S.Shelf c.matched.new.shelf in
    let table = c.args.table.now in
    let lt = c.requires.column in
    record {
      never_bad = λ part e. absurd cc;
      never_full = λ e. absurd cc;
      only_reads = reads_as a b c.in-Ok.ensures.reads.only_reads (λ e. absurd cc) (λ e. absurd cc);
      log = λ file end within ends.
          looked_log table c.args.head.now c.args.column (4 + 10920 * length (bounds_of c.args.test.now)) file end a.log b.log c.requires.opened lt within ends c.in-Ok.ensures.log;
    }

pub returns-in-Err-NotASegment-clause-looks : goal.returns-in-Err-NotASegment-clause-looks
returns-in-Err-NotASegment-clause-looks g c =
    let a : Seen = seen g.S.Shelf c.args.shelf.now in
    let b : Seen = seen g.S.Shelf c.matched.new.shelf in
    let table = c.args.table.now in
    let lt = c.requires.column in
    record {
      never_bad = λ part e. absurd cc;
      never_full = λ e. absurd cc;
      only_reads = reads_as a b c.in-Err-NotASegment.ensures.reads.only_reads (λ e. absurd cc) (λ e. let own : c.in-Err-NotASegment.field-0 ≡ head.ReadFault = cc in let is = c.in-Err-NotASegment.field-0-is in absurd cc);
      log = λ file end within ends.
          looked_log table c.args.head.now c.args.column (4 + 10920 * length (bounds_of c.args.test.now)) file end a.log b.log c.requires.opened lt within ends c.in-Err-NotASegment.ensures.log;
    }

pub returns-in-Err-ReadFault-clause-looks : goal.returns-in-Err-ReadFault-clause-looks
returns-in-Err-ReadFault-clause-looks g c =
    let a : Seen = seen g.S.Shelf c.args.shelf.now in
    let b : Seen = seen g.S.Shelf c.matched.new.shelf in
    let table = c.args.table.now in
    let lt = c.requires.column in
    record {
      never_bad = λ part e. absurd cc;
      never_full = λ e. absurd cc;
      only_reads = reads_as a b c.in-Err-ReadFault.ensures.reads.only_reads (λ e. ap Err c.in-Err-ReadFault.field-0-is) (λ e. refl);
      log = λ file end within ends.
          looked_log table c.args.head.now c.args.column (4 + 10920 * length (bounds_of c.args.test.now)) file end a.log b.log c.requires.opened lt within ends c.in-Err-ReadFault.ensures.log;
    }

pub returns-in-Err-NoMemory-clause-looks : goal.returns-in-Err-NoMemory-clause-looks
returns-in-Err-NoMemory-clause-looks g c =
    let a : Seen = seen g.S.Shelf c.args.shelf.now in
    let b : Seen = seen g.S.Shelf c.matched.new.shelf in
    let table = c.args.table.now in
    let lt = c.requires.column in
    record {
      never_bad = λ part e. absurd cc;
      never_full = λ e. absurd cc;
      only_reads = reads_as a b c.in-Err-NoMemory.ensures.reads.only_reads (λ e. absurd cc) (λ e. let own : c.in-Err-NoMemory.field-0 ≡ head.ReadFault = cc in let is = c.in-Err-NoMemory.field-0-is in absurd cc);
      log = λ file end within ends.
          looked_log table c.args.head.now c.args.column (4 + 10920 * length (bounds_of c.args.test.now)) file end a.log b.log c.requires.opened lt within ends c.in-Err-NoMemory.ensures.log;
    }
