use Rattle.std.proofs.Common.{◌≡◌, ◌+◌, ◌*◌, ◌++◌, ℕ, List, Option, IfSome, inr, arith, map, ap, subst}
use Rattle.outside.specs.Files.{bytes_at}
use Rattle.outside.specs.Reads.{Entry, LogsThrough, LogsUpTo}
use Rattle.outside.specs.Seen.{Seen, seen}
use Rattle.outside.specs.declared.place.Place.{Place}
use Rattle.outside.proofs.ReadLemmas.{LogsThrough-append, LogsThrough-none}
use Rattle.outside.proofs.SeenLemmas.{reads_after, reads_none}
use Rattle.values.specs.declared.value.Value.{Value}
use Rattle.values.specs.declared.value.Value.TheVariants.{Whole}
use Rattle.dictionary.specs.Pieces.{AreNumbersOf, NoNumbers}
use Rattle.dictionary.proofs.Numbers.{none_of}
use Rattle.segment_file.proofs.Faults.{reads_well}
use Rattle.segment_file.specs.declared.part.Part.TheVariants.{Dictionary}
use Rattle.segment_head.proofs.PieceLemmas.{pieces_bad, pieces_begin, pieces_end, pieces_more}
use Rattle.segment_head.proofs.Steps.{bad_fault}
use Rattle.segment_head.proofs.number_pieces.push_pieces.Goals as goal

pub pieces-init : goal.pieces-init
pieces-init g c =
    let place : Place = c.args.place.now in
    let log : Option (List Entry) = g.S.Shelf.log c.args.shelf.now in
    let at : place.offset + 4 ≡ place.offset + 4 + 0 = omega arith in
    record {
      read = pieces_begin c.args.kind (g.S.Shelf.held c.args.shelf.now) place c.args.count (map Whole c.args.numbers.now.items) (none_of c.args.kind (map Whole c.args.numbers.now.items) (ap (map Whole) c.requires.none));
      only_reads = reads_none (seen g.S.Shelf c.args.shelf.now);
      log = subst (λ n. LogsThrough place.file (place.offset + 4) n log log) at (LogsThrough-none place.file (place.offset + 4) log);
    }

pub returns-in-Err-clause-log : goal.returns-in-Err-clause-log
returns-in-Err-clause-log g c =
    let place : Place = c.args.place.now in
    let done : ℕ = c.pieces.done in
    let many : ℕ = c.min-many.result in
    let i = c.pieces.invariant in
    let a : Option (List Entry) = g.S.Shelf.log c.args.shelf.now in
    let b : Option (List Entry) = g.S.Shelf.log c.pieces.shelf in
    let e : Option (List Entry) = g.S.Shelf.log c.fill_exactly.new.shelf in
    let (to, le, through) = subst (λ f. LogsUpTo f (place.offset + 4 + 8 * done) (place.offset + 4 + 8 * done + 8 * many) b e) c.as_str-file.ensures c.in-Err.ensures.log_of_fault in
    (to, omega (arith, le, c.pieces-test.true, c.min-many.ensures, c.requires.room), LogsThrough-append place.file (place.offset + 4) (place.offset + 4 + 8 * done) to a b e i.log through)

pub returns-in-Err-push_numbers-clause-part : goal.returns-in-Err-push_numbers-clause-part
returns-in-Err-push_numbers-clause-part g c = λ p is.
    let place : Place = c.args.place.now in
    let done : ℕ = c.pieces.done in
    let many : ℕ = c.min-many.result in
    let i = c.pieces.invariant in
    let bad = bad_fault c.in-Err-push_numbers.fault c.of_dictionary.result p c.of_dictionary.ensures.memory is in
    let named = c.of_dictionary.ensures.bad bad in
    let told : IfSome (g.S.Shelf.held c.args.shelf.now) (λ files. c.fill_exactly.new.into.items ≡ bytes_at files place.file (place.offset + 4 + 8 * done) (8 * many)) =
    subst (λ h. IfSome h (λ files. c.fill_exactly.new.into.items ≡ bytes_at files place.file (place.offset + 4 + 8 * done) (8 * many))) i.only_reads.held
    (subst (λ f. IfSome (g.S.Shelf.held c.pieces.shelf) (λ files. c.fill_exactly.new.into.items ≡ bytes_at files f (place.offset + 4 + 8 * done) (8 * many))) c.as_str-file.ensures c.in-Ok.ensures.bytes) in
    inr (
      (let same : p ≡ Dictionary c.args.column = cc in same),
      pieces_bad c.args.kind (g.S.Shelf.held c.args.shelf.now) place done many c.args.count c.fill_exactly.new.into.items (map Whole c.pieces.numbers.items) c.requires.room (omega (arith, c.pieces-test.true, c.min-many.ensures)) told
          (λ before after r. subst (λ x. NoNumbers c.args.kind (before ++ (x ++ after))) c.deref.ensures.value (c.in-Err-push_numbers.ensures.bad bad before after r)) i.read,
    )

pub returns-in-Err-push_numbers-clause-log : goal.returns-in-Err-push_numbers-clause-log
returns-in-Err-push_numbers-clause-log g c =
    let place : Place = c.args.place.now in
    let done : ℕ = c.pieces.done in
    let many : ℕ = c.min-many.result in
    let i = c.pieces.invariant in
    let a : Option (List Entry) = g.S.Shelf.log c.args.shelf.now in
    let b : Option (List Entry) = g.S.Shelf.log c.pieces.shelf in
    let e : Option (List Entry) = g.S.Shelf.log c.fill_exactly.new.shelf in
    let to : ℕ = place.offset + 4 + 8 * done + 8 * many in
    let through : LogsThrough place.file (place.offset + 4 + 8 * done) to b e = subst (λ f. LogsThrough f (place.offset + 4 + 8 * done) to b e) c.as_str-file.ensures c.in-Ok.ensures.log in
    (to, omega (arith, c.pieces-test.true, c.min-many.ensures, c.requires.room), LogsThrough-append place.file (place.offset + 4) (place.offset + 4 + 8 * done) to a b e i.log through)

pub pieces-preserved : goal.pieces-preserved
pieces-preserved g c =
    let place : Place = c.args.place.now in
    let done : ℕ = c.pieces.done in
    let many : ℕ = c.min-many.result in
    let i = c.pieces.invariant in
    let old : Seen = seen g.S.Shelf c.args.shelf.now in
    let b : Seen = seen g.S.Shelf c.pieces.shelf in
    let e : Seen = seen g.S.Shelf c.fill_exactly.new.shelf in
    let new : List Value = map Whole c.push_numbers.new.numbers.items in
    let told : IfSome old.held (λ files. c.fill_exactly.new.into.items ≡ bytes_at files place.file (place.offset + 4 + 8 * done) (8 * many)) =
    subst (λ h. IfSome h (λ files. c.fill_exactly.new.into.items ≡ bytes_at files place.file (place.offset + 4 + 8 * done) (8 * many))) i.only_reads.held
    (subst (λ f. IfSome (g.S.Shelf.held c.pieces.shelf) (λ files. c.fill_exactly.new.into.items ≡ bytes_at files f (place.offset + 4 + 8 * done) (8 * many))) c.as_str-file.ensures c.in-Ok.ensures.bytes) in
    let to : ℕ = place.offset + 4 + 8 * done + 8 * many in
    let end : to ≡ place.offset + 4 + 8 * (done + many) = omega arith in
    let through : LogsThrough place.file (place.offset + 4 + 8 * done) to b.log e.log = subst (λ f. LogsThrough f (place.offset + 4 + 8 * done) to b.log e.log) c.as_str-file.ensures c.in-Ok.ensures.log in
    record {
      read = pieces_more c.args.kind old.held place done many c.args.count c.fill_exactly.new.into.items (map Whole c.pieces.numbers.items) new c.in-Ok.ensures.size (omega (arith, c.pieces-test.true, c.min-many.ensures)) told
          (λ before r. subst (λ x. AreNumbersOf c.args.kind (before ++ x) new) c.deref.ensures.value (c.in-Ok-push_numbers.ensures.ok before r)) i.read;
      only_reads = reads_after ⊥ old b e i.only_reads (reads_well tt b e c.in-Ok.ensures.only_reads);
      log = subst (λ n. LogsThrough place.file (place.offset + 4) n old.log e.log) end (LogsThrough-append place.file (place.offset + 4) (place.offset + 4 + 8 * done) to old.log b.log e.log i.log through);
    }

pub returns-clause-ok : goal.returns-clause-ok
returns-clause-ok g c =
    pieces_end c.args.kind (g.S.Shelf.held c.args.shelf.now) c.args.place.now c.pieces.done c.args.count (map Whole c.pieces.numbers.items) c.requires.room (λ lt. omega (arith, lt, c.pieces-test.false)) c.pieces.invariant.read
