use Rattle.std.proofs.Common.{◌≡◌, ◌+◌, ◌-◌, ℕ, List, Option, IfSome, inr, arith, refl, subst}
use Rattle.outside.specs.Files.{bytes_at}
use Rattle.outside.specs.Reads.{Entry, LogsThrough, LogsUpTo}
use Rattle.outside.specs.declared.place.Place.{Place}
use Rattle.outside.proofs.ReadLemmas.{LogsThrough-append, LogsThrough-none}
use Rattle.segment_file.specs.declared.part.Part.TheVariants.{Dictionary}
use Rattle.segment_head.proofs.PieceLemmas.{four_are, impossible_place, says_there, short_place}
use Rattle.segment_head.proofs.number_pieces.number_count.Goals as goal

pub returns-then-place-lt4-clause-part : goal.returns-then-place-lt4-clause-part
returns-then-place-lt4-clause-part g c = λ p is.
    inr ((let same : p ≡ Dictionary c.args.column = cc in same), short_place c.args.kind c.args.rows (g.S.Shelf.held c.args.shelf.now) c.args.place.now c.if-place-lt4.true)

pub returns-then-place-lt4-clause-log_of_fault : goal.returns-then-place-lt4-clause-log_of_fault
returns-then-place-lt4-clause-log_of_fault g c = (c.args.place.now.offset, omega arith, LogsThrough-none c.args.place.now.file c.args.place.now.offset (g.S.Shelf.log c.args.shelf.now))

pub returns-then-is_possible-clause-says : goal.returns-then-is_possible-clause-says
returns-then-is_possible-clause-says g c =
    let place : Place = c.args.place.now in
    says_there c.four_at-count.result (g.S.Shelf.held c.args.shelf.now) place c.in-Ok.bytes (omega (arith, c.if-place-lt4.false))
    (four_are c.four_at-count.result c.as_slice.result.now c.in-Ok.bytes c.four_at-count.ensures.spelled c.as_slice.ensures c.in-Ok.ensures.size)
    (subst (λ f. IfSome (g.S.Shelf.held c.args.shelf.now) (λ files. c.in-Ok.bytes ≡ bytes_at files f place.offset 4)) c.as_str-file.ensures c.in-Ok.ensures.bytes)

pub returns-in-Ok-read_exactly-clause-part : goal.returns-in-Ok-read_exactly-clause-part
returns-in-Ok-read_exactly-clause-part g c = λ p is.
    let place : Place = c.args.place.now in
    let rest : List ℕ = c.in-Ok-read_exactly.field-0 in
    inr (
      (let same : p ≡ Dictionary c.args.column = cc in same),
      impossible_place c.args.kind c.args.rows c.four_at-count.result (g.S.Shelf.held c.args.shelf.now) place c.in-Ok.bytes rest c.requires.numbers (omega (arith, c.if-place-lt4.false)) c.four_at-count.ensures.within
          (c.if-is_possible.ensures.no refl)
          (four_are c.four_at-count.result c.as_slice.result.now c.in-Ok.bytes c.four_at-count.ensures.spelled c.as_slice.ensures c.in-Ok.ensures.size)
          (subst (λ f. IfSome (g.S.Shelf.held c.args.shelf.now) (λ files. c.in-Ok.bytes ≡ bytes_at files f place.offset 4)) c.as_str-file.ensures c.in-Ok.ensures.bytes)
          c.in-Ok-read_exactly.ensures.size
          (subst (λ h. IfSome h (λ files. rest ≡ bytes_at files place.file (place.offset + 4) (place.length - 4))) c.in-Ok.ensures.only_reads.held
          (subst (λ f. IfSome (g.S.Shelf.held c.read_exactly.new.shelf) (λ files. rest ≡ bytes_at files f (place.offset + 4) (place.length - 4))) c.as_str-file.ensures c.in-Ok-read_exactly.ensures.bytes)),
    )

pub returns-in-Ok-read_exactly-clause-log_of_fault : goal.returns-in-Ok-read_exactly-clause-log_of_fault
returns-in-Ok-read_exactly-clause-log_of_fault g c =
    let place : Place = c.args.place.now in
    let a : Option (List Entry) = g.S.Shelf.log c.args.shelf.now in
    let b : Option (List Entry) = g.S.Shelf.log c.read_exactly.new.shelf in
    let e : Option (List Entry) = g.S.Shelf.log c.read_exactly-2.new.shelf in
    let to : ℕ = place.offset + 4 + (place.length - 4) in
    let first : LogsThrough place.file place.offset (place.offset + 4) a b = subst (λ f. LogsThrough f place.offset (place.offset + 4) a b) c.as_str-file.ensures c.in-Ok.ensures.log in
    let second : LogsThrough place.file (place.offset + 4) to b e = subst (λ f. LogsThrough f (place.offset + 4) to b e) c.as_str-file.ensures c.in-Ok-read_exactly.ensures.log in
    (to, omega (arith, c.if-place-lt4.false), LogsThrough-append place.file place.offset (place.offset + 4) to a b e first second)

pub returns-clause-log_of_fault : goal.returns-clause-log_of_fault
returns-clause-log_of_fault g c =
    let place : Place = c.args.place.now in
    let a : Option (List Entry) = g.S.Shelf.log c.args.shelf.now in
    let b : Option (List Entry) = g.S.Shelf.log c.read_exactly.new.shelf in
    let e : Option (List Entry) = g.S.Shelf.log c.read_exactly-2.new.shelf in
    let first : LogsThrough place.file place.offset (place.offset + 4) a b = subst (λ f. LogsThrough f place.offset (place.offset + 4) a b) c.as_str-file.ensures c.in-Ok.ensures.log in
    let (to, le, through) = subst (λ f. LogsUpTo f (place.offset + 4) (place.offset + 4 + (place.length - 4)) b e) c.as_str-file.ensures c.in-Err-read_exactly.ensures.log_of_fault in
    (to, omega (arith, le, c.if-place-lt4.false), LogsThrough-append place.file place.offset (place.offset + 4) to a b e first through)
