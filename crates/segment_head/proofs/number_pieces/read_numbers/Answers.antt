use Rattle.std.proofs.Common.{◌+◌, List, Option, map, subst}
use Rattle.outside.specs.Reads.{Entry}
use Rattle.outside.specs.declared.place.Place.{Place}
use Rattle.outside.proofs.ReadLemmas.{LogsThrough-append}
use Rattle.values.specs.declared.value.Value.TheVariants.{Whole}
use Rattle.segment_head.specs.Pieces.{FailsPieces, HasNumbers}
use Rattle.segment_head.proofs.PieceLemmas.{numbers_dictionary, numbers_spelled, pieces_place}
use Rattle.segment_head.proofs.number_pieces.read_numbers.Goals as goal

pub of_numbers-requires : goal.of_numbers-requires
of_numbers-requires g c =
    numbers_dictionary c.args.kind (g.S.Shelf.held c.number_count.new.shelf) c.args.place.now c.in-Ok.count c.args.rows (map Whole c.push_pieces.new.numbers.items) c.requires.numbers c.in-Ok.ensures.ok c.in-Ok-push_pieces.ensures.ok

pub returns-in-Ok-push_pieces-clause-ok : goal.returns-in-Ok-push_pieces-clause-ok
returns-in-Ok-push_pieces-clause-ok g c =
    numbers_spelled c.args.kind (g.S.Shelf.held c.args.shelf.now) c.args.place.now c.in-Ok.count c.args.rows (map Whole c.push_pieces.new.numbers.items) c.of_numbers.result c.requires.numbers c.in-Ok.ensures.ok c.in-Ok.ensures.says
    (subst (λ h. HasNumbers c.args.kind h c.args.place.now (map Whole c.push_pieces.new.numbers.items)) c.in-Ok.ensures.only_reads.held c.in-Ok-push_pieces.ensures.ok)
    c.of_numbers.ensures

pub returns-in-Ok-push_pieces-clause-log : goal.returns-in-Ok-push_pieces-clause-log
returns-in-Ok-push_pieces-clause-log g c =
    let place : Place = c.args.place.now in
    let a : Option (List Entry) = g.S.Shelf.log c.args.shelf.now in
    let b : Option (List Entry) = g.S.Shelf.log c.number_count.new.shelf in
    let e : Option (List Entry) = g.S.Shelf.log c.push_pieces.new.shelf in
    let (to, le, through) = c.in-Ok-push_pieces.ensures.log in
    (to, le, LogsThrough-append place.file place.offset (place.offset + 4) to a b e c.in-Ok.ensures.log through)

pub returns-in-Err-push_pieces-clause-part : goal.returns-in-Err-push_pieces-clause-part
returns-in-Err-push_pieces-clause-part g c = λ p is.
    pieces_place c.args.kind c.args.rows c.args.column (g.S.Shelf.held c.args.shelf.now) c.args.place.now p c.requires.numbers
    (subst (λ h. FailsPieces c.args.kind c.args.column h c.args.place.now p) c.in-Ok.ensures.only_reads.held (c.in-Err-push_pieces.ensures.part p is))

pub returns-in-Err-push_pieces-clause-log : goal.returns-in-Err-push_pieces-clause-log
returns-in-Err-push_pieces-clause-log g c =
    let place : Place = c.args.place.now in
    let a : Option (List Entry) = g.S.Shelf.log c.args.shelf.now in
    let b : Option (List Entry) = g.S.Shelf.log c.number_count.new.shelf in
    let e : Option (List Entry) = g.S.Shelf.log c.push_pieces.new.shelf in
    let (to, le, through) = c.in-Err-push_pieces.ensures.log in
    (to, le, LogsThrough-append place.file place.offset (place.offset + 4) to a b e c.in-Ok.ensures.log through)
