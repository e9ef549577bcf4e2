use Rattle.std.proofs.Common.{◌≡◌, ◌∙◌, Option, IfSome, sym, subst}
use Rattle.outside.specs.Seen.{Seen, seen}
use Rattle.table_schema.specs.declared.query.Conjunct.TheVariants.{One}
use Rattle.segment_head.specs.Heads.{OfWhole}
use Rattle.segment_head.specs.Lookups.{OfColumn}
use Rattle.segment_opening.specs.Found.{IsFoundIn}
use Rattle.segment_head.specs.declared.column_ids.Matched.{Matched}
use Rattle.segment_opening.proofs.EmptyLemmas.{matches_same, matches_so, none_of}
use Rattle.segment_opening.proofs.FoundLemmas.{ids_found, looks_else, looks_err}
use Rattle.segment_opening.proofs.emptied.matches_none.Goals as goal

pub returns-in-Ok-Some-clause-none : goal.returns-in-Ok-Some-clause-none
returns-in-Ok-Some-clause-none g c = λ is.
    let table = c.args.table.now in
    let held = g.S.Shelf.held c.args.shelf.now in
    let seen_head = c.args.head.now in
    let column = c.in-One.column in
    let test = c.in-One.test in
    let matched = c.in-Ok-Some.matched in
    let told = subst (λ (o : Option Matched). IfSome o (λ m. OfWhole table held seen_head (OfColumn column (IsFoundIn test m)))) c.in-Ok-Some.field-0-is c.in-Ok-Some.ensures.found in
    matches_same table held seen_head (One column test) c.args.conjunct.now (sym c.in-One.is)
    (matches_so table held seen_head column test matched.ids (none_of matched.ids (sym c.is_empty.ensures ∙ is)) (ids_found table held seen_head column test matched told))

pub returns-in-Ok-Some-clause-looks : goal.returns-in-Ok-Some-clause-looks
returns-in-Ok-Some-clause-looks g c =
    looks_else c.args.table.now _ _ c.args.head.now (seen g.S.Shelf c.args.shelf.now) (seen g.S.Shelf c.find.new.shelf) c.in-Ok-Some.ensures.looks

pub returns-in-Ok-None-clause-looks : goal.returns-in-Ok-None-clause-looks
returns-in-Ok-None-clause-looks g c =
    looks_else c.args.table.now _ _ c.args.head.now (seen g.S.Shelf c.args.shelf.now) (seen g.S.Shelf c.find.new.shelf) c.in-Ok-None.ensures.looks

pub returns-in-Err-clause-looks : goal.returns-in-Err-clause-looks
returns-in-Err-clause-looks g c =
    looks_err c.args.table.now c.in-Err.fault c.args.head.now (seen g.S.Shelf c.args.shelf.now) (seen g.S.Shelf c.find.new.shelf) c.in-Err.ensures.looks
