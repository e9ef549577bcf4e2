use Rattle.std.proofs.Common.{◌∙◌, Ok, IfSome, ap, subst, arith}
use Rattle.table_store.specs.Segments.{AreFirstNames}
use Rattle.table_store.proofs.NameLemmas.{first_full, first_room}
use Rattle.table_store.proofs.segments.find_room.Goals as goal

pub returns-then-len-lt-MOST_SEGMENTS-clause-place : goal.returns-then-len-lt-MOST_SEGMENTS-clause-place
returns-then-len-lt-MOST_SEGMENTS-clause-place g c =
    let held = g.D.Shelf.held c.args.depot.now in
    let first = subst (λ h. IfSome h (λ told. AreFirstNames told c.in-Ok.names)) c.holds_segment.ensures.looks.reads.held c.in-Ok.ensures.names in
    record {
      free = c.holds_segment.ensures.no (c.in-Ok-false.is ∙ ap Ok c.in-Ok-false.field-0-test);
      room = first_room held c.in-Ok.names first (omega (arith, c.len.ensures, c.if-len-lt-MOST_SEGMENTS.true));
      taken = λ is. absurd cc;
      many = λ is. absurd cc;
    }

pub returns-in-Ok-clause-place : goal.returns-in-Ok-clause-place
returns-in-Ok-clause-place g c =
    let held = g.D.Shelf.held c.args.depot.now in
    let first = subst (λ h. IfSome h (λ told. AreFirstNames told c.in-Ok.names)) c.holds_segment.ensures.looks.reads.held c.in-Ok.ensures.names in
    record {
      free = tt;
      room = tt;
      taken = λ is. absurd cc;
      many = λ is. (c.holds_segment.ensures.no (c.in-Ok-false.is ∙ ap Ok c.in-Ok-false.field-0-test), first_full held c.in-Ok.names first (omega (arith, c.len.ensures, c.if-len-lt-MOST_SEGMENTS.false)));
    }
