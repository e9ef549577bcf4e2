use Rattle.std.proofs.Common.{arith}
use Rattle.outside.specs.Seen.{Seen, seen}
use Rattle.table_store.proofs.CopyLemmas.{copied_short, copies_after, copies_so, copying_goes, copying_starts, of_begin, writes_as}
use Rattle.table_store.proofs.keeping.copy_file.Goals as goal

pub pieces-init : goal.pieces-init
pieces-init g c =
    let a : Seen = seen g.D.Shelf c.args.depot.now in
    let b : Seen = seen g.D.Shelf c.begin.new.self in
    let is = c.in-Ok.is in
    copying_starts c.args.file.now a b c.in-Ok.ensures.begun c.begin.ensures.held
    (writes_as c.args.file.now c.begin.result ⊥ ⊥ a b (λ none. none) ((λ none. absurd none), (λ fails. absurd (cc (is, fails)))) (of_begin c.begin.result a b c.begin.ensures))

pub returns-in-Err-clause-copies : goal.returns-in-Err-clause-copies
returns-in-Err-clause-copies g c =
    let a : Seen = seen g.D.Shelf c.args.depot.now in
    let b : Seen = seen g.D.Shelf c.pieces.depot in
    let d : Seen = seen g.D.Shelf c.append_piece.new.depot in
    copies_after c.args.file.now _ _ a b d c.pieces.invariant.copies (copies_so c.args.file.now _ _ _ _ b d ((λ r. cc r), (λ r. cc r)) ((λ w. cc w), (λ w. cc w)) c.in-Err.ensures.copies)

pub returns-then-n-eq0-clause-copied : goal.returns-then-n-eq0-clause-copied
returns-then-n-eq0-clause-copied g c =
    let a : Seen = seen g.D.Shelf c.args.depot.now in
    let b : Seen = seen g.D.Shelf c.pieces.depot in
    let d : Seen = seen g.D.Shelf c.append_piece.new.depot in
    copied_short c.args.file.now c.pieces.done c.piece_of-count.result c.in-Ok-append_piece.n a b d c.pieces.invariant c.in-Ok-append_piece.ensures.grown c.if-n-eq0.true (c.piece_of-count.ensures.some (omega (arith, c.pieces-test.true)))

pub returns-then-n-eq0-clause-copies : goal.returns-then-n-eq0-clause-copies
returns-then-n-eq0-clause-copies g c =
    let a : Seen = seen g.D.Shelf c.args.depot.now in
    let b : Seen = seen g.D.Shelf c.pieces.depot in
    let d : Seen = seen g.D.Shelf c.append_piece.new.depot in
    copies_after c.args.file.now _ _ a b d c.pieces.invariant.copies
    (copies_so c.args.file.now _ _ _ _ b d ((λ r. absurd (cc r)), (λ r. absurd (cc r))) ((λ w. absurd (cc w)), (λ w. absurd (cc w))) c.in-Ok-append_piece.ensures.copies)

pub pieces-preserved : goal.pieces-preserved
pieces-preserved g c =
    let a : Seen = seen g.D.Shelf c.args.depot.now in
    let b : Seen = seen g.D.Shelf c.pieces.depot in
    let d : Seen = seen g.D.Shelf c.append_piece.new.depot in
    copying_goes c.args.file.now c.pieces.done c.piece_of-count.result c.in-Ok-append_piece.n a b d c.pieces.invariant c.in-Ok-append_piece.ensures.grown c.append_piece.ensures.held
    (copies_so c.args.file.now _ _ ⊥ ⊥ b d ((λ r. absurd (cc r)), (λ none. absurd none)) ((λ w. absurd (cc w)), (λ none. absurd none)) c.in-Ok-append_piece.ensures.copies)
