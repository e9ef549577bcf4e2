use Rattle.std.proofs.Common.{◌≡◌, ◌∙◌, ◌++◌, ℕ, List, Err, subst}
use Rattle.std.proofs.lemmas.List.{take-append-drop}
use Rattle.outside.specs.Seen.{Seen, seen}
use Rattle.segment_build.proofs.taking.give_bytes.Goals as goal

pub returns-in-Err : goal.returns-in-Err
returns-in-Err g c =
    let old : Seen = seen g.S.Shelf c.pieces.shelf in
    let now : Seen = seen g.S.Shelf c.take.new.shelf in
    let piece : List ℕ = c.split_at.result.0.now in
    let rest : List ℕ = c.split_at.result.1.now in
    let parted : piece ++ rest ≡ c.pieces.left.now =
    (λ i. c.split_at.ensures.front i ++ c.split_at.ensures.back i) ∙ take-append-drop 65536 c.pieces.left.now in
    c.pieces.invariant (Err c.in-Err.fault) c.take.new.self now
    (subst (λ l. g.T.Taker.takes l (Err c.in-Err.fault) c.pieces.taker old c.take.new.self now) parted
    (g.met.T.Taker.stops piece rest c.in-Err.fault c.pieces.taker c.take.new.self old now c.in-Err.ensures))

pub pieces-preserved : goal.pieces-preserved
pieces-preserved g c = λ r z u more.
    let old : Seen = seen g.S.Shelf c.pieces.shelf in
    let now : Seen = seen g.S.Shelf c.take.new.shelf in
    let piece : List ℕ = c.split_at.result.0.now in
    let rest : List ℕ = c.split_at.result.1.now in
    let parted : piece ++ rest ≡ c.pieces.left.now =
    (λ i. c.split_at.ensures.front i ++ c.split_at.ensures.back i) ∙ take-append-drop 65536 c.pieces.left.now in
    c.pieces.invariant r z u
    (subst (λ l. g.T.Taker.takes l r c.pieces.taker old z u) parted
    (g.met.T.Taker.joins piece rest r c.pieces.taker c.take.new.self z old now u c.in_default.ensures more))
