use Rattle.std.proofs.Common.{◌+◌, ℕ, List, Err, drop, subst, arith}
use Rattle.outside.specs.Seen.{Seen, seen}
use Rattle.state_columns.specs.Docs.{Doc}
use Rattle.state_columns.specs.Region.{range}
use Rattle.star_file.specs.Bytes.{doc_bytes}
use Rattle.segment_build.proofs.RangeLemmas.{range_last, range_then}
use Rattle.segment_build.proofs.section.give_docs.Goals as goal

pub pieces-init : goal.pieces-init
pieces-init g c = record { within = omega arith; left = λ r z u more. more }

pub returns-in-Err : goal.returns-in-Err
returns-in-Err g c =
    let at = c.pieces in
    let docs : List Doc = c.args.docs.now.tree.docs.docs in
    let to : ℕ = at.from + c.docs_at_once-many.result in
    let old : Seen = seen g.S.Shelf at.shelf in
    let now : Seen = seen g.S.Shelf c.give_range.new.shelf in
    let fault = c.in-Err.fault in
    at.invariant.left (Err fault) c.give_range.new.taker now
    (subst (λ b. g.T.Taker.takes b (Err fault) at.taker old c.give_range.new.taker now) (range_then docs at.from to (omega arith))
    (g.met.T.Taker.stops (doc_bytes (range at.from to docs)) (doc_bytes (drop to docs)) fault at.taker c.give_range.new.taker old now c.in-Err.ensures))

pub pieces-preserved : goal.pieces-preserved
pieces-preserved g c =
    let at = c.pieces in
    let docs : List Doc = c.args.docs.now.tree.docs.docs in
    let to : ℕ = at.from + c.docs_at_once-many.result in
    let old : Seen = seen g.S.Shelf at.shelf in
    let now : Seen = seen g.S.Shelf c.give_range.new.shelf in
    record {
      within = omega (arith, c.pieces-test.true);
      left = λ r z u more. at.invariant.left r z u
          (subst (λ b. g.T.Taker.takes b r at.taker old z u) (range_then docs at.from to (omega arith))
          (g.met.T.Taker.joins (doc_bytes (range at.from to docs)) (doc_bytes (drop to docs)) r at.taker c.give_range.new.taker z old now u c.in_default.ensures more));
    }

pub returns : goal.returns
returns g c =
    let at = c.pieces in
    let docs : List Doc = c.args.docs.now.tree.docs.docs in
    at.invariant.left c.give_range-2.result c.give_range-2.new.taker (seen g.S.Shelf c.give_range-2.new.shelf)
    (subst (λ ds. g.T.Taker.takes (doc_bytes ds) c.give_range-2.result at.taker (seen g.S.Shelf at.shelf) c.give_range-2.new.taker (seen g.S.Shelf c.give_range-2.new.shelf))
    (range_last docs at.from _ c.len-count.ensures.count) c.give_range-2.ensures)
