use Rattle.std.proofs.Common.{◌≡◌, ◌∙◌, ◌<◌, ◌+◌, ◌++◌, ◌∷◌, [], ℕ, ℤ, List, length, get_or, take}
use Rattle.std.proofs.Common.{sym, subst, arith, pos, replicate}
use Rattle.std.proofs.lemmas.List.{length-replicate, length-take-le, take_more}
use Rattle.agg_laws.specs.declared.aggregate_kind.AggKind.{AggKind}
use Rattle.state_columns.specs.Columns.{Column}
use Rattle.star_records.specs.Slots.{HoldsSlots}
use Rattle.star_records.proofs.SlotDocs as steps
use Rattle.star_records.proofs.slot_docs.add_zeros.Goals as goal

pub add_at-requires-clause-fits : goal.add_at-requires-clause-fits
add_at-requires-clause-fits c =
    let k : ℕ = c.loop-row.row in
    let slots : List ℕ = c.args.slots.now in
    let lengths = length-replicate k (pos 0) in
    steps.one-fits c.args.column.now.kind (length c.args.column.now.states) (take k slots)
    (replicate k (pos 0)) c.loop-row.column (get_or slots k 0) c.loop-row.invariant
    (c.requires.below k 0 c.loop-row-test.true) (pos 0) (steps.whole-zeros k) steps.whole-zero
    (omega (arith, lengths, c.loop-row-test.true, c.requires.at_most))

pub loop-row-preserved : goal.loop-row-preserved
loop-row-preserved c =
    let k : ℕ = c.loop-row.row in
    let slots : List ℕ = c.args.slots.now in
    let kind : AggKind = c.args.column.now.kind in
    let count : ℕ = length c.args.column.now.states in
    let slot : ℕ = get_or slots k 0 in
    let lt : k < length slots = c.loop-row-test.true in
    let lengths : length (take k slots) ≡ length (replicate k (pos 0)) =
    length-take-le k slots (omega (arith, lt)) ∙ sym (length-replicate k (pos 0)) in
    let h = steps.holds-more kind count (take k slots) (replicate k (pos 0)) c.loop-row.column slot
    c.loop-row.invariant (c.requires.below k 0 lt) (pos 0) lengths in
    subst (λ (ss : List ℕ). HoldsSlots kind count ss (replicate (k + 1) (pos 0)) c.add_at.new.self)
    (sym (take_more slots k 0 lt))
    (subst (λ (ns : List ℤ). HoldsSlots kind count (take k slots ++ slot ∷ []) ns c.add_at.new.self)
    (steps.one-zero k)
    (subst (λ (col : Column). HoldsSlots kind count (take k slots ++ slot ∷ [])
    (replicate k (pos 0) ++ pos 0 ∷ []) col) (sym c.add_at.ensures) h))

pub returns-clause-whole : goal.returns-clause-whole
returns-clause-whole c = steps.whole-zeros (length c.args.slots.now)
