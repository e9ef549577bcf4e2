use Rattle.std.proofs.Common.{◌≡◌, ◌∙◌, ◌<◌, ◌+◌, ◌++◌, ◌∷◌, [], ℕ, ℤ, List, length, get_or, take}
use Rattle.std.proofs.Common.{ap, sym, subst, arith, rules, pos, FitsSigned, w64}
use Rattle.std.specs.Int.{cast_signed, cast_unsigned}
use Rattle.std.proofs.lemmas.Int.{to_z-of_z}
use Rattle.std.proofs.lemmas.List.{length-take-le, take_more}
use Rattle.agg_laws.specs.declared.aggregate_kind.AggKind.{AggKind}
use Rattle.state_columns.specs.Columns.{Column}
use Rattle.agg_laws.specs.Numbers.{AreWhole, IsWhole}
use Rattle.agg_laws.specs.laws.NumberBytes.{whole_64}
use Rattle.star_records.specs.Slots.{HoldsSlots}
use Rattle.star_records.proofs.SlotDocs as steps
use Rattle.star_records.proofs.slot_docs.add_numbers.Goals as goal

pub add_at-requires-clause-fits : goal.add_at-requires-clause-fits
add_at-requires-clause-fits c =
    let k : ℕ = c.loop-row.row in
    let slots : List ℕ = c.args.slots.now in
    let numbers : List ℤ = c.args.numbers.now in
    let lt : k < length numbers = omega (arith, c.requires.lengths, c.loop-row-test.true) in
    let fits : FitsSigned w64 (get_or numbers k (pos 0)) = search rules in
    let cast = to_z-of_z w64 (get_or numbers k (pos 0)) fits in
    let z : ℤ = cast_signed w64 (cast_unsigned w64 (get_or numbers k (pos 0))) in
    let whole : IsWhole z = subst IsWhole (sym cast) (whole_64 (get_or numbers k (pos 0)) fits) in
    let at_most = length-take-le k numbers (omega (arith, lt)) in
    steps.one-fits c.args.column.now.kind (length c.args.column.now.states) (take k slots)
    (take k numbers) c.loop-row.column (get_or slots k 0) c.loop-row.invariant.holds
    (c.requires.slots.below k 0 c.loop-row-test.true) z c.loop-row.invariant.whole whole
    (omega (arith, at_most, lt, c.requires.slots.at_most, c.requires.lengths))

pub loop-row-preserved : goal.loop-row-preserved
loop-row-preserved c =
    let k : ℕ = c.loop-row.row in
    let slots : List ℕ = c.args.slots.now in
    let numbers : List ℤ = c.args.numbers.now in
    let kind : AggKind = c.args.column.now.kind in
    let count : ℕ = length c.args.column.now.states in
    let slot : ℕ = get_or slots k 0 in
    let number : ℤ = get_or numbers k (pos 0) in
    let in_slots : k < length slots = c.loop-row-test.true in
    let lt : k < length numbers = omega (arith, c.requires.lengths, in_slots) in
    let fits : FitsSigned w64 (get_or numbers k (pos 0)) = search rules in
    let cast = to_z-of_z w64 (get_or numbers k (pos 0)) fits in
    let z : ℤ = cast_signed w64 (cast_unsigned w64 (get_or numbers k (pos 0))) in
    let lengths : length (take k slots) ≡ length (take k numbers) =
    length-take-le k slots (omega (arith, in_slots))
    ∙ sym (length-take-le k numbers (omega (arith, lt))) in
    let h = steps.holds-more kind count (take k slots) (take k numbers) c.loop-row.column slot
    c.loop-row.invariant.holds (c.requires.slots.below k 0 in_slots) z lengths in
    record {
      holds = subst (λ (ss : List ℕ). HoldsSlots kind count ss (take (k + 1) numbers) c.add_at.new.self)
          (sym (take_more slots k 0 in_slots))
          (subst (λ (ns : List ℤ). HoldsSlots kind count (take k slots ++ slot ∷ []) ns c.add_at.new.self)
          (ap (λ (w : ℤ). take k numbers ++ w ∷ []) cast ∙ sym (take_more numbers k (pos 0) lt))
          (subst (λ (col : Column). HoldsSlots kind count (take k slots ++ slot ∷ [])
          (take k numbers ++ z ∷ []) col) (sym c.add_at.ensures) h));
      whole = subst AreWhole (sym (take_more numbers k (pos 0) lt))
          (steps.whole-push (take k numbers) number c.loop-row.invariant.whole (whole_64 number fits));
    }
