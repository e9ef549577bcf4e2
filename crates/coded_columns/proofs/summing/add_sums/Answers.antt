use Rattle.std.proofs.Common.{◌≡◌, ◌∙◌, ◌<◌, ◌+◌, ◌-◌, ◌+ℤ◌, ℕ, ℤ, List, length, get_or, pos, take, ap, sym, subst, arith, inl, inr, to_z, of_z}
use Rattle.std.specs.Int.{w128}
use Rattle.std.proofs.lemmas.Bool.{cases_eq}
use Rattle.std.proofs.lemmas.Int.{ints, to_z-of_z}
use Rattle.std.proofs.lemmas.List.{length-take-le, take_all, take_more}
use Rattle.agg_laws.specs.Numbers.{IsWhole, SumFits, sum_of}
use Rattle.agg_laws.specs.laws.Sums as sums
use Rattle.value_ids.specs.Coding.{AreBelow}
use Rattle.coded_columns.specs.Coded.{most_rows}
use Rattle.coded_columns.specs.Slots.{in_slot}
use Rattle.coded_columns.proofs.FoldSteps.{sum-next, sums-fit, whole-at, whole-kept}
use Rattle.coded_columns.proofs.SlotLemmas.{in_slot-one, in_slot-other}
use Rattle.coded_columns.proofs.summing.add_sums.Goals as goal

pub returns-then-sums-eq1 : goal.returns-then-sums-eq1
returns-then-sums-eq1 c = λ key.
    let keys : List ℕ = c.args.keys.now in
    let numbers : List ℤ = c.args.numbers.now in
    let one : length c.args.sums.now ≡ 1 = omega (arith, c.if-sums-eq1.true) in
    let below : AreBelow 1 keys = subst (λ n. AreBelow n keys) one c.requires.below in
    let lengths : length keys ≡ length numbers = sym c.requires.keyed.same in
    let n : ℕ = most_rows - length keys in
    let first : to_z w128 (of_z w128 (get_or c.args.sums.now 0 (pos 0))) ≡ get_or c.args.sums.now 0 (pos 0) =
    to_z-of_z w128 (get_or c.args.sums.now 0 (pos 0)) (sums.fits_128 (get_or c.args.sums.now 0 (pos 0)) n (omega arith) (c.requires.fits 0 (omega (arith, one)))) in
    elim (cases_eq key 0) [
      | inl e ↦
          ap (λ s. get_or c.set_sum.new.sums s (pos 0)) e ∙ c.set_sum.ensures.own ∙ to_z-of_z w128 c.total_of-total.result (record { sfits = c.total_of-total.type_inv }) ∙ c.total_of-total.ensures
          ∙ ap (λ (s : ℤ). s +ℤ sum_of numbers) first
          ∙ ap (λ (l : List ℤ). get_or c.args.sums.now 0 (pos 0) +ℤ sum_of l) (sym (in_slot-one keys numbers lengths below))
          ∙ ap (λ s. get_or c.args.sums.now s (pos 0) +ℤ sum_of (in_slot s keys numbers)) (sym e)
      | inr ne ↦
          let none : sum_of (in_slot key keys numbers) ≡ pos 0 = ap sum_of (in_slot-other key keys numbers ne below) in
          omega (arith, ints, c.set_sum.ensures.others key ne, none)
    ]

pub loop-k-init : goal.loop-k-init
loop-k-init c = record {
  sums = λ key. omega (arith, ints);
  fits = λ key lt. sums.fits_more (get_or c.args.sums.now key (pos 0)) (most_rows - length c.args.keys.now) (most_rows - length c.args.keys.now + 0) (c.requires.fits key lt) (omega arith);
}

pub add_one-requires-clause-fits : goal.add_one-requires-clause-fits
add_one-requires-clause-fits c =
    let k : ℕ = c.loop-k.k in
    let keys : List ℕ = c.args.keys.now in
    let key : ℕ = get_or keys k 0 in
    sums.fits_more (get_or c.loop-k.sums key (pos 0)) (most_rows - length keys + k) most_rows
    (c.loop-k.invariant.fits key (omega (arith, c.requires.below k 0 c.loop-k-test.true, c.loop-k.auto.sums))) (omega (arith, c.loop-k-test.true, c.requires.keyed.at_most))

pub loop-k-preserved : goal.loop-k-preserved
loop-k-preserved c =
    let k : ℕ = c.loop-k.k in
    let keys : List ℕ = c.args.keys.now in
    let numbers : List ℤ = c.args.numbers.now in
    let key : ℕ = get_or keys k 0 in
    let x : ℤ = get_or numbers k (pos 0) in
    let n : ℕ = most_rows - length keys + k in
    let whole : IsWhole x = whole-at numbers k c.requires.keyed.whole in
    let in_keys : k < length keys = c.loop-k-test.true in
    let lt : k < length numbers = omega (arith, c.requires.keyed.same, in_keys) in
    let lengths : length (take k keys) ≡ length (take k numbers) =
    length-take-le k keys (omega (arith, in_keys)) ∙ sym (length-take-le k numbers (omega (arith, lt))) in
    let own : get_or c.add_one.new.sums key (pos 0) ≡ get_or c.loop-k.sums key (pos 0) +ℤ x = c.add_one.ensures.own ∙ ap (λ (w : ℤ). get_or c.loop-k.sums key (pos 0) +ℤ w) (whole-kept x whole) in
    let next : n + 1 ≡ most_rows - length keys + (k + 1) = omega arith in
    record {
      sums = λ s.
          sum-next c.args.sums.now c.loop-k.sums c.add_one.new.sums (take k keys) (take k numbers) key x lengths
          own c.add_one.ensures.others c.loop-k.invariant.sums s
          ∙ (λ i. get_or c.args.sums.now s (pos 0) +ℤ sum_of (in_slot s (sym (take_more keys k 0 in_keys) i) (sym (take_more numbers k (pos 0) lt) i)));
      fits = λ s s_lt. subst (λ (j : ℕ). SumFits (get_or c.add_one.new.sums s (pos 0)) j) next
          (sums-fit c.loop-k.sums c.add_one.new.sums key n x whole own c.add_one.ensures.others c.loop-k.invariant.fits (omega (arith, c.requires.below k 0 in_keys, c.loop-k.auto.sums)) s (omega (arith, s_lt, c.add_one.auto.sums)));
    }

pub returns : goal.returns
returns c = λ key.
    let k : ℕ = c.loop-k.k in
    let keys : List ℕ = c.args.keys.now in
    let numbers : List ℤ = c.args.numbers.now in
    let first : ℤ = get_or c.args.sums.now key (pos 0) in
    subst (λ (ss : List ℕ). get_or c.loop-k.sums key (pos 0) ≡ first +ℤ sum_of (in_slot key ss numbers)) (take_all k keys (omega (arith, c.loop-k-test.false)))
    (subst (λ (ns : List ℤ). get_or c.loop-k.sums key (pos 0) ≡ first +ℤ sum_of (in_slot key (take k keys) ns)) (take_all k numbers (omega (arith, c.loop-k-test.false, c.requires.keyed.same))) (c.loop-k.invariant.sums key))
