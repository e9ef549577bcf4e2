use Rattle.std.proofs.Common.{◌≡◌, ◌∙◌, ◌≤◌, ◌<◌, ◌+◌, ◌-◌, ◌∷◌, [], ℕ, ℤ, List, length, get_or, set, drop, ap, sym, subst, arith, rules, pos, FitsSigned, w64}
use Rattle.std.specs.Int.{cast_signed, cast_unsigned}
use Rattle.std.proofs.lemmas.Int.{to_z-of_z}
use Rattle.std.proofs.lemmas.List.{get_or_default}
use Rattle.agg_laws.specs.Numbers.{IsWhole, most_values}
use Rattle.agg_laws.specs.laws.NumberBytes.{whole_64}
use Rattle.state_columns.specs.Columns.{all_added}
use Rattle.state_columns.proofs.AddedSteps as steps
use Rattle.state_columns.proofs.state_column.add_each_in.Goals as goal

pub loop-k-init : goal.loop-k-init
loop-k-init g c =
    let a = g.A.Aggregator in
    let laws = g.met.A.Aggregator.aggregate in
    let n : ℕ = most_values - length c.args.places.now in
    record {
      added = search rules;
      fits = λ place lt. laws.fits_more (get_or c.args.states.now place a.empty) n (n + 0)
          (c.requires.fits place lt) (omega arith);
    }

pub add-requires : goal.add-requires
add-requires g c =
    let a = g.A.Aggregator in
    let laws = g.met.A.Aggregator.aggregate in
    let k : ℕ = c.loop-k.k in
    let place : ℕ = get_or c.args.places.now k 0 in
    let value : ℤ = get_or c.args.values.now k (pos 0) in
    let n : ℕ = most_values - length c.args.places.now + k in
    let within : place < length c.loop-k.states =
    omega (arith, c.requires.places k 0 c.loop-k-test.true, c.loop-k.auto.states) in
    let fits : FitsSigned w64 value = search rules in
    let same = to_z-of_z w64 value fits in
    let z : ℤ = cast_signed w64 (cast_unsigned w64 value) in
    let whole : IsWhole z = subst IsWhole (sym same) (whole_64 value fits) in
    steps.one-fits laws _ n z
    (subst (λ s. a.fits s n)
    (get_or_default c.loop-k.states place a.empty c.index-states-places.result within)
    (c.loop-k.invariant.fits place within))
    whole (omega (arith, c.loop-k-test.true, c.requires.at_most))

pub loop-k-preserved : goal.loop-k-preserved
loop-k-preserved g c =
    let a = g.A.Aggregator in
    let laws = g.met.A.Aggregator.aggregate in
    let k : ℕ = c.loop-k.k in
    let places : List ℕ = c.args.places.now in
    let values : List ℤ = c.args.values.now in
    let states = c.loop-k.states in
    let place : ℕ = get_or places k 0 in
    let value : ℤ = get_or values k (pos 0) in
    let n : ℕ = most_values - length places + k in
    let in_places : k < length places = c.loop-k-test.true in
    let within : place < length states =
    omega (arith, c.requires.places k 0 in_places, c.loop-k.auto.states) in
    let fits : FitsSigned w64 value = search rules in
    let same = to_z-of_z w64 value fits in
    let here = get_or_default states place c.index-states-places.result a.empty within in
    let new : c.add.new.state ≡ a.merged (get_or states place a.empty) (a.of (value ∷ [])) =
    c.add.ensures ∙ (λ i. a.merged (here i) (a.of (same i ∷ []))) in
    let next : n + 1 ≡ most_values - length places + (k + 1) = omega arith in
    record {
      added = steps.added-next (λ s v. a.merged s (a.of (v ∷ []))) a.empty places values states _ k
          c.add.new.state in_places c.requires.same new c.loop-k.invariant.added;
      fits = subst (λ s. (i : ℕ) → i < length (set states place s)
          → a.fits (get_or (set states place s) i a.empty) (most_values - length places + (k + 1)))
          (sym new)
          (λ i lt. subst (λ j. a.fits (get_or (set states place (a.merged (get_or states place a.empty)
          (a.of (value ∷ [])))) i a.empty) j) next
          (steps.fit-next laws states place n value within (whole_64 value fits)
          c.loop-k.invariant.fits i (search rules)));
    }

pub returns : goal.returns
returns g c =
    let a = g.A.Aggregator in
    sym (steps.added-none (λ s v. a.merged s (a.of (v ∷ []))) a.empty c.args.places.now
    (drop c.loop-k.k c.args.values.now) c.loop-k.states c.loop-k.k (omega (arith, c.loop-k-test.false)))
    ∙ c.loop-k.invariant.added
