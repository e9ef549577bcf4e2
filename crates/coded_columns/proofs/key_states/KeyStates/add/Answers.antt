use Rattle.std.proofs.Common.{◌≡◌, ◌∙◌, ◌<◌, ◌-◌, ◌+ℤ◌, ℕ, ℤ, List, get_or, length, drop, pos, ap, subst, sym, refl, arith, inl, inr}
use Rattle.std.proofs.lemmas.Bool.{cases_lt}
use Rattle.std.proofs.lemmas.List.{take_at}
use Rattle.agg_laws.specs.Numbers.{SumFits, most_values, sum_of}
use Rattle.agg_laws.specs.laws.States as states
use Rattle.agg_laws.specs.declared.states.AggState.TheVariants.{Count, Sum}
use Rattle.coded_columns.specs.Coded.{most_rows}
use Rattle.state_columns.specs.Columns.{state_at}
use Rattle.value_ids.specs.Coding.{AreBelow}
use Rattle.coded_columns.specs.Keyed.{AllFit, size_in}
use Rattle.coded_columns.specs.Slots.{MoreStates, in_slot}
use Rattle.coded_columns.specs.declared.key_states.KeyStates.{KeyStates}
use Rattle.coded_columns.specs.declared.key_states.KeyStates.TheVariants.{Counts, Sums, Others}
use Rattle.coded_columns.proofs.FoldSteps.{all-more}
use Rattle.coded_columns.proofs.KeyedSteps.{adds-counts, adds-others, adds-sums, beyond}
use Rattle.coded_columns.proofs.key_states.KeyStates.add.Goals as goal

pub count_keys-requires-clause-fits : goal.count_keys-requires-clause-fits
count_keys-requires-clause-fits c = λ key.
    let n : ℕ = most_rows - length c.args.keys.now in
    let counts : List ℕ = c.in-Counts.counts.items in
    let fits : AllFit n (Counts c.in-Counts.counts) = subst (AllFit n) c.in-Counts.is c.requires.fits in
    let value : get_or c.deref_mut.result.now key 0 ≡ get_or counts key 0 = ap (λ (l : List ℕ). get_or l key 0) c.deref_mut.ensures.value in
    elim (cases_lt key (length counts)) [
      | inl lt ↦ omega (arith, fits key lt, value, c.requires.keyed.at_most)
      | inr le ↦ omega (arith, beyond counts key le, value, c.requires.keyed.at_most)
    ]

pub add_sums-requires-clause-fits : goal.add_sums-requires-clause-fits
add_sums-requires-clause-fits c = λ key lt.
    let n : ℕ = most_rows - length c.args.keys.now in
    let fits : AllFit n (Sums c.in-Sums.sums) = subst (AllFit n) c.in-Sums.is c.requires.fits in
    let value : c.deref_mut-in-Sums.result.now ≡ c.in-Sums.sums.items = c.deref_mut-in-Sums.ensures.value in
    subst (λ (l : List ℤ). SumFits (get_or l key (pos 0)) n) (sym value) (fits key (subst (λ (l : List ℤ). key < length l) value lt))

pub add_each-requires-clause-fits : goal.add_each-requires-clause-fits
add_each-requires-clause-fits c = λ key lt.
    let n : ℕ = most_rows - length c.args.keys.now in
    states.fits_more (state_at c.in-Others.column key) n (most_values - length c.args.keys.now) (subst (AllFit n) c.in-Others.is c.requires.fits key lt) (omega arith)

pub returns-in-Counts : goal.returns-in-Counts
returns-in-Counts c =
    let counts : List ℕ = c.in-Counts.counts.items in
    let new : List ℕ = c.count_keys.new.counts in
    let value : c.deref_mut.result.now ≡ counts = c.deref_mut.ensures.value in
    let many : length new ≡ length counts = omega (arith, c.count_keys.auto.counts, ap length value) in
    let filled = take_at new (drop (length new) counts) c.in-Counts.counts.len (omega (arith, many, c.in-Counts.counts.ok.0)) in
    adds-counts c.args.keys.now c.args.numbers.now c.args.self.now (Counts c.in-Counts.counts) _ counts new c.in-Counts.is c.requires.keyed.same refl refl refl (ap length filled) many
    (λ k. refl) (λ k. ap (λ (l : List ℕ). Count (get_or l k 0)) filled)
    (λ k. omega (arith, c.count_keys.ensures k, ap (λ (l : List ℕ). get_or l k 0) value))

pub returns-in-Sums : goal.returns-in-Sums
returns-in-Sums c =
    let totals : List ℤ = c.in-Sums.sums.items in
    let new : List ℤ = c.add_sums.new.sums in
    let value : c.deref_mut-in-Sums.result.now ≡ totals = c.deref_mut-in-Sums.ensures.value in
    let many : length new ≡ length totals = omega (arith, c.add_sums.auto.sums, ap length value) in
    let filled = take_at new (drop (length new) totals) c.in-Sums.sums.len (omega (arith, many, c.in-Sums.sums.ok.0)) in
    adds-sums c.args.keys.now c.args.numbers.now c.args.self.now (Sums c.in-Sums.sums) _ totals new c.in-Sums.is refl refl refl (ap length filled) many
    (λ k. refl) (λ k. ap (λ (l : List ℤ). Sum (get_or l k (pos 0))) filled)
    (λ k. c.add_sums.ensures k ∙ ap (λ (l : List ℤ). get_or l k (pos 0) +ℤ sum_of (in_slot k c.args.keys.now c.args.numbers.now)) value)

pub returns-in-Others : goal.returns-in-Others
returns-in-Others c =
    let column = c.in-Others.column in
    let new = c.add_each.new.self in
    let below : AreBelow (length column.states) c.args.keys.now = subst (λ (own : KeyStates). AreBelow (size_in own) c.args.keys.now) c.in-Others.is c.requires.below in
    let more = subst (MoreStates c.args.keys.now c.args.numbers.now column) (sym c.add_each.ensures) (all-more column c.args.keys.now c.args.numbers.now below c.requires.keyed.same) in
    adds-others c.args.keys.now c.args.numbers.now c.args.self.now (Others column) (Others new) column new c.in-Others.is refl refl more
