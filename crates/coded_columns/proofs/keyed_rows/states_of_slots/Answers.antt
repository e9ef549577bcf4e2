use Rattle.std.proofs.Common.{◌≡◌, ◌∙◌, ◌<◌, ◌≤◌, ◌+◌, ◌-◌, ◌++◌, ℕ, List, length, map, take, drop, ap, sym, subst, arith}
use Rattle.std.proofs.lemmas.List.{length-drop, length-map, length-take-le, map-append, take_at}
use Rattle.std.proofs.lemmas.List.Elements.{All-drop, All-take}
use Rattle.std.proofs.Math.Seq.{take-add}
use Rattle.values.specs.declared.value.Value.{Value}
use Rattle.values.specs.Columns.{row_of}
use Rattle.coded_columns.specs.declared.key_states.KeyStates.{KeyStates}
use Rattle.coded_columns.specs.Coded.{table_of}
use Rattle.coded_columns.specs.Keyed.{AllAdd, HoldAggs}
use Rattle.coded_columns.proofs.AscendSteps.{ascend-part}
use Rattle.coded_columns.proofs.KeyedSteps.{aggs-more, takes-more}
use Rattle.coded_columns.proofs.keyed_rows.states_of_slots.Goals as goal

pub invariant_of-part : goal.invariant_of-part
invariant_of-part c =
    let from : ℕ = c.loop-from.from in
    let places : List ℕ = c.args.placed.places.now in
    let count : ℕ = c.args.placed.segment.now.count in
    let n : ℕ = c.min-to.result - from in
    let within : from + n ≤ length places = omega (arith, c.min-to.ensures, c.loop-from-test.true, c.requires.same) in
    record {
      within = All-take (λ p. p < count) n (drop from places) (All-drop (λ p. p < count) from places c.args.placed.within);
      few = omega (arith, length-take-le n (drop from places) (omega (arith, length-drop from places, within)), within, c.args.placed.few);
      ascend = ascend-part places from n within c.args.placed.ascend;
    }

pub add_all-requires-clause-takes : goal.add_all-requires-clause-takes
add_all-requires-clause-takes c =
    let from : ℕ = c.loop-from.from in
    let slots : List ℕ = c.args.slots.now in
    let places : List ℕ = c.args.placed.places.now in
    let row : ℕ → List Value = row_of (table_of c.args.placed.segment.now).columns in
    let n : ℕ = c.min-to.result - from in
    let part : List ℕ = take n (drop from slots) in
    let within : from ≤ length places = omega (arith, c.loop-from.invariant.within, c.requires.same) in
    let done : length (map row (take from places)) ≡ from = length-map (take from places) row ∙ length-take-le from places within in
    let many : length part ≡ n = length-take-le n (drop from slots) (omega (arith, length-drop from slots, c.min-to.ensures, c.loop-from-test.true)) in
    takes-more c.args.count (take from slots) part (map row (take from places)) c.args.aggs.now c.deref_mut.result.now
    (subst (λ (l : List KeyStates). HoldAggs c.args.count (take from slots) (map row (take from places)) c.args.aggs.now l) (sym c.deref_mut.ensures.value) c.loop-from.invariant.holds)
    (All-take (λ s. s < c.args.count) n (drop from slots) (All-drop (λ s. s < c.args.count) from slots c.requires.below))
    (omega (arith, done, many, c.min-to.ensures, c.loop-from-test.true, c.requires.same, c.args.placed.few, c.args.placed.segment.now.coded.at_most))

pub loop-from-preserved : goal.loop-from-preserved
loop-from-preserved c =
    let from : ℕ = c.loop-from.from in
    let to : ℕ = c.min-to.result in
    let slots : List ℕ = c.args.slots.now in
    let places : List ℕ = c.args.placed.places.now in
    let row : ℕ → List Value = row_of (table_of c.args.placed.segment.now).columns in
    let n : ℕ = to - from in
    let next : from + n ≡ to = omega (arith, c.min-to.ensures, c.loop-from-test.true) in
    let olds : List KeyStates = c.loop-from.owns.items in
    let news : List KeyStates = c.add_all.new.owns in
    let value : c.deref_mut.result.now ≡ olds = c.deref_mut.ensures.value in
    let many : length news ≡ c.loop-from.owns.len = omega (arith, c.add_all.auto.owns, ap length value, c.loop-from.owns.ok.0) in
    let filled = take_at news (drop (length news) olds) c.loop-from.owns.len many in
    let front : List ℕ = take from slots in
    let before : List ℕ = take from places in
    let part : List ℕ = take n (drop from slots) in
    let more : List ℕ = take n (drop from places) in
    let same : length front ≡ length (map row before) =
    length-take-le from slots c.loop-from.invariant.within ∙ sym (length-map before row ∙ length-take-le from places (omega (arith, c.loop-from.invariant.within, c.requires.same))) in
    let holds : HoldAggs c.args.count (front ++ part) (map row before ++ map row more) c.args.aggs.now news =
    aggs-more c.args.count front part (map row before) (map row more) c.args.aggs.now olds news same c.loop-from.invariant.holds
    (subst (λ (l : List KeyStates). AllAdd c.args.aggs.now part (map row more) l news) value c.in_ok-add_all.ensures) in
    record {
      within = omega (arith, c.min-to.ensures);
      holds = subst (λ (l : List KeyStates). HoldAggs c.args.count (take to slots) (map row (take to places)) c.args.aggs.now l) (sym filled)
          (subst (λ (m : ℕ). HoldAggs c.args.count (take m slots) (map row (take m places)) c.args.aggs.now news) next
          (subst (λ (l : List ℕ). HoldAggs c.args.count l (map row (take (from + n) places)) c.args.aggs.now news) (sym (take-add from n slots))
          (subst (λ (l : List (List Value)). HoldAggs c.args.count (front ++ part) l c.args.aggs.now news) (sym (ap (map row) (take-add from n places) ∙ map-append row before more)) holds)));
    }
