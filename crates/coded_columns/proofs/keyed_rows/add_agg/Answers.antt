use Rattle.std.proofs.Common.{◌≡◌, ◌∙◌, ◌-◌, ℕ, List, get_or, length, map, drop, ap, subst, sym, refl, arith, inl, inr}
use Rattle.std.proofs.lemmas.Bool.{cases_lt}
use Rattle.std.proofs.lemmas.List.{length-map, take_at}
use Rattle.values.specs.declared.value.Value.{Value}
use Rattle.values.specs.Columns.{row_of}
use Rattle.agg_laws.specs.declared.states.AggState.TheVariants.{Count}
use Rattle.group_table.specs.Groups.{number_for}
use Rattle.coded_columns.specs.Coded.{most_rows, table_of}
use Rattle.coded_columns.specs.Keyed.{AllFit, kind_in, rows_in}
use Rattle.coded_columns.specs.declared.key_states.KeyStates.TheVariants.{Counts}
use Rattle.coded_columns.proofs.KeyedSteps.{adds-counts, beyond}
use Rattle.coded_columns.proofs.keyed_rows.add_agg.Goals as goal

pub count_keys-requires-clause-fits : goal.count_keys-requires-clause-fits
count_keys-requires-clause-fits c = λ key.
    let n : ℕ = most_rows - length c.args.keys.now in
    let counts : List ℕ = c.in-Counts.counts.items in
    let fits : AllFit n (Counts c.in-Counts.counts) = subst (AllFit n) c.in-Counts.is c.requires.takes.fits in
    let value : get_or c.deref_mut.result.now key 0 ≡ get_or counts key 0 = ap (λ (l : List ℕ). get_or l key 0) c.deref_mut.ensures.value in
    elim (cases_lt key (length counts)) [
      | inl lt ↦ omega (arith, fits key lt, value, c.requires.same, c.args.placed.few, c.args.placed.segment.now.coded.at_most)
      | inr le ↦ omega (arith, beyond counts key le, value, c.requires.same, c.args.placed.few, c.args.placed.segment.now.coded.at_most)
    ]

pub returns-in-Counts-clause-adds : goal.returns-in-Counts-clause-adds
returns-in-Counts-clause-adds c =
    let counts : List ℕ = c.in-Counts.counts.items in
    let rows : List (List Value) = rows_in c.args.placed in
    let new : List ℕ = c.count_keys.new.counts in
    let value : c.deref_mut.result.now ≡ counts = c.deref_mut.ensures.value in
    let many : length new ≡ length counts = omega (arith, c.count_keys.auto.counts, ap length value) in
    let filled = take_at new (drop (length new) counts) c.in-Counts.counts.len (omega (arith, many, c.in-Counts.counts.ok.0)) in
    let same : length (map (number_for c.args.agg.now) rows) ≡ length c.args.keys.now =
    length-map rows (number_for c.args.agg.now) ∙ length-map c.args.placed.places.now (row_of (table_of c.args.placed.segment.now).columns) ∙ sym c.requires.same in
    record {
      numbers =
          adds-counts c.args.keys.now (map (number_for c.args.agg.now) rows) c.args.own.now (Counts c.in-Counts.counts) _ counts new c.in-Counts.is same refl refl refl (ap length filled) many
          (λ k. refl) (λ k. ap (λ (l : List ℕ). Count (get_or l k 0)) filled)
          (λ k. omega (arith, c.count_keys.ensures k, ap (λ (l : List ℕ). get_or l k 0) value));
      whole = inl (ap kind_in c.in-Counts.is);
    }
