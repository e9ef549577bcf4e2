-- The aggregates of rows beside those of their documents.
use Rattle.std.proofs.Common.{◌≡◌, ◌∙◌, ℕ, ◌<◌}
use Rattle.std.proofs.Common.{List, [], ◌∷◌, Some, length, get_or, map, refl}
use Rattle.std.proofs.Common.{ap}
use Rattle.std.specs.Option.{option_map}
use Rattle.std.proofs.lemmas.List.{get_or-map}
use Rattle.std.proofs.lemmas.List.Elements.{All-head, All-tail}
use Rattle.values.specs.declared.value.Value.{Value}
use Rattle.agg_laws.specs.declared.states.AggState.{AggState}
use Rattle.agg_laws.specs.declared.states.AggState.TheVariants.{Count}
use Rattle.state_columns.specs.Docs as docs
use Rattle.agg_laws.specs.Rows.{head_of, row_of, tail_of}
use Rattle.agg_laws.specs.States.{state_of}
use Rattle.table_schema.specs.declared.query.Agg.{Agg}
use Rattle.group_table.specs.Groups.{number_for, some_states, states_of}

-- ---- the states of rows

-- the states of rows of numbers are the aggregates of the rows
rows_states : (pairs : List Agg) (rows : List (List Value))
    → row_of (map (λ pair. pair.kind) pairs)
    (map (λ row. map (λ pair. number_for pair row) pairs) rows) ≡ states_of pairs rows
rows_states [] rows = refl
rows_states (pair ∷ pairs) rows =
    λ i. state_of pair.kind (heads rows i) ∷ (ap (row_of (map (λ pair. pair.kind) pairs)) (tails rows)
    ∙ rows_states pairs rows) i
  where
    heads : (rows : List (List Value))
        → map head_of (map (λ row. map (λ pair. number_for pair row) (pair ∷ pairs)) rows)
        ≡ map (number_for pair) rows
    heads [] = refl
    heads (row ∷ rows) = ap (λ l. number_for pair row ∷ l) (heads rows)

    tails : (rows : List (List Value))
        → map tail_of (map (λ row. map (λ pair. number_for pair row) (pair ∷ pairs)) rows)
        ≡ map (λ row. map (λ pair. number_for pair row) pairs) rows
    tails [] = refl
    tails (row ∷ rows) = ap (λ l. map (λ pair. number_for pair row) pairs ∷ l) (tails rows)

-- those of the aggregates are those of their pairs
picked_states : (pairs : List Agg) (d : Agg) (rows : List (List Value)) (is : List ℕ)
    → ((i : ℕ) (d : ℕ) → i < length is → get_or is i d < length pairs)
    → map (λ i. get_or (states_of pairs rows) i (Count 0)) is
    ≡ states_of (map (λ i. get_or pairs i d) is) rows
picked_states pairs d rows [] all = refl
picked_states pairs d rows (i ∷ is) all =
    λ j. get_or-map (λ agg. state_of agg.kind (map (number_for agg) rows)) pairs i d (Count 0)
    (All-head (λ n. n < length pairs) i is all) j
    ∷ picked_states pairs d rows is (All-tail (λ n. n < length pairs) i is all) j

-- what rows have together, for the aggregates
pub rows_total : (pairs aggs : List Agg) (d : Agg) (is : List ℕ) (rows : List (List Value))
    → ((i : ℕ) (d : ℕ) → i < length is → get_or is i d < length pairs)
    → map (λ i. get_or pairs i d) is ≡ aggs
    → option_map (λ states. map (λ i. get_or states i (Count 0)) is)
    (docs.states_of (map (λ pair. pair.kind) pairs)
    (map (λ row. map (λ pair. number_for pair row) pairs) rows)) ≡ some_states aggs rows
rows_total pairs aggs d is [] all same = refl
rows_total pairs aggs d is (row ∷ rows) all same =
    ap Some (ap (λ (states : List AggState). map (λ i. get_or states i (Count 0)) is)
    (rows_states pairs (row ∷ rows))
    ∙ picked_states pairs d (row ∷ rows) is all
    ∙ ap (λ l. states_of l (row ∷ rows)) same)
