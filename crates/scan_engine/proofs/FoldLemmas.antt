-- The aggregates of rows in places of a table.
use Rattle.std.proofs.Common.{◌≡◌, ◌∙◌, ◌<◌, ◌≤◌, ◌+◌, ℕ, ℤ, pos, Bool, true, false, cond, List, [], ◌∷◌, ◌++◌, map, take, length, length-append, get_or, refl, sym, ap, arith}
use Rattle.std.proofs.lemmas.List.{map-append, take_more}
use Rattle.values.specs.Columns.{Listed, row_of}
use Rattle.agg_laws.specs.declared.states.AggState.{AggState}
use Rattle.agg_laws.specs.Rows.{RowFits}
use Rattle.agg_laws.specs.States.{Fits, state_of}
use Rattle.table_schema.specs.declared.query.Agg.{Agg}
use Rattle.group_table.specs.Groups.{number_for, states_of}
use Rattle.scan_engine.specs.Places.{rows_at}
use Rattle.scan_engine.specs.Scanned.{marked}

-- the numbers of rows for an aggregate, place by place
pub numbers_at : (agg : Agg) (columns : List Listed) (numbers : List ℤ) (places : List ℕ)
    → ((at : ℕ) → number_for agg (row_of columns at) ≡ get_or numbers at (pos 0))
    → map (λ at. get_or numbers at (pos 0)) places ≡ map (number_for agg) (rows_at columns places)
numbers_at agg columns numbers [] each = refl
numbers_at agg columns numbers (at ∷ places) each = λ i. sym (each at) i ∷ numbers_at agg columns numbers places each i

-- one aggregate more
pub states_more : (aggs : List Agg) (n : ℕ) (agg : Agg) (columns : List Listed) (numbers : List ℤ) (places : List ℕ) (states : List AggState) (state : AggState)
    → n < length aggs → agg ≡ get_or aggs n agg
    → ((at : ℕ) → number_for agg (row_of columns at) ≡ get_or numbers at (pos 0))
    → state ≡ state_of agg.kind (map (λ at. get_or numbers at (pos 0)) places)
    → states ≡ states_of (take n aggs) (rows_at columns places)
    → states ++ state ∷ [] ≡ states_of (take (n + 1) aggs) (rows_at columns places)
states_more aggs n agg columns numbers places states state lt got each is so =
    let rows = rows_at columns places in
    let one : state ≡ state_of agg.kind (map (number_for agg) rows) = is ∙ ap (state_of agg.kind) (numbers_at agg columns numbers places each) in
    (λ i. so i ++ one i ∷ [])
    ∙ sym (map-append (λ (a : Agg). state_of a.kind (map (number_for a) rows)) (take n aggs) (agg ∷ []))
    ∙ ap (λ (l : List Agg). states_of l rows) (sym (take_more aggs n agg lt ∙ ap (λ a. take n aggs ++ a ∷ []) (sym got)))

pub fits_push : (states : List AggState) (state : AggState) (n : ℕ) → RowFits states n → Fits state n → RowFits (states ++ state ∷ []) n
fits_push [] state n h k = (k, tt)
fits_push (s ∷ states) state n h k = (h.0, fits_push states state n h.1 k)

-- one place more, where it is marked
pub rows_marked : (columns : List Listed) (places : List ℕ) (at : ℕ) (mark : Bool) → rows_at columns (places ++ cond mark (at ∷ []) []) ≡ rows_at columns places ++ marked mark (row_of columns at)
rows_marked columns places at true = map-append (row_of columns) places (at ∷ [])
rows_marked columns places at false = map-append (row_of columns) places []

pub count_marked : (places : List ℕ) (at : ℕ) (mark : Bool) (n : ℕ) → length places ≤ n → length (places ++ cond mark (at ∷ []) []) ≤ n + 1
count_marked places at true n le = let more = length-append places (at ∷ []) in omega (arith, le, more)
count_marked places at false n le = let more = length-append places [] in omega (arith, le, more)
