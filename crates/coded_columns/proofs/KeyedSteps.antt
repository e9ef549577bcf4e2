-- What is kept of rows by their keys, with more rows.
use Rattle.std.proofs.Common.{◌≡◌, ◌≢◌, ◌∙◌, ◌<◌, ◌≤◌, ◌+◌, ◌-◌, ◌+ℤ◌, ◌++◌, ◌∷◌, ◌==◌, ◌⊎◌, [], ℕ, ℤ, pos, zero, suc, List, length, map, get_or, set, refl, ap, sym, subst, arith, inl, inr, count_by, true, false}
use Rattle.std.specs.List.{All}
use Rattle.std.proofs.lemmas.Bool.{cases_lt, cond-false, ne_eqb}
use Rattle.std.proofs.lemmas.List.{get_or-append_right, get_or-map, get_or-set_other, get_or-set_same, get_or_append_left, get_or_default, get_or_push, length-append, length-map, map-append}
use Rattle.values.specs.declared.value.Value.{Value}
use Rattle.values.specs.Columns.{row_of}
use Rattle.value_ids.specs.Coding.{AreBelow}
use Rattle.agg_laws.specs.declared.aggregate_kind.AggKind.{AggKind}
use Rattle.agg_laws.specs.declared.aggregate_kind.AggKind.TheVariants as kinds
use Rattle.agg_laws.specs.declared.states.AggState.{AggState}
use Rattle.agg_laws.specs.declared.states.AggState.TheVariants.{Count, Sum, Least, Greatest, Average}
use Rattle.agg_laws.specs.Numbers.{AreWhole, sum_of}
use Rattle.agg_laws.specs.Rows.{RowFits}
use Rattle.agg_laws.specs.States.{Fits, state_of, unit_of}
use Rattle.agg_laws.specs.laws.States as states
use Rattle.agg_laws.specs.laws.Sums as sums
use Rattle.group_table.specs.Groups.{key_of, number_for, states_of}
use Rattle.scan_engine.specs.Places.{rows_at}
use Rattle.table_schema.specs.declared.query.Agg.{Agg}
use Rattle.coded_columns.specs.declared.coded.SegmentColumns.{SegmentColumns}
use Rattle.coded_columns.specs.declared.placed_rows.PlacedRows.{PlacedRows}
use Rattle.coded_columns.specs.declared.keyed_rows.KeyedRows.{KeyedRows}
use Rattle.coded_columns.specs.declared.key_states.KeyStates.{KeyStates}
use Rattle.coded_columns.specs.Coded.{most_rows, table_of}
use Rattle.coded_columns.specs.Keyed.{AddsAgg, AddsNumbers, AddsPlaces, AllAdd, AllFit, HasFirst, HoldAggs, HoldsAgg, HoldsPacked, HoldsRows, IsFirst, SetsFirst, TakeKeys, TakesKeys, TakesRows, kind_in, rows_in, size_in, state_in}
use Rattle.coded_columns.specs.Keys.{AreKeys, key_at}
use Rattle.coded_columns.specs.Slots.{AreSlots, MoreStates, in_slot}
use Rattle.coded_columns.specs.declared.key_states.KeyStates.TheVariants.{Others}
use Rattle.state_columns.specs.Columns.{Column}
use Rattle.coded_columns.proofs.FoldSteps.{in_slot-count, in_slot-whole, whole-both}
use Rattle.coded_columns.proofs.SlotLemmas.{in_slot-append, in_slot-few, in_slot-map, in_slot-some}

-- ---- numbers that are added to the states of one aggregate

counted : AggState → ℕ
counted (Count c) = c
counted (Sum s) = 0
counted (Least m) = 0
counted (Greatest m) = 0
counted (Average a) = 0

summed : AggState → ℤ
summed (Count c) = pos 0
summed (Sum s) = s
summed (Least m) = pos 0
summed (Greatest m) = pos 0
summed (Average a) = pos 0

pub counts-more : (old new keys : List ℕ) (numbers : List ℤ) → length numbers ≡ length keys → ((k : ℕ) → get_or new k 0 ≡ get_or old k 0 + count_by (λ s. s == k) keys)
    → (before : ℕ → List ℤ) → ((k : ℕ) → k < length old → Count (get_or old k 0) ≡ state_of kinds.Count (before k))
    → (k : ℕ) → k < length old → Count (get_or new k 0) ≡ state_of kinds.Count (before k ++ in_slot k keys numbers)
unfolding counted
counts-more old new keys numbers same are before so k lt =
    ap Count (are k ∙ (λ i. ap counted (so k lt) i + sym (in_slot-count k keys numbers same) i) ∙ sym (length-append (before k) (in_slot k keys numbers)))

pub sums-more : (old new : List ℤ) (keys : List ℕ) (numbers : List ℤ) → ((k : ℕ) → get_or new k (pos 0) ≡ get_or old k (pos 0) +ℤ sum_of (in_slot k keys numbers))
    → (before : ℕ → List ℤ) → ((k : ℕ) → k < length old → Sum (get_or old k (pos 0)) ≡ state_of kinds.Sum (before k))
    → (k : ℕ) → k < length old → Sum (get_or new k (pos 0)) ≡ state_of kinds.Sum (before k ++ in_slot k keys numbers)
unfolding summed
sums-more old new keys numbers are before so k lt =
    ap Sum (are k ∙ ap (λ (s : ℤ). s +ℤ sum_of (in_slot k keys numbers)) (ap summed (so k lt)) ∙ sym (sums.of_both (before k) (in_slot k keys numbers)))

module _ (keys : List ℕ) (numbers : List ℤ) (old before after : KeyStates) where
  pub adds-counts : (counts new : List ℕ) → old ≡ before → length numbers ≡ length keys → kind_in before ≡ kinds.Count → kind_in after ≡ kinds.Count → size_in before ≡ length counts → size_in after ≡ length new → length new ≡ length counts
      → ((k : ℕ) → state_in before k ≡ Count (get_or counts k 0)) → ((k : ℕ) → state_in after k ≡ Count (get_or new k 0)) → ((k : ℕ) → get_or new k 0 ≡ get_or counts k 0 + count_by (λ s. s == k) keys)
      → AddsNumbers keys numbers old after
  adds-counts counts new is same kind kind_after size size_after long was now grown = record {
    kind = kind_after ∙ sym kind ∙ ap kind_in (sym is);
    size = size_after ∙ long ∙ sym size ∙ ap size_in (sym is);
    states = λ b are k lt.
        let own_kind : kind_in old ≡ kinds.Count = ap kind_in is ∙ kind in
        let own_size : size_in old ≡ length counts = ap size_in is ∙ size in
        now k
        ∙ counts-more counts new keys numbers same grown b
        (λ j j_lt. sym (was j) ∙ ap (λ (s : KeyStates). state_in s j) (sym is) ∙ are j (omega (arith, j_lt, own_size)) ∙ ap (λ kd. state_of kd (b j)) own_kind)
        k (omega (arith, lt, own_size))
        ∙ ap (λ kd. state_of kd (b k ++ in_slot k keys numbers)) (sym own_kind);
  }

  pub adds-sums : (totals new : List ℤ) → old ≡ before → kind_in before ≡ kinds.Sum → kind_in after ≡ kinds.Sum → size_in before ≡ length totals → size_in after ≡ length new → length new ≡ length totals
      → ((k : ℕ) → state_in before k ≡ Sum (get_or totals k (pos 0))) → ((k : ℕ) → state_in after k ≡ Sum (get_or new k (pos 0)))
      → ((k : ℕ) → get_or new k (pos 0) ≡ get_or totals k (pos 0) +ℤ sum_of (in_slot k keys numbers))
      → AddsNumbers keys numbers old after
  adds-sums totals new is kind kind_after size size_after long was now grown = record {
    kind = kind_after ∙ sym kind ∙ ap kind_in (sym is);
    size = size_after ∙ long ∙ sym size ∙ ap size_in (sym is);
    states = λ b are k lt.
        let own_kind : kind_in old ≡ kinds.Sum = ap kind_in is ∙ kind in
        let own_size : size_in old ≡ length totals = ap size_in is ∙ size in
        now k
        ∙ sums-more totals new keys numbers grown b
        (λ j j_lt. sym (was j) ∙ ap (λ (s : KeyStates). state_in s j) (sym is) ∙ are j (omega (arith, j_lt, own_size)) ∙ ap (λ kd. state_of kd (b j)) own_kind)
        k (omega (arith, lt, own_size))
        ∙ ap (λ kd. state_of kd (b k ++ in_slot k keys numbers)) (sym own_kind);
  }

  pub adds-others : (column new : Column) → old ≡ before → before ≡ Others column → after ≡ Others new → MoreStates keys numbers column new → AddsNumbers keys numbers old after
  adds-others column new is was now m =
      let whole : old ≡ Others column = is ∙ was in
      record {
        kind = ap kind_in now ∙ m.kind_is ∙ ap kind_in (sym whole);
        size = ap size_in now ∙ m.count_is ∙ ap size_in (sym whole);
        states = λ b are k lt.
            ap (λ (s : KeyStates). state_in s k) now
            ∙ m.each b (λ j j_lt. ap (λ (s : KeyStates). state_in s j) (sym whole) ∙ are j (omega (arith, j_lt, ap size_in whole)) ∙ ap (λ (s : KeyStates). state_of (kind_in s) (b j)) whole) k (omega (arith, lt, ap size_in whole))
            ∙ ap (λ (s : KeyStates). state_of (kind_in s) (b k ++ in_slot k keys numbers)) (sym whole);
      }

-- a count that there is not is 0
pub beyond : (counts : List ℕ) (k : ℕ) → length counts ≤ k → get_or counts k 0 ≡ 0
beyond [] k le = refl
beyond (x ∷ xs) zero le = absurd (omega (arith, le))
beyond (x ∷ xs) (suc k) le = beyond xs k (omega (arith, le))

-- ---- one aggregate of rows

module _ (size : ℕ) (agg : Agg) where
  abbrev pub number : List Value → ℤ
  number = number_for agg

  pub agg-none : (own : KeyStates) → kind_in own ≡ agg.kind → size_in own ≡ size → ((k : ℕ) → k < size → state_in own k ≡ unit_of agg.kind) → HoldsAgg size [] [] agg own
  agg-none own kind size_is each = record {
    kind = kind;
    size_is = size_is;
    whole = inr tt;
    states = λ k lt. each k lt ∙ sym (states.of_none agg.kind);
  }

  both-whole : (rows more : List (List Value)) (kind : AggKind) → kind ≡ agg.kind → (agg.kind ≡ kinds.Count) ⊎ AreWhole (map number rows) → (kind ≡ kinds.Count) ⊎ AreWhole (map number more) → (agg.kind ≡ kinds.Count) ⊎ AreWhole (map number (rows ++ more))
  both-whole rows more kind is (inl count) more_whole = inl count
  both-whole rows more kind is (inr own) (inl count) = inl (sym is ∙ count)
  both-whole rows more kind is (inr own) (inr next) = inr (subst (λ (l : List ℤ). AreWhole l) (sym (map-append number rows more)) (whole-both (map number rows) (map number more) own next))

  -- with more rows
  pub agg-more : (keys more_keys : List ℕ) (rows more : List (List Value)) (old new : KeyStates) → length keys ≡ length rows → HoldsAgg size keys rows agg old → AddsAgg agg more_keys more old new → HoldsAgg size (keys ++ more_keys) (rows ++ more) agg new
  agg-more keys more_keys rows more old new same h a =
      let firsts = λ (k : ℕ). in_slot k keys (map number rows) in
      let lengths : length keys ≡ length (map number rows) = same ∙ sym (length-map rows number) in
      let both : (k : ℕ) → firsts k ++ in_slot k more_keys (map number more) ≡ in_slot k (keys ++ more_keys) (map number (rows ++ more)) =
      λ k. sym (in_slot-append k keys more_keys (map number rows) (map number more) lengths)
      ∙ ap (in_slot k (keys ++ more_keys)) (sym (map-append number rows more)) in
      record {
        kind = a.numbers.kind ∙ h.kind;
        size_is = a.numbers.size ∙ h.size_is;
        whole = both-whole rows more (kind_in old) h.kind h.whole a.whole;
        states = λ k lt.
            a.numbers.states firsts (λ j j_lt. h.states j (omega (arith, j_lt, h.size_is)) ∙ ap (λ kind. state_of kind (firsts j)) (sym h.kind)) k (omega (arith, lt, h.size_is))
            ∙ (λ i. state_of (h.kind i) (both k i));
      }

  as-many : (keys : List ℕ) (rows : List (List Value)) (k : ℕ) → length (in_slot k keys (map number rows)) ≡ length (in_slot k keys rows)
  as-many keys rows k = ap length (in_slot-map number k keys rows) ∙ length-map (in_slot k keys rows) number

  fits-by : (keys : List ℕ) (rows : List (List Value)) (k : ℕ) → (agg.kind ≡ kinds.Count) ⊎ AreWhole (map number rows) → Fits (state_of agg.kind (in_slot k keys (map number rows))) (length (in_slot k keys (map number rows)))
  fits-by keys rows k (inl count) = subst (λ (kind : AggKind). Fits (state_of kind (in_slot k keys (map number rows))) (length (in_slot k keys (map number rows)))) (sym count) (omega arith)
  fits-by keys rows k (inr whole) = states.fits_of agg.kind (in_slot k keys (map number rows)) (in_slot-whole k keys (map number rows) whole)

  -- the state of a key comes from its rows
  pub agg-fits : (keys : List ℕ) (rows : List (List Value)) (own : KeyStates) (k : ℕ) → HoldsAgg size keys rows agg own → k < size → Fits (state_in own k) (length (in_slot k keys rows))
  agg-fits keys rows own k h lt =
      subst (Fits (state_in own k)) (as-many keys rows k)
      (subst (λ (v : AggState). Fits v (length (in_slot k keys (map number rows)))) (sym (h.states k lt)) (fits-by keys rows k h.whole))

  pub agg-room : (keys : List ℕ) (rows : List (List Value)) (own : KeyStates) (n : ℕ) → HoldsAgg size keys rows agg own → length rows ≤ n → AllFit n own
  agg-room keys rows own n h le = λ k lt.
      states.fits_more (state_in own k) (length (in_slot k keys rows)) n (agg-fits keys rows own k h (omega (arith, lt, h.size_is))) (omega (arith, le, in_slot-few k keys rows))

  pub agg-state : (keys : List ℕ) (rows : List (List Value)) (own : KeyStates) (k : ℕ) → HoldsAgg size keys rows agg own → k < size → state_in own k ≡ state_of agg.kind (map number (in_slot k keys rows))
  agg-state keys rows own k h lt = h.states k lt ∙ ap (state_of agg.kind) (in_slot-map number k keys rows)

-- ---- all aggregates of rows

module _ (size : ℕ) where
  pub in-agg : (keys : List ℕ) (rows : List (List Value)) (aggs : List Agg) (owns : List KeyStates) (P : KeyStates → Type 0) → HoldAggs size keys rows aggs owns → ((agg : Agg) (own : KeyStates) → HoldsAgg size keys rows agg own → P own) → All P owns
  in-agg keys rows [] owns P h each = λ i own lt. absurd (omega (arith, lt, h.count))
  in-agg keys rows (a ∷ aggs) owns P h each = λ i own lt. each (get_or (a ∷ aggs) i a) (get_or owns i own) (h.each i a own (omega (arith, lt, h.count)))

  pub aggs-more : (keys more_keys : List ℕ) (rows more : List (List Value)) (aggs : List Agg) (olds news : List KeyStates) → length keys ≡ length rows → HoldAggs size keys rows aggs olds → AllAdd aggs more_keys more olds news → HoldAggs size (keys ++ more_keys) (rows ++ more) aggs news
  aggs-more keys more_keys rows more aggs olds news same h a = record {
    count = a.count ∙ h.count;
    each = λ i agg own lt. agg-more size (get_or aggs i agg) keys more_keys rows more (get_or olds i own) (get_or news i own) same (h.each i agg own lt) (a.each i agg own (omega (arith, lt, h.count)));
  }

  -- one aggregate more, of no rows
  pub agg-push : (aggs : List Agg) (owns : List KeyStates) (n : ℕ) (a : Agg) (new : KeyStates) → n < length aggs → a ≡ get_or aggs n a → length owns ≡ n
      → HoldsAgg size [] [] a new → ((i : ℕ) (agg : Agg) (own : KeyStates) → i < n → HoldsAgg size [] [] (get_or aggs i agg) (get_or owns i own))
      → (i : ℕ) (agg : Agg) (own : KeyStates) → i < n + 1 → HoldsAgg size [] [] (get_or aggs i agg) (get_or (owns ++ new ∷ []) i own)
  agg-push aggs owns n a new lt is many h so i agg own i_lt =
      elim (cases_lt i n) [
        | inl before ↦
            subst (HoldsAgg size [] [] (get_or aggs i agg)) (sym (get_or_append_left owns (new ∷ []) own i (omega (arith, before, many)))) (so i agg own before)
        | inr after ↦
            let here : i ≡ n = omega (arith, after, i_lt) in
            let agg_is : a ≡ get_or aggs i agg = is ∙ get_or_default aggs n a agg lt ∙ ap (λ j. get_or aggs j agg) (sym here) in
            subst (λ (x : Agg). HoldsAgg size [] [] x (get_or (owns ++ new ∷ []) i own)) agg_is
            (subst (HoldsAgg size [] [] a) (sym (get_or_push owns new own i (many ∙ sym here))) h)
      ]

  pub unit-push : (aggs : List Agg) (owns : List KeyStates) (n : ℕ) (d : Agg) (new : KeyStates) → n < length aggs → length owns ≡ n
      → kind_in new ≡ (get_or aggs n d).kind → size_in new ≡ size → ((k : ℕ) → k < size → state_in new k ≡ unit_of (get_or aggs n d).kind)
      → ((i : ℕ) (agg : Agg) (own : KeyStates) → i < n → HoldsAgg size [] [] (get_or aggs i agg) (get_or owns i own))
      → (i : ℕ) (agg : Agg) (own : KeyStates) → i < n + 1 → HoldsAgg size [] [] (get_or aggs i agg) (get_or (owns ++ new ∷ []) i own)
  unit-push aggs owns n d new lt many kind size_is each so =
      let a : Agg = get_or aggs n d in
      agg-push aggs owns n a new lt (get_or_default aggs n d a lt) many (agg-none size a new kind size_is each) so

  rest-of : (keys : List ℕ) (rows : List (List Value)) (agg : Agg) (own : KeyStates) (aggs : List Agg) (owns : List KeyStates) → HoldAggs size keys rows (agg ∷ aggs) (own ∷ owns) → HoldAggs size keys rows aggs owns
  rest-of keys rows agg own aggs owns h = record {
    count = omega (arith, h.count);
    each = λ i a o lt. h.each (suc i) a o (omega (arith, lt));
  }

  -- the states of a key, for the rows that have it
  pub row-states : (keys : List ℕ) (rows : List (List Value)) (aggs : List Agg) (owns : List KeyStates) (k : ℕ) → HoldAggs size keys rows aggs owns → k < size
      → map (λ own. state_in own k) owns ≡ states_of aggs (in_slot k keys rows)
  row-states keys rows [] [] k h lt = refl
  row-states keys rows [] (own ∷ owns) k h lt = absurd (omega (arith, h.count))
  row-states keys rows (agg ∷ aggs) [] k h lt = absurd (omega (arith, h.count))
  row-states keys rows (agg ∷ aggs) (own ∷ owns) k h lt = λ i.
      agg-state size agg keys rows own k (h.each 0 agg own (omega arith)) lt i
      ∷ row-states keys rows aggs owns k (rest-of keys rows agg own aggs owns h) lt i

  pub row-fits : (keys : List ℕ) (rows : List (List Value)) (aggs : List Agg) (owns : List KeyStates) (k : ℕ) → HoldAggs size keys rows aggs owns → k < size
      → RowFits (map (λ own. state_in own k) owns) (length (in_slot k keys rows))
  row-fits keys rows [] [] k h lt = tt
  row-fits keys rows [] (own ∷ owns) k h lt = absurd (omega (arith, h.count))
  row-fits keys rows (agg ∷ aggs) [] k h lt = absurd (omega (arith, h.count))
  row-fits keys rows (agg ∷ aggs) (own ∷ owns) k h lt = (
    agg-fits size agg keys rows own k (h.each 0 agg own (omega arith)) lt,
    row-fits keys rows aggs owns k (rest-of keys rows agg own aggs owns h) lt,
  )

  -- there is room for the numbers of rows more
  pub takes-more : (keys more_keys : List ℕ) (rows : List (List Value)) (aggs : List Agg) (owns : List KeyStates) → HoldAggs size keys rows aggs owns → AreBelow size more_keys → length rows + length more_keys ≤ most_rows → TakeKeys aggs more_keys owns
  takes-more keys more_keys rows aggs owns h below few = record {
    count = h.count;
    each = in-agg keys rows aggs owns (TakesKeys more_keys) h (λ agg own o. record {
      below = λ j d lt. omega (arith, below j d lt, o.size_is);
      fits = agg-room size agg keys rows own (most_rows - length more_keys) o (omega (arith, few));
    });
  }

-- each aggregate of rows more, one after another
pub all-next : (aggs : List Agg) (keys : List ℕ) (rows : List (List Value)) (olds news : List KeyStates) (n : ℕ) (a : Agg) (new own : KeyStates) → n < length news → length news ≡ length olds
    → ((i : ℕ) (agg : Agg) (d : KeyStates) → i < n → AddsAgg (get_or aggs i agg) keys rows (get_or olds i d) (get_or news i d)) → ((i : ℕ) (d : KeyStates) → n ≤ i → get_or news i d ≡ get_or olds i d)
    → n < length aggs → a ≡ get_or aggs n a → own ≡ get_or news n own → AddsAgg a keys rows own new
    → (i : ℕ) (agg : Agg) (d : KeyStates) → i < n + 1 → AddsAgg (get_or aggs i agg) keys rows (get_or olds i d) (get_or (set news n new) i d)
all-next aggs keys rows olds news n a new own lt many so rest in_aggs is own_is h i agg d i_lt =
    elim (cases_lt i n) [
      | inl front ↦ subst (AddsAgg (get_or aggs i agg) keys rows (get_or olds i d)) (sym (get_or-set_other news n i new d (λ e. omega (arith, e, front)))) (so i agg d front)
      | inr back ↦
          let here : i ≡ n = omega (arith, back, i_lt) in
          let agg_is : a ≡ get_or aggs i agg = is ∙ get_or_default aggs n a agg in_aggs ∙ ap (λ j. get_or aggs j agg) (sym here) in
          let old_is : own ≡ get_or olds i d = own_is ∙ get_or_default news n own d lt ∙ rest n d (omega arith) ∙ ap (λ j. get_or olds j d) (sym here) in
          let new_is : new ≡ get_or (set news n new) i d = sym (get_or-set_same news n new d lt) ∙ ap (λ j. get_or (set news n new) j d) (sym here) in
          subst (λ (x : Agg). AddsAgg x keys rows (get_or olds i d) (get_or (set news n new) i d)) agg_is
          (subst (λ (x : KeyStates). AddsAgg a keys rows x (get_or (set news n new) i d)) old_is
          (subst (AddsAgg a keys rows own) new_is h))
    ]

pub rest-next : (olds news : List KeyStates) (n : ℕ) (new : KeyStates) → ((i : ℕ) (d : KeyStates) → n ≤ i → get_or news i d ≡ get_or olds i d) → (i : ℕ) (d : KeyStates) → n + 1 ≤ i → get_or (set news n new) i d ≡ get_or olds i d
rest-next olds news n new rest i d le = get_or-set_other news n i new d (λ e. omega (arith, e, le)) ∙ rest i d (omega (arith, le))

-- ---- packed keys of rows

pub packed-below : (segment : SegmentColumns) (groups places keys : List ℕ) (size : ℕ) → AreKeys segment groups size → AreBelow segment.count places → keys ≡ map (key_at segment groups) places → AreBelow size keys
packed-below segment groups places keys size k below is =
    let key : ℕ → ℕ = key_at segment groups in
    subst (AreBelow size) (sym is) (λ j d lt.
    let in_places : j < length places = omega (arith, lt, length-map places key) in
    subst (λ n. n < size) (sym (get_or-map key places j 0 d in_places)) (k.below (get_or places j 0) (below j 0 in_places)))

pub packed-takes : (segment : SegmentColumns) (groups : List ℕ) (aggs : List Agg) (places keys : List ℕ) (rows : KeyedRows) (owns : List KeyStates) → TakesRows segment groups aggs (length places) rows → AreBelow segment.count places
    → keys ≡ map (key_at segment groups) places → owns ≡ rows.aggs.items → TakeKeys aggs keys owns
packed-takes segment groups aggs places keys rows owns t below is same =
    let many : length keys ≡ length places = ap length is ∙ length-map places (key_at segment groups) in
    subst (TakeKeys aggs keys) (sym same) (record {
      count = t.count;
      each = λ i d lt. record {
        below = λ j e j_lt. omega (arith, packed-below segment groups places keys (length rows.firsts.items) t.keys below is j e j_lt, t.sizes i d lt);
        fits = subst (λ n. AllFit (most_rows - n) (get_or rows.aggs.items i d)) (sym many) (t.fits i d lt);
      };
    })

-- rows added to all that is kept
pub adds-places : (placed : PlacedRows) (aggs : List Agg) (keys : List ℕ) (old new : KeyedRows) (firsts grown : List ℕ) (olds news : List KeyStates) → old.firsts.items ≡ firsts → new.firsts.items ≡ grown → length grown ≡ length firsts
    → old.aggs.items ≡ olds → new.aggs.items ≡ news → ((k : ℕ) → SetsFirst (length placed.places.now) keys placed.places.now k (get_or firsts k 0) (get_or grown k 0)) → AllAdd aggs keys (rows_in placed) olds news → AddsPlaces placed aggs keys old new
adds-places placed aggs keys old new firsts grown olds news f g long o n set_firsts all = record {
  size = ap length g ∙ long ∙ ap length (sym f);
  firsts = λ k. subst (λ (l : List ℕ). SetsFirst (length placed.places.now) keys placed.places.now k (get_or l k 0) (get_or new.firsts.items k 0)) (sym f)
      (subst (λ (l : List ℕ). SetsFirst (length placed.places.now) keys placed.places.now k (get_or firsts k 0) (get_or l k 0)) (sym g) (set_firsts k));
  states = subst (λ (l : List KeyStates). AllAdd aggs keys (rows_in placed) l new.aggs.items) (sym o) (subst (AllAdd aggs keys (rows_in placed) olds) (sym n) all);
}

-- ---- a row for each key

pub first-more : (count : ℕ) (key : ℕ → ℕ) (before places : List ℕ) (k old new : ℕ) → HasFirst count key before k old → SetsFirst (length places) (map key places) places k old new → AreBelow count places → HasFirst count key (before ++ places) k new
first-more count key before places k old new h s below =
    let own = in_slot k (map key before) before in
    let more = in_slot k (map key places) places in
    let both : in_slot k (map key (before ++ places)) (before ++ places) ≡ own ++ more =
    ap (λ (l : List ℕ). in_slot k l (before ++ places)) (map-append key before places) ∙ in_slot-append k (map key before) (map key places) before places (length-map before key) in
    let many : length (in_slot k (map key (before ++ places)) (before ++ places)) ≡ length own + length more = ap length both ∙ length-append own more in
    elim s [
      | inl kept ↦ record {
        none = λ e j lt.
            elim (cases_lt j (length before)) [
              | inl front ↦ λ has. h.none (sym kept.0 ∙ e) j front (ap key (sym (get_or_append_left before places 0 j front)) ∙ has)
              | inr back ↦
                  let there : j - length before < length places = omega (arith, back, lt, length-append before places) in
                  λ has. kept.1 (sym kept.0 ∙ e) (j - length before) there
                  (get_or-map key places (j - length before) 0 0 there ∙ ap key (sym (get_or-append_right before places (length before) j 0 refl back)) ∙ has)
            ];
        some = λ lt. let own = h.some (omega (arith, lt, kept.0)) in (omega (arith, own.0, kept.0), ap (λ n. key (n - 1)) kept.0 ∙ own.1);
        has = λ lt. omega (arith, many, h.has (omega (arith, lt, kept.0)));
      }
      | inr by ↦ record {
        none = λ e j lt. absurd (omega (arith, e, by.1.is));
        some = λ lt.
            let at : new - 1 ≡ get_or places by.1.at 0 = omega (arith, by.1.is) in
            (omega (arith, at, below by.1.at 0 by.1.within), ap key at ∙ sym (get_or-map key places by.1.at 0 0 by.1.within) ∙ by.1.has);
        has = λ lt. omega (arith, many, in_slot-some k (map key places) places by.1.at (length-map places key) by.1.within by.1.has);
      }
    ]

-- none of the rows has the key
pub in_slot-none : {X : Type 0} (keys : List ℕ) (k : ℕ) (xs : List X) → ((j : ℕ) → j < length keys → get_or keys j 0 ≢ k) → in_slot k keys xs ≡ []
in_slot-none [] k xs none = refl
in_slot-none (s ∷ keys) k [] none = refl
in_slot-none (s ∷ keys) k (x ∷ xs) none =
    cond-false (s == k) (x ∷ in_slot k keys xs) (in_slot k keys xs) (ne_eqb s k (none 0 (omega arith)))
    ∙ in_slot-none keys k xs (λ j lt. none (suc j) (omega (arith, lt)))

not-both : true ≡ false → ⊥
not-both e = cc

-- ---- all that is kept, by packed keys

module _ (segment : SegmentColumns) (groups : List ℕ) (aggs : List Agg) where
  abbrev pub key : ℕ → ℕ
  key = key_at segment groups

  abbrev pub rows-of : List ℕ → List (List Value)
  rows-of places = rows_at (table_of segment).columns places

  pub packed-more : (before places : List ℕ) (old new : KeyedRows) → HoldsPacked segment groups aggs before old → length new.firsts.items ≡ length old.firsts.items
      → ((k : ℕ) → SetsFirst (length places) (map key places) places k (get_or old.firsts.items k 0) (get_or new.firsts.items k 0)) → AllAdd aggs (map key places) (rows-of places) old.aggs.items new.aggs.items
      → AreBelow segment.count places → HoldsPacked segment groups aggs (before ++ places) new
  packed-more before places old new h long firsts adds below =
      let size : ℕ = length old.firsts.items in
      let same : size ≡ length new.firsts.items = sym long in
      let lengths : length (map key before) ≡ length (rows-of before) = length-map before key ∙ sym (length-map before (row_of (table_of segment).columns)) in
      record {
        keys = subst (AreKeys segment groups) same h.keys;
        firsts = λ k lt. first-more segment.count key before places k (get_or old.firsts.items k 0) (get_or new.firsts.items k 0) (h.firsts k (omega (arith, lt, long))) (firsts k) below;
        states = subst (λ n. HoldAggs n (map key (before ++ places)) (rows-of (before ++ places)) aggs new.aggs.items) same
            (subst (λ (ks : List ℕ). HoldAggs size ks (rows-of (before ++ places)) aggs new.aggs.items) (sym (map-append key before places))
            (subst (λ (rs : List (List Value)). HoldAggs size (map key before ++ map key places) rs aggs new.aggs.items) (sym (map-append (row_of (table_of segment).columns) before places))
            (aggs-more size (map key before) (map key places) (rows-of before) (rows-of places) aggs old.aggs.items new.aggs.items lengths h.states adds)));
      }

  pub packed-take : (before : List ℕ) (more : ℕ) (rows : KeyedRows) → HoldsPacked segment groups aggs before rows → length before + more ≤ most_rows → TakesRows segment groups aggs more rows
  packed-take before more rows h few =
      let size : ℕ = length rows.firsts.items in
      record {
        keys = h.keys;
        count = h.states.count;
        sizes = in-agg size (map key before) (rows-of before) aggs rows.aggs.items (λ own. size_in own ≡ size) h.states (λ agg own o. o.size_is);
        fits = in-agg size (map key before) (rows-of before) aggs rows.aggs.items (λ own. AllFit (most_rows - more) own) h.states
            (λ agg own o. agg-room size agg (map key before) (rows-of before) own (most_rows - more) o (omega (arith, few, length-map before (row_of (table_of segment).columns))));
      }

  -- none of the rows before the first
  pub packed-none : (size : ℕ) (rows : KeyedRows) → AreKeys segment groups size → length rows.firsts.items ≡ size → ((k : ℕ) → k < size → get_or rows.firsts.items k 0 ≡ 0)
      → HoldAggs size [] [] aggs rows.aggs.items → HoldsPacked segment groups aggs [] rows
  packed-none size rows keys many empty states = record {
    keys = subst (AreKeys segment groups) (sym many) keys;
    firsts = λ k lt.
        let zero_at = empty k (omega (arith, lt, many)) in
        record { none = λ e j j_lt. absurd (omega (arith, j_lt)); some = λ some. absurd (omega (arith, some, zero_at)); has = λ some. absurd (omega (arith, some, zero_at)) };
    states = subst (λ n. HoldAggs n [] [] aggs rows.aggs.items) (sym many) states;
  }

  -- packed keys are keys: rows of one key have one value in each group column
  pub packed-holds : (places : List ℕ) (rows : KeyedRows) → HoldsPacked segment groups aggs places rows → AreBelow segment.count places → HoldsRows segment groups aggs places rows
  packed-holds places rows h below =
      let many : length (map key places) ≡ length places = length-map places key in
      let at = λ (j : ℕ) (lt : j < length places). get_or-map key places j 0 0 lt in
      record {
        keys = map key places;
        holds = record {
          count = many;
          below = λ j lt.
              let in_places : j < length places = omega (arith, lt, many) in
              subst (λ n. n < length rows.firsts.items) (sym (at j in_places)) (h.keys.below (get_or places j 0) (below j 0 in_places));
          firsts = λ k lt.
              let f = h.firsts k lt in
              record {
                none = λ e j j_lt has.
                    let in_places : j < length places = omega (arith, j_lt, many) in
                    f.none e j in_places (sym (at j in_places) ∙ has);
                within = λ some. (f.some some).0;
                has = f.has;
                same = λ some j j_lt has.
                    h.keys.same (get_or places j 0) (get_or rows.firsts.items k 0 - 1) (below j 0 j_lt) (f.some some).0 (sym (at j j_lt) ∙ has ∙ sym (f.some some).1);
              };
          packed = record { few = λ are. h.keys.at_most; own = λ are k lt some. ((h.firsts k lt).some some).1 };
          states = h.states;
        };
      }

  -- ---- all that is kept, by slots

  slots-first : (places slots firsts : List ℕ) (k : ℕ) → AreSlots (table_of segment).columns groups places slots firsts → AreBelow segment.count places → k < length firsts → IsFirst segment groups slots places k (get_or places (get_or firsts k 0) 0 + 1)
  slots-first places slots firsts k st below lt =
      let first : ℕ = get_or firsts k 0 in
      let place : ℕ = get_or places first 0 in
      let back : place + 1 - 1 ≡ place = omega arith in
      record {
        none = λ e j j_lt has. omega (arith, e);
        within = λ some. omega (arith, below first 0 (st.firsts_in k lt));
        has = λ some. in_slot-some k slots places first st.count (st.firsts_in k lt) (st.firsts_have k lt);
        same = λ some j j_lt has.
            st.same j first j_lt (st.firsts_in k lt) (has ∙ sym (st.firsts_have k lt))
            ∙ ap (λ p. key_of groups (row_of (table_of segment).columns p)) (sym back);
      }

  pub slots-hold : (places slots firsts : List ℕ) (rows : KeyedRows) → AreSlots (table_of segment).columns groups places slots firsts → AreBelow segment.count places
      → rows.are_packed ≡ false → rows.firsts.items ≡ map (λ first. get_or places first 0 + 1) firsts → HoldAggs (length firsts) slots (rows-of places) aggs rows.aggs.items → HoldsRows segment groups aggs places rows
  slots-hold places slots firsts rows st below plain is states =
      let lead : ℕ → ℕ = λ first. get_or places first 0 + 1 in
      let many : length rows.firsts.items ≡ length firsts = ap length is ∙ length-map firsts lead in
      record {
        keys = slots;
        holds = record {
          count = st.count;
          below = λ j lt. omega (arith, st.below j (omega (arith, lt, st.count)), many);
          firsts = λ k lt.
              let k_lt : k < length firsts = omega (arith, lt, many) in
              let first_is : get_or rows.firsts.items k 0 ≡ lead (get_or firsts k 0) = ap (λ (l : List ℕ). get_or l k 0) is ∙ get_or-map lead firsts k 0 0 k_lt in
              subst (IsFirst segment groups slots places k) (sym first_is) (slots-first places slots firsts k st below k_lt);
          packed = record { few = λ are. absurd (not-both (sym are ∙ plain)); own = λ are. absurd (not-both (sym are ∙ plain)) };
          states = subst (λ n. HoldAggs n slots (rows-of places) aggs rows.aggs.items) (sym many) states;
        };
      }

  -- of no rows there is no key
  pub none-hold : (places : List ℕ) (rows : KeyedRows) → length places ≡ 0 → rows.firsts.items ≡ [] → HoldAggs 0 [] [] aggs rows.aggs.items → HoldsRows segment groups aggs places rows
  none-hold [] rows none firsts states =
      let few : length rows.firsts.items ≡ 0 = ap length firsts in
      record {
        keys = [];
        holds = record {
          count = refl;
          below = λ j lt. absurd (omega (arith, lt));
          firsts = λ k lt. absurd (omega (arith, lt, few));
          packed = record { few = λ are. omega (arith, few); own = λ are k lt. absurd (omega (arith, lt, few)) };
          states = subst (λ n. HoldAggs n [] [] aggs rows.aggs.items) (sym few) states;
        };
      }
  none-hold (p ∷ places) rows none firsts states = absurd (omega (arith, none))
