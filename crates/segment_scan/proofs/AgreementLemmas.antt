-- Rows that agree in the columns that a query names are the same to it.
use Rattle.std.proofs.Common.{◌≡◌, ◌∙◌, ◌==◌, ◌||◌, ◌&&◌, ◌∷◌, [], ℕ, pos, Bool, true, false, cond, Option, Some, None, List, map, refl, sym, ap, subst, eq-eqb}
use Rattle.std.specs.List.{filter, list_any}
use Rattle.std.specs.Option.{option_map_or}
use Rattle.std.specs.Ordering.{eq_by_cmp}
use Rattle.values.specs.declared.value.Value.{Value}
use Rattle.values.specs.Tests.{all_true, any_true, holds}
use Rattle.agg_laws.specs.States.{state_of}
use Rattle.table_schema.specs.declared.query.Agg.{Agg}
use Rattle.table_schema.specs.declared.query.BoundQuery.{BoundQuery}
use Rattle.table_schema.specs.declared.query.Conjunct.{Conjunct}
use Rattle.table_schema.specs.declared.query.Conjunct.TheVariants.{One, Many}
use Rattle.table_schema.specs.declared.query.Wide.{Wide}
use Rattle.table_schema.specs.declared.query.Wide.TheOpen.{Wide-F}
use Rattle.table_schema.specs.declared.query.Wide.TheFolds.{fold-roll-Wide, ind-Wide, map-Wide}
use Rattle.table_schema.specs.declared.query.Wide.TheViews.{roll-Wide}
use Rattle.table_schema.specs.Conditions.{all_hold, cell, conjunct_holds, wide_holds, wide_step}
use Rattle.group_table.specs.Groups.{has_key, key_of, key_order, number_for, number_of, some_states, states_for, states_of}
use Rattle.group_table.specs.Kept.{groups_in}
use Rattle.group_table.proofs.GroupsLemmas.{alike_adds}
use Rattle.group_table.specs.Shape.{shape_of}
use Rattle.scan_engine.specs.Scanned.{selected}
use Rattle.segment_scan.specs.Agreement.{Agree, AgreeAll, AgreeingAreSame}
use Rattle.segment_plan.specs.Named.{agg_names, conjunct_names, is_in, names_step, query_names, wide_names}

pub or_left : (a b : Bool) → a ≡ true → a || b ≡ true
or_left a b e = ap (λ c. c || b) e

pub or_right : (a b : Bool) → b ≡ true → a || b ≡ true
or_right true b e = refl
or_right false b e = e

-- ---- the filter

module _ (row other : List Value) where
  -- rows that have the same values where the condition names a column satisfy it alike
  abbrev IsAlike : Wide → Type 0
  IsAlike wide = ((column : ℕ) → wide_names column wide ≡ true → cell row column ≡ cell other column) → wide_holds row wide ≡ wide_holds other wide

  all_alike : (inner : List ((wide : Wide) × IsAlike wide)) → ((column : ℕ) → any_true (map (wide_names column) (map (λ e. e.0) inner)) ≡ true → cell row column ≡ cell other column)
      → all_true (map (wide_holds row) (map (λ e. e.0) inner)) ≡ all_true (map (wide_holds other) (map (λ e. e.0) inner))
  all_alike [] same = refl
  all_alike (w ∷ ws) same =
      let here : wide_holds row w.0 ≡ wide_holds other w.0 = w.1 (λ column is. same column (or_left (wide_names column w.0) (any_true (map (wide_names column) (map (λ e. e.0) ws))) is)) in
      let more = all_alike ws (λ column is. same column (or_right (wide_names column w.0) (any_true (map (wide_names column) (map (λ e. e.0) ws))) is)) in
      (λ i. here i && more i)

  any_alike : (inner : List ((wide : Wide) × IsAlike wide)) → ((column : ℕ) → any_true (map (wide_names column) (map (λ e. e.0) inner)) ≡ true → cell row column ≡ cell other column)
      → any_true (map (wide_holds row) (map (λ e. e.0) inner)) ≡ any_true (map (wide_holds other) (map (λ e. e.0) inner))
  any_alike [] same = refl
  any_alike (w ∷ ws) same =
      let here : wide_holds row w.0 ≡ wide_holds other w.0 = w.1 (λ column is. same column (or_left (wide_names column w.0) (any_true (map (wide_names column) (map (λ e. e.0) ws))) is)) in
      let more = any_alike ws (λ column is. same column (or_right (wide_names column w.0) (any_true (map (wide_names column) (map (λ e. e.0) ws))) is)) in
      (λ i. here i || more i)

  alike_step : (y : Wide-F ((wide : Wide) × IsAlike wide))
      → ((column : ℕ) → names_step column (map-Wide Wide Bool (wide_names column) (map-Wide ((wide : Wide) × IsAlike wide) Wide (λ e. e.0) y)) ≡ true → cell row column ≡ cell other column)
      → wide_step row (map-Wide Wide Bool (wide_holds row) (map-Wide ((wide : Wide) × IsAlike wide) Wide (λ e. e.0) y)) ≡ wide_step other (map-Wide Wide Bool (wide_holds other) (map-Wide ((wide : Wide) × IsAlike wide) Wide (λ e. e.0) y))
  alike_step (Wide-F.Leaf field test) same = ap (λ value. holds value test) (same field (eq-eqb field field refl))
  alike_step (Wide-F.All inner) same = all_alike inner same
  alike_step (Wide-F.Any inner) same = any_alike inner same

  wide_alike : (wide : Wide) → IsAlike wide
  wide_alike = ind-Wide IsAlike (λ x y is.
      subst (λ layer. IsAlike (roll-Wide layer)) is (λ same.
      fold-roll-Wide Bool (wide_step row) (map-Wide ((wide : Wide) × IsAlike wide) Wide (λ e. e.0) y)
      ∙ alike_step y (λ column named. same column (fold-roll-Wide Bool (names_step column) (map-Wide ((wide : Wide) × IsAlike wide) Wide (λ e. e.0) y) ∙ named))
      ∙ sym (fold-roll-Wide Bool (wide_step other) (map-Wide ((wide : Wide) × IsAlike wide) Wide (λ e. e.0) y))))

  conjunct_alike : (conjunct : Conjunct) → ((column : ℕ) → conjunct_names column conjunct ≡ true → cell row column ≡ cell other column) → conjunct_holds row conjunct ≡ conjunct_holds other conjunct
  conjunct_alike (One field test) same = ap (λ value. holds value test) (same field (eq-eqb field field refl))
  conjunct_alike (Many wide) same = wide_alike wide same

  pub conjuncts_alike : (conjuncts : List Conjunct) → ((column : ℕ) → list_any (conjunct_names column) conjuncts ≡ true → cell row column ≡ cell other column) → all_hold row conjuncts ≡ all_hold other conjuncts
  conjuncts_alike [] same = refl
  conjuncts_alike (c ∷ cs) same =
      let here : conjunct_holds row c ≡ conjunct_holds other c = conjunct_alike c (λ column is. same column (or_left (conjunct_names column c) (list_any (conjunct_names column) cs) is)) in
      let more : all_hold row cs ≡ all_hold other cs = conjuncts_alike cs (λ column is. same column (or_right (conjunct_names column c) (list_any (conjunct_names column) cs) is)) in
      (λ i. here i && more i)

  -- ---- keys and numbers

  pub keys_alike : (groups : List ℕ) → ((column : ℕ) → is_in groups column ≡ true → cell row column ≡ cell other column) → key_of groups row ≡ key_of groups other
  keys_alike [] same = refl
  keys_alike (g ∷ gs) same =
      let here : cell row g ≡ cell other g = same g (or_left (g == g) (is_in gs g) (eq-eqb g g refl)) in
      let more : key_of gs row ≡ key_of gs other = keys_alike gs (λ column is. same column (or_right (g == column) (is_in gs column) is)) in
      (λ i. here i ∷ more i)

  by_column : (o : Option ℕ) → ((column : ℕ) → option_map_or (λ c. c == column) o false ≡ true → cell row column ≡ cell other column)
      → option_map_or (λ c. number_of (cell row c)) o (pos 0) ≡ option_map_or (λ c. number_of (cell other c)) o (pos 0)
  by_column None same = refl
  by_column (Some c) same = ap number_of (same c (eq-eqb c c refl))

  pub number_alike : (agg : Agg) → ((column : ℕ) → agg_names column agg ≡ true → cell row column ≡ cell other column) → number_for agg row ≡ number_for agg other
  number_alike agg same = by_column agg.column same

-- ---- lists of rows

module _ (named : ℕ → Bool) where
  agreeing_kept : (keep : List Value → Bool) → ((row other : List Value) → Agree named row other → keep row ≡ keep other) → (rows others : List (List Value)) → AgreeAll named rows others → AgreeAll named (filter keep rows) (filter keep others)
  agreeing_kept keep alike [] [] zip = tt
  agreeing_kept keep alike [] (o ∷ os) zip = absurd zip
  agreeing_kept keep alike (r ∷ rs) [] zip = absurd zip
  agreeing_kept keep alike (r ∷ rs) (o ∷ os) zip = go (agreeing_kept keep alike rs os zip.1) (keep r) (keep o) (alike r o zip.0)
    where
      go : AgreeAll named (filter keep rs) (filter keep os) → (a b : Bool) → a ≡ b → AgreeAll named (cond a (r ∷ filter keep rs) (filter keep rs)) (cond b (o ∷ filter keep os) (filter keep os))
      go more true true e = (zip.0, more)
      go more true false e = absurd cc
      go more false true e = absurd cc
      go more false false e = more

  mapped : {X : Type 0} (f : List Value → X) → ((row other : List Value) → Agree named row other → f row ≡ f other) → (rows others : List (List Value)) → AgreeAll named rows others → map f rows ≡ map f others
  mapped f alike [] [] zip = refl
  mapped f alike [] (o ∷ os) zip = absurd zip
  mapped f alike (r ∷ rs) [] zip = absurd zip
  mapped f alike (r ∷ rs) (o ∷ os) zip =
      let here = alike r o zip.0 in
      let more = mapped f alike rs os zip.1 in
      (λ i. here i ∷ more i)

  states_alike : (aggs : List Agg) → ((column : ℕ) → list_any (agg_names column) aggs ≡ true → named column ≡ true) → (rows others : List (List Value)) → AgreeAll named rows others → states_of aggs rows ≡ states_of aggs others
  states_alike [] within rows others zip = refl
  states_alike (a ∷ aggs) within rows others zip =
      let here : map (number_for a) rows ≡ map (number_for a) others =
      mapped (number_for a) (λ row other agree. number_alike row other a (λ column is. agree column (within column (or_left (agg_names column a) (list_any (agg_names column) aggs) is)))) rows others zip in
      let more : states_of aggs rows ≡ states_of aggs others = states_alike aggs (λ column is. within column (or_right (agg_names column a) (list_any (agg_names column) aggs) is)) rows others zip in
      (λ i. state_of a.kind (here i) ∷ more i)

  some_alike : (aggs : List Agg) → ((column : ℕ) → list_any (agg_names column) aggs ≡ true → named column ≡ true) → (rows others : List (List Value)) → AgreeAll named rows others → some_states aggs rows ≡ some_states aggs others
  some_alike aggs within [] [] zip = refl
  some_alike aggs within [] (o ∷ os) zip = absurd zip
  some_alike aggs within (r ∷ rs) [] zip = absurd zip
  some_alike aggs within (r ∷ rs) (o ∷ os) zip = ap Some (states_alike aggs within (r ∷ rs) (o ∷ os) zip)

  module _ (groups : List ℕ) (aggs : List Agg) (groups_within : (column : ℕ) → is_in groups column ≡ true → named column ≡ true) (aggs_within : (column : ℕ) → list_any (agg_names column) aggs ≡ true → named column ≡ true) where
    key_alike : (row other : List Value) → Agree named row other → key_of groups row ≡ key_of groups other
    key_alike row other agree = keys_alike row other groups (λ column is. agree column (groups_within column is))

    group_alike : (rows others : List (List Value)) → AgreeAll named rows others → (key : List Value) → some_states aggs (filter (has_key groups key) rows) ≡ some_states aggs (filter (has_key groups key) others)
    group_alike rows others zip key =
        some_alike aggs aggs_within (filter (has_key groups key) rows) (filter (has_key groups key) others)
        (agreeing_kept (has_key groups key) (λ row other agree. ap (λ k. eq_by_cmp key_order key k) (key_alike row other agree)) rows others zip)

-- ---- a query

module _ (query : BoundQuery) where
  groups_in_names : (column : ℕ) → is_in query.groups column ≡ true → query_names query column ≡ true
  groups_in_names column is =
      or_left (list_any (conjunct_names column) query.conjuncts || is_in query.groups column) (list_any (agg_names column) query.aggs) (or_right (list_any (conjunct_names column) query.conjuncts) (is_in query.groups column) is)

  aggs_in_names : (column : ℕ) → list_any (agg_names column) query.aggs ≡ true → query_names query column ≡ true
  aggs_in_names column is = or_right (list_any (conjunct_names column) query.conjuncts || is_in query.groups column) (list_any (agg_names column) query.aggs) is

  pub conjuncts_in_names : (column : ℕ) → list_any (conjunct_names column) query.conjuncts ≡ true → query_names query column ≡ true
  conjuncts_in_names column is =
      or_left (list_any (conjunct_names column) query.conjuncts || is_in query.groups column) (list_any (agg_names column) query.aggs) (or_left (list_any (conjunct_names column) query.conjuncts) (is_in query.groups column) is)

  selected_alike : (rows others : List (List Value)) → AgreeAll (query_names query) rows others → AgreeAll (query_names query) (selected query rows) (selected query others)
  selected_alike rows others zip =
      agreeing_kept (query_names query) (λ row. all_hold row query.conjuncts)
      (λ row other agree. conjuncts_alike row other query.conjuncts (λ column is. agree column (conjuncts_in_names column is))) rows others zip

  -- and each key has the same aggregates of them
  pub added_alike : (rows others : List (List Value)) → AgreeAll (query_names query) rows others → (key : List Value) → states_for (shape_of query) (selected query rows) key ≡ states_for (shape_of query) (selected query others) key
  added_alike rows others zip key =
      group_alike (query_names query) query.groups query.aggs groups_in_names aggs_in_names (selected query rows) (selected query others) (selected_alike rows others zip) key

pub agreeing_same : AgreeingAreSame
agreeing_same query rows others zip = record {
  adds = λ count old new adds. record {
    of_query = adds.of_query;
    most = adds.most;
    groups = alike_adds (shape_of query) (selected query rows) (selected query others) (groups_in old) (groups_in new) (added_alike query rows others zip) adds.groups;
    fits = adds.fits;
  };
  overfull = λ table over new adds. over new (alike_adds (shape_of query) (selected query others) (selected query rows) (groups_in table) new (λ key. sym (added_alike query rows others zip key)) adds);
}
