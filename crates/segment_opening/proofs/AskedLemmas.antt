-- What was found for the conjuncts of a query, and the filter that asks for it by ids.
use Rattle.std.proofs.Common.{◌≡◌, ◌≢◌, ◌∙◌, ◌<◌, ◌≤◌, ◌+◌, ◌==◌, ◌||◌, ◌&&◌, ◌++◌, not, cond, drop, take, ℕ, zero, suc, pos, nat_eq, Bool, true, false, List, [], ◌∷◌, length, map, get_or, slice_get, Option, Some, None, IfSome, Result, Ok, Err, IfOk, refl, sym, ap, subst, eq-eqb, arith}
use Rattle.std.specs.List.{AllZip, filter, list_all, list_any, range_with_len}
use Rattle.std.proofs.lemmas.Bool.{eqb-true, false≢true, or_left, or_right}
use Rattle.std.proofs.lemmas.List.{take_more}
use Rattle.std.proofs.lemmas.List.FromFn.{get_or-map-range_with_len}
use Rattle.std.proofs.lemmas.Option.{slice_get-get_or}
use Rattle.outside.specs.Files.{Files, bytes_of}
use Rattle.values.specs.declared.value.Value.{Value}
use Rattle.values.specs.declared.value.Value.TheVariants.{Whole}
use Rattle.values.specs.declared.test.Test.{Test}
use Rattle.values.specs.Tests.{holds}
use Rattle.value_ids.specs.Dictionary.{Distinct, most_values}
use Rattle.value_ids.specs.Ids.{has_id, matching, matching_from, satisfies}
use Rattle.value_ids.proofs.IdLemmas.{each_matching}
use Rattle.table_schema.specs.ValidQuery.{IsValidQuery}
use Rattle.table_schema.specs.declared.query.BoundQuery.{BoundQuery}
use Rattle.table_schema.specs.declared.query.Conjunct.{Conjunct}
use Rattle.table_schema.specs.declared.query.Conjunct.TheVariants.{Many, One}
use Rattle.table_schema.specs.declared.table.Table.{Table}
use Rattle.segment_file.specs.Parts.{columns_of}
use Rattle.segment_head.specs.ColumnIds.{numbers_below}
use Rattle.segment_head.specs.Heads.{IsHead, IsLoaded, IsPartOf, OfWhole, Seen}
use Rattle.segment_head.specs.Lookups.{OfColumn}
use Rattle.segment_head.specs.declared.column_ids.Matched.{Matched}
use Rattle.segment_plan.specs.Matched.{is_filtered, is_on, matched, passes, values_of}
use Rattle.segment_plan.specs.Named.{AreNamedLoaded, agg_names, conjunct_names, is_in, query_names}
use Rattle.segment_plan.specs.Plan.{is_emptied, leaves_none}
use Rattle.segment_opening.specs.Emptied.{IsEmptied, LeavesNone}
use Rattle.segment_opening.specs.Found.{AreByIds, AreFound, AreOnes, IsAskable, IsAskedBy, IsByIds, IsFoundFor, IsFoundIn, IsFoundOf, IsMet, IsOne, PicksIds, IsKeptOrMet, SaysAlike, TellsAsked, count_for, count_of, ids_in, is_shared, lacks, shares_none, some_shares_none, unfiltered, values_from}
use Rattle.segment_opening.proofs.EmptyLemmas.{on_filtered, some_column, whole_loaded}
use Rattle.segment_opening.proofs.FoundLemmas.{unfiltered_names}
use Rattle.segment_opening.proofs.IdsIn.{given_values, numbers_long}
use Rattle.segment_opening.proofs.NamedLemmas.{filtered_names, named_within}

-- ---- lists

item_at : {X : Type 0} (d : X) (xs : List X) (k : ℕ) → k < length xs → slice_get xs k ≡ Some (get_or xs k d)
item_at d [] k lt = absurd (omega (arith, lt))
item_at d (x ∷ xs) zero lt = refl
item_at d (x ∷ xs) (suc k) lt = item_at d xs k (omega (arith, lt))

item_within : {X : Type 0} (xs : List X) (k : ℕ) (x : X) → slice_get xs k ≡ Some x → k < length xs
item_within [] k x at = absurd cc
item_within (y ∷ ys) zero x at = omega arith
item_within (y ∷ ys) (suc k) x at = omega (arith, item_within ys k x at)

-- an item that passes is kept
kept_some : {X : Type 0} (p : X → Bool) (xs : List X) (k : ℕ) (x : X) → slice_get xs k ≡ Some x → p x ≡ true → length (filter p xs) ≢ 0
kept_some p [] k x at is none = absurd cc
kept_some p (y ∷ ys) zero x at is none =
    let same : y ≡ x = cc in
    long (p y) (ap p same ∙ is) none
  where
    long : (b : Bool) → b ≡ true → length (cond b (y ∷ filter p ys) (filter p ys)) ≡ 0 → ⊥
    long true e none = omega (arith, none)
    long false e none = false≢true e
kept_some p (y ∷ ys) (suc k) x at is none = go (kept_some p ys k x at is) (p y) none
  where
    go : length (filter p ys) ≢ 0 → (b : Bool) → length (cond b (y ∷ filter p ys) (filter p ys)) ≡ 0 → ⊥
    go more true none = omega (arith, none)
    go more false none = more none

-- where no item passes none is kept
kept_none : {X : Type 0} (p : X → Bool) (xs : List X) → ((k : ℕ) (x : X) → slice_get xs k ≡ Some x → p x ≡ false) → length (filter p xs) ≡ 0
kept_none p [] fails = refl
kept_none p (x ∷ xs) fails = ap (λ b. length (cond b (x ∷ filter p xs) (filter p xs))) (fails 0 x refl) ∙ kept_none p xs (λ k. fails (suc k))

-- some id passes
pub record IsSome (p : ℕ → Bool) (ids : List ℕ) : Type 0 where
  pub id : ℕ
  pub has : has_id ids id ≡ true
  pub is : p id ≡ true

some_id : (p : ℕ → Bool) (ids : List ℕ) → list_any p ids ≡ true → IsSome p ids
some_id p [] any = absurd (false≢true any)
some_id p (x ∷ ids) any = go (some_id p ids) (p x) refl any
  where
    go : (list_any p ids ≡ true → IsSome p ids) → (b : Bool) → p x ≡ b → b || list_any p ids ≡ true → IsSome p (x ∷ ids)
    go later true e any = record { id = x; has = or_left (nat_eq x x) (list_any (nat_eq x) ids) (eq-eqb x x refl); is = e }
    go later false e any = let more = later any in record { id = more.id; has = or_right (nat_eq more.id x) (has_id ids more.id) more.has; is = more.is }

no_id : (p : ℕ → Bool) (ids : List ℕ) → list_any p ids ≡ false → (id : ℕ) → has_id ids id ≡ true → p id ≡ false
no_id p [] none id has = absurd (false≢true has)
no_id p (x ∷ ids) none id has = go (λ none. no_id p ids none id) (nat_eq id x) refl (p x) refl none has
  where
    go : (list_any p ids ≡ false → has_id ids id ≡ true → p id ≡ false) → (same : Bool) → nat_eq id x ≡ same → (b : Bool) → p x ≡ b → b || list_any p ids ≡ false → same || has_id ids id ≡ true → p id ≡ false
    go later same e true is none has = absurd (false≢true (sym none))
    go later true e false is none has = ap p (eqb-true id x e) ∙ is
    go later false e false is none has = later none has

matching_alike : (s t : Test) (from : ℕ) (xs ys : List Value) → length xs ≡ length ys → ((k : ℕ) → k < length xs → holds (get_or xs k (Whole (pos 0))) s ≡ holds (get_or ys k (Whole (pos 0))) t) → matching_from from s xs ≡ matching_from from t ys
matching_alike s t from [] [] e h = refl
matching_alike s t from [] (y ∷ ys) e h = absurd (omega (arith, e))
matching_alike s t from (x ∷ xs) [] e h = absurd (omega (arith, e))
matching_alike s t from (x ∷ xs) (y ∷ ys) e h =
    let here = h 0 (omega arith) in
    let more = matching_alike s t (from + 1) xs ys (omega (arith, e)) (λ k lt. h (suc k) (omega (arith, lt))) in
    (λ i. cond (here i) (from ∷ more i) (more i))

-- ---- ids of values

-- a test of ids is met by those of the values that satisfy another
ids_alike : (s t : Test) (values : List Value) (m : Matched) → m.count ≡ length values → m.ids ≡ matching t values → PicksIds m s → matching s (numbers_below m.count) ≡ matching t values
ids_alike s t values m many are picks =
    let long = numbers_long m.count in
    matching_alike s t 0 (numbers_below m.count) values (long ∙ many)
    (λ k lt.
    let below : k < m.count = omega (arith, lt, long) in
    let there : k < length values = omega (arith, below, many) in
    let plain : 0 + k ≡ k = omega arith in
    ap (λ v. holds v s) (get_or-map-range_with_len (λ n. Whole (pos n)) 0 m.count k k (Whole (pos 0)) below plain)
    ∙ picks k below
    ∙ each_matching values t m.ids are k
    ∙ ap (satisfies t) (item_at (Whole (pos 0)) values k there))

-- ---- one count a column

module _ (query : BoundQuery) (table : Table) (held : Option Files) (head : Seen) where
  abbrev Are : List Conjunct → List Matched → Type 0
  Are = AllZip (IsFoundFor query table held head)

  pub ones : (xs : List Conjunct) (ms : List Matched) → Are xs ms → AreOnes xs
  ones [] [] all = tt
  ones [] (m ∷ ms) all = absurd all
  ones (x ∷ xs) [] all = absurd all
  ones (One column test ∷ xs) (m ∷ ms) all = (tt, ones xs ms all.1)
  ones (Many wide ∷ xs) (m ∷ ms) all = absurd all.0

  -- a column that a conjunct names alone has a count
  counted_for : (xs : List Conjunct) (ms : List Matched) → Are xs ms → (c : ℕ) → is_filtered xs c ≡ true → (n : ℕ) × (count_for xs ms c ≡ Some n)
  counted_for [] ms all c on = absurd (false≢true on)
  counted_for (x ∷ xs) [] all c on = absurd all
  counted_for (x ∷ xs) (m ∷ ms) all c on = go (counted_for xs ms all.1 c) (is_on c x) refl on
    where
      go : (is_filtered xs c ≡ true → (n : ℕ) × (count_for xs ms c ≡ Some n)) → (b : Bool) → is_on c x ≡ b → b || is_filtered xs c ≡ true → (n : ℕ) × (count_for (x ∷ xs) (m ∷ ms) c ≡ Some n)
      go later true e on = (m.count, ap (λ b. cond b (Some m.count) (count_for xs ms c)) e)
      go later false e on = let (n, is) = later on in (n, ap (λ b. cond b (Some m.count) (count_for xs ms c)) e ∙ is)

  counts_few : (xs : List Conjunct) (ms : List Matched) → Are xs ms → (c n : ℕ) → count_for xs ms c ≡ Some n → n ≤ most_values
  counts_few [] ms all c n is = absurd cc
  counts_few (x ∷ xs) [] all c n is = absurd all
  counts_few (Many wide ∷ xs) (m ∷ ms) all c n is = absurd all.0
  counts_few (One column test ∷ xs) (m ∷ ms) all c n is = go (counts_few xs ms all.1 c n) (column == c) is
    where
      go : (count_for xs ms c ≡ Some n → n ≤ most_values) → (b : Bool) → cond b (Some m.count) (count_for xs ms c) ≡ Some n → n ≤ most_values
      go later true is = let same : m.count ≡ n = cc in subst (λ k. k ≤ most_values) same all.0.few
      go later false is = later is

  -- one that is named beside the filter has none
  uncounted : (xs : List Conjunct) (ms : List Matched) → Are xs ms → (c : ℕ) → query_names (unfiltered query) c ≡ true → count_for xs ms c ≡ None
  uncounted [] ms all c named = refl
  uncounted (x ∷ xs) [] all c named = refl
  uncounted (Many wide ∷ xs) (m ∷ ms) all c named = absurd all.0
  uncounted (One column test ∷ xs) (m ∷ ms) all c named = go (uncounted xs ms all.1 c named) (column == c) refl
    where
      go : count_for xs ms c ≡ None → (b : Bool) → column == c ≡ b → cond b (Some m.count) (count_for xs ms c) ≡ None
      go later true e = absurd (false≢true (sym all.0.apart ∙ ap (query_names (unfiltered query)) (eqb-true column c e) ∙ named))
      go later false e = later

  ones_filtered : (xs : List Conjunct) → AreOnes xs → (c : ℕ) → list_any (conjunct_names c) xs ≡ is_filtered xs c
  ones_filtered [] all c = refl
  ones_filtered (One column test ∷ xs) all c = ap (λ b. (column == c) || b) (ones_filtered xs all.1 c)
  ones_filtered (Many wide ∷ xs) all c = absurd all.0

  module _ (counts : List (Option ℕ)) where
    -- the conjuncts that ask for ids are asked by them
    by_counts : (xs : List Conjunct) (ms : List Matched) (ys : List Conjunct) → Are xs ms → AreByIds xs ms ys → ((c : ℕ) → is_filtered xs c ≡ true → (n : ℕ) × (count_of counts c ≡ Some n)) → AllZip (IsAskedBy counts) xs ys
    by_counts [] [] [] all by has = tt
    by_counts [] [] (y ∷ ys) all by has = absurd by
    by_counts [] (m ∷ ms) ys all by has = absurd all
    by_counts (x ∷ xs) [] ys all by has = absurd all
    by_counts (x ∷ xs) (m ∷ ms) [] all by has = absurd by
    by_counts (Many wide ∷ xs) (m ∷ ms) (y ∷ ys) all by has = absurd all.0
    by_counts (One column test ∷ xs) (m ∷ ms) (Many wide ∷ ys) all by has = absurd by.0
    by_counts (One column test ∷ xs) (m ∷ ms) (One named asked ∷ ys) all by has =
        let (n, counted) = has column (or_left (column == column) (is_filtered xs column) (eq-eqb column column refl)) in (
          (by.0.0, subst (λ o. IsKeptOrMet o test asked) (sym counted) all.0.met),
          by_counts xs ms ys all.1 by.1 (λ c on. has c (or_right (is_on c (One column test)) (is_filtered xs c) on)),
        )

-- ---- of a whole head

module _ (query : BoundQuery) (table : Table) (files : Files) (head : Seen) (name file : List ℕ) (whole : Seen) (full : IsHead table name file (bytes_of (Some files) file) whole) (part : IsPartOf whole head) where
  abbrev AreIn : List Conjunct → List Matched → Type 0
  AreIn = AllZip (IsFoundFor query table (Some files) head)

  -- what was found of a column is what it has
  pub record Has (column : ℕ) (test : Test) (m : Matched) : Type 0 where
    pub count_is : m.count ≡ length (values_from whole.dictionaries column)
    pub ids_are : m.ids ≡ matching test (values_from whole.dictionaries column)

  has : (column : ℕ) (test : Test) (m : Matched) → IsFoundOf query table (Some files) head column test m → Has column test m
  has column test m f =
      let (d, at) = whole_loaded table name file _ whole full column f.within in
      let told = f.whole name file whole full part d at in
      let same : values_from whole.dictionaries column ≡ d.values = ap values_of at in
      record { count_is = told.0 ∙ sym (ap length same); ids_are = told.1 ∙ sym (ap (matching test) same) }

  counts_told : (xs : List Conjunct) (ms : List Matched) → AreIn xs ms → (c n : ℕ) → count_for xs ms c ≡ Some n → length (values_from whole.dictionaries c) ≡ n
  counts_told [] ms all c n is = absurd cc
  counts_told (x ∷ xs) [] all c n is = absurd all
  counts_told (Many wide ∷ xs) (m ∷ ms) all c n is = absurd all.0
  counts_told (One column test ∷ xs) (m ∷ ms) all c n is = go (counts_told xs ms all.1 c n) (column == c) refl is
    where
      go : (count_for xs ms c ≡ Some n → length (values_from whole.dictionaries c) ≡ n) → (b : Bool) → column == c ≡ b → cond b (Some m.count) (count_for xs ms c) ≡ Some n → length (values_from whole.dictionaries c) ≡ n
      go later true e is =
          let same : m.count ≡ n = cc in
          ap (λ k. length (values_from whole.dictionaries k)) (sym (eqb-true column c e)) ∙ sym (has column test m all.0).count_is ∙ same
      go later false e is = later is

  -- the ids say what the values do
  says_by : (counts : List (Option ℕ)) → ((c n : ℕ) → count_of counts c ≡ Some n → length (values_from whole.dictionaries c) ≡ n) → ((c n : ℕ) → count_of counts c ≡ Some n → c < length whole.dictionaries) → (xs : List Conjunct) (ms : List Matched) (ys : List Conjunct) → AreIn xs ms
      → AreByIds xs ms ys → ((c : ℕ) → is_filtered xs c ≡ true → (n : ℕ) × (count_of counts c ≡ Some n)) → AllZip (SaysAlike whole.dictionaries (ids_in counts whole.dictionaries)) xs ys
  says_by counts told within [] [] [] all by on = tt
  says_by counts told within [] [] (y ∷ ys) all by on = absurd by
  says_by counts told within [] (m ∷ ms) ys all by on = absurd all
  says_by counts told within (x ∷ xs) [] ys all by on = absurd all
  says_by counts told within (x ∷ xs) (m ∷ ms) [] all by on = absurd by
  says_by counts told within (Many wide ∷ xs) (m ∷ ms) (y ∷ ys) all by on = absurd all.0
  says_by counts told within (One column test ∷ xs) (m ∷ ms) (Many wide ∷ ys) all by on = absurd by.0
  says_by counts told within (One column test ∷ xs) (m ∷ ms) (One named asked ∷ ys) all by on =
      let (n, counted) = on column (or_left (column == column) (is_filtered xs column) (eq-eqb column column refl)) in
      let h = has column test m all.0 in
      let many : n ≡ m.count = sym (told column n counted) ∙ sym h.count_is in (
        (
          by.0.0,
          ap (matching asked) (given_values counts whole.dictionaries column n counted (within column n counted) ∙ ap numbers_below many)
              ∙ ids_alike asked test (values_from whole.dictionaries column) m h.count_is h.ids_are by.0.1,
        ),
        says_by counts told within xs ms ys all.1 by.1 (λ c is. on c (or_right (is_on c (One column test)) (is_filtered xs c) is)),
      )

  -- ---- ids that conjuncts on a column share

  module _ (c id : ℕ) (v : Value) (at : slice_get (values_from whole.dictionaries c) id ≡ Some v) where
    lacks_is : (column : ℕ) (test : Test) (m : Matched) → IsFoundOf query table (Some files) head column test m → not (lacks (One column test) m c id) ≡ passes c v (One column test)
    lacks_is column test m f = go (column == c) refl
      where
        go : (b : Bool) → column == c ≡ b → not (b && not (has_id m.ids id)) ≡ not b || holds v test
        go false e = refl
        go true e =
            let same = eqb-true column c e in
            twice (has_id m.ids id)
            ∙ each_matching (values_from whole.dictionaries column) test m.ids (has column test m f).ids_are id
            ∙ ap (λ k. satisfies test (slice_get (values_from whole.dictionaries k) id)) same
            ∙ ap (satisfies test) at
          where
            twice : (b : Bool) → not (true && not b) ≡ b
            twice true = refl
            twice false = refl

    shared_is : (xs : List Conjunct) (ms : List Matched) → AreIn xs ms → is_shared xs ms c id ≡ list_all (passes c v) xs
    shared_is [] ms all = refl
    shared_is (x ∷ xs) [] all = absurd all
    shared_is (Many wide ∷ xs) (m ∷ ms) all = absurd all.0
    shared_is (One column test ∷ xs) (m ∷ ms) all =
        let here = lacks_is column test m all.0 in
        let more = shared_is xs ms all.1 in
        (λ i. here i && more i)

  -- ---- columns that are left with a value, or without one

  module _ (xs : List Conjunct) (ms : List Matched) (all : AreIn xs ms) where
    -- an id that is shared is that of a value that satisfies all conjuncts on the column
    left_some : (column : ℕ) (test : Test) (m : Matched) → IsFoundOf query table (Some files) head column test m → shares_none xs ms (One column test) m ≡ false → matched xs column (values_from whole.dictionaries column) ≢ 0
    left_some column test m f shares none =
        let some = some_id (is_shared xs ms column) m.ids (not_not (list_any (is_shared xs ms column) m.ids) shares) in
        let there : satisfies test (slice_get (values_from whole.dictionaries column) some.id) ≡ true =
        sym (each_matching (values_from whole.dictionaries column) test m.ids (has column test m f).ids_are some.id) ∙ some.has in
        go some (slice_get (values_from whole.dictionaries column) some.id) refl there
      where
        not_not : (b : Bool) → not b ≡ false → b ≡ true
        not_not true e = refl
        not_not false e = absurd (false≢true (sym e))

        go : (some : IsSome (is_shared xs ms column) m.ids) → (o : Option Value) → slice_get (values_from whole.dictionaries column) some.id ≡ o → satisfies test o ≡ true → ⊥
        go some None at is = false≢true is
        go some (Some v) at is = kept_some (λ value. list_all (passes column value) xs) (values_from whole.dictionaries column) some.id v at (sym (shared_is column some.id v at xs ms all) ∙ some.is) none

    left_none : (column : ℕ) (test : Test) (m : Matched) → IsFoundOf query table (Some files) head column test m → ((v : Value) → list_all (passes column v) xs ≡ true → holds v test ≡ true) → shares_none xs ms (One column test) m ≡ true → matched xs column (values_from whole.dictionaries column) ≡ 0
    left_none column test m f own shares = kept_none (λ value. list_all (passes column value) xs) (values_from whole.dictionaries column) each
      where
        none : list_any (is_shared xs ms column) m.ids ≡ false
        none = go (list_any (is_shared xs ms column) m.ids) shares
          where
            go : (b : Bool) → not b ≡ true → b ≡ false
            go true e = absurd (false≢true e)
            go false e = refl

        each : (k : ℕ) (v : Value) → slice_get (values_from whole.dictionaries column) k ≡ Some v → list_all (passes column v) xs ≡ false
        each k v at = go (list_all (passes column v) xs) refl
          where
            go : (b : Bool) → list_all (passes column v) xs ≡ b → list_all (passes column v) xs ≡ false
            go false e = e
            go true e =
                let mine : has_id m.ids k ≡ true = each_matching (values_from whole.dictionaries column) test m.ids (has column test m f).ids_are k ∙ ap (satisfies test) at ∙ own v e in
                sym (shared_is column k v at xs ms all) ∙ no_id (is_shared xs ms column) m.ids none k mine

    -- no column is left without a value
    some_left : (us : List Conjunct) (vs : List Matched) → AreIn us vs → some_shares_none xs ms us vs ≡ false → (c : ℕ) → is_filtered us c ≡ true → matched xs c (values_from whole.dictionaries c) ≢ 0
    some_left [] vs those none c on = absurd (false≢true on)
    some_left (u ∷ us) [] those none c on = absurd those
    some_left (Many wide ∷ us) (m ∷ vs) those none c on = absurd those.0
    some_left (One column test ∷ us) (m ∷ vs) those none c on = go (λ none. some_left us vs those.1 none c) (column == c) refl on (shares_none xs ms (One column test) m) refl none
      where
        go : (some_shares_none xs ms us vs ≡ false → is_filtered us c ≡ true → matched xs c (values_from whole.dictionaries c) ≢ 0) → (b : Bool) → column == c ≡ b → b || is_filtered us c ≡ true → (s : Bool) → shares_none xs ms (One column test) m ≡ s → s || some_shares_none xs ms us vs ≡ false → matched xs c (values_from whole.dictionaries c) ≢ 0
        go later b e on true is none = absurd (false≢true (sym none))
        go later true e on false is none = subst (λ k. matched xs k (values_from whole.dictionaries k) ≢ 0) (eqb-true column c e) (left_some column test m those.0 is)
        go later false e on false is none = later none on

    none_emptied : some_shares_none xs ms xs ms ≡ false → is_emptied xs table whole ≡ false
    none_emptied none = none_any (columns_of table)
      where
        one : (c : ℕ) (b : Bool) → is_filtered xs c ≡ b → b && matched xs c (values_from whole.dictionaries c) == 0 ≡ false
        one c false on = refl
        one c true on = not_zero (matched xs c (values_from whole.dictionaries c)) (some_left xs ms all none c on)
          where
            not_zero : (n : ℕ) → n ≢ 0 → n == 0 ≡ false
            not_zero n other = go (n == 0) refl
              where
                go : (b : Bool) → n == 0 ≡ b → n == 0 ≡ false
                go true e = absurd (other (eqb-true n 0 e))
                go false e = e

        none_any : (columns : List ℕ) → list_any (leaves_none xs whole) columns ≡ false
        none_any [] = refl
        none_any (c ∷ columns) =
            let here : leaves_none xs whole c ≡ false = one c (is_filtered xs c) refl in
            let more = none_any columns in
            (λ i. here i || more i)

    -- a conjunct of which no id is shared leaves its column without a value
    pub record Leaves (us : List Conjunct) : Type 0 where
      pub column : ℕ
      pub on : is_filtered us column ≡ true
      pub none : matched xs column (values_from whole.dictionaries column) ≡ 0

    some_none : (us : List Conjunct) (vs : List Matched) → AreIn us vs → ((column : ℕ) (test : Test) (k : ℕ) → slice_get us k ≡ Some (One column test) → (v : Value) → list_all (passes column v) xs ≡ true → holds v test ≡ true) → some_shares_none xs ms us vs ≡ true → Leaves us
    some_none [] vs those own some = absurd (false≢true some)
    some_none (u ∷ us) [] those own some = absurd those
    some_none (Many wide ∷ us) (m ∷ vs) those own some = absurd those.0
    some_none (One column test ∷ us) (m ∷ vs) those own some = go (some_none us vs those.1 (λ column test k. own column test (suc k))) (shares_none xs ms (One column test) m) refl some
      where
        go : (some_shares_none xs ms us vs ≡ true → Leaves us) → (b : Bool) → shares_none xs ms (One column test) m ≡ b → b || some_shares_none xs ms us vs ≡ true → Leaves (One column test ∷ us)
        go later true is some = record {
          column = column;
          on = or_left (column == column) (is_filtered us column) (eq-eqb column column refl);
          none = left_none column test m those.0 (own column test 0 refl) is;
        }
        go later false is some =
            let more = later some in
            record { column = more.column; on = or_right (is_on more.column (One column test)) (is_filtered us more.column) more.on; none = more.none }

-- a value that passes all conjuncts on a column passes each of them
passes_own : (xs : List Conjunct) (column : ℕ) (test : Test) (k : ℕ) → slice_get xs k ≡ Some (One column test) → (v : Value) → list_all (passes column v) xs ≡ true → holds v test ≡ true
passes_own [] column test k at v all = absurd cc
passes_own (x ∷ xs) column test zero at v all =
    let same : x ≡ One column test = cc in
    own (eq-eqb column column refl) (ap (passes column v) (sym same) ∙ left (passes column v x) (list_all (passes column v) xs) all)
  where
    left : (a b : Bool) → a && b ≡ true → a ≡ true
    left true b e = refl
    left false b e = absurd (false≢true e)

    own : column == column ≡ true → not (column == column) || holds v test ≡ true → holds v test ≡ true
    own e is = ap (λ b. not b || holds v test) (sym e) ∙ is
passes_own (x ∷ xs) column test (suc k) at v all = passes_own xs column test k at v (right (passes column v x) (list_all (passes column v) xs) all)
  where
    right : (a b : Bool) → a && b ≡ true → b ≡ true
    right true b e = e
    right false b e = absurd (false≢true e)

-- ---- a query whose columns were looked up

module _ (query : BoundQuery) (table : Table) (query_valid : IsValidQuery table query) (head : Seen) (found : List Matched) where
  pub emptied_so : (held : Option Files) → AreFound query table held head found → some_shares_none query.conjuncts found query.conjuncts found ≡ true → IsEmptied query table held head
  emptied_so None all some = tt
  emptied_so (Some files) all some = λ name file whole full part.
      let within : (c : ℕ) → is_filtered query.conjuncts c ≡ true → c < length table.schema.fields = λ c on. named_within table query c query_valid (filtered_names query c on) in
      let left = some_none query table files head name file whole full part query.conjuncts found all query.conjuncts found all (passes_own query.conjuncts) some in
      record {
        loaded = λ c on. whole_loaded table name file (bytes_of (Some files) file) whole full c (within c on);
        emptied = some_column (leaves_none query.conjuncts whole) (length table.schema.fields) left.column (within left.column left.on)
            ((λ i. left.on i && matched query.conjuncts left.column (values_from whole.dictionaries left.column) == 0) ∙ eq-eqb (matched query.conjuncts left.column (values_from whole.dictionaries left.column)) 0 left.none);
      }

  module _ (conjuncts : List Conjunct) (counts : List (Option ℕ)) (long : length counts ≡ length table.schema.fields) (each : (c : ℕ) → c < length table.schema.fields → get_or counts c None ≡ count_for query.conjuncts found c) (by : AreOnes query.conjuncts → AreByIds query.conjuncts found conjuncts) where
    -- what a column has for its count was found for it
    count_found : (c n : ℕ) → count_of counts c ≡ Some n → (c < length table.schema.fields) × (count_for query.conjuncts found c ≡ Some n)
    count_found c n is = let lt : c < length table.schema.fields = omega (arith, within counts c is, long) in (lt, sym (each c lt) ∙ is)
      where
        within : (cs : List (Option ℕ)) (c : ℕ) → get_or cs c None ≡ Some n → c < length cs
        within [] c is = absurd cc
        within (x ∷ cs) zero is = omega arith
        within (x ∷ cs) (suc c) is = omega (arith, within cs c is)

    filtered_counted : (held : Option Files) → AreFound query table held head found → (c : ℕ) → is_filtered query.conjuncts c ≡ true → (n : ℕ) × (count_of counts c ≡ Some n)
    filtered_counted held all c on =
        let (n, is) = counted_for query table held head query.conjuncts found all c on in
        (n, each c (named_within table query c query_valid (filtered_names query c on)) ∙ is)

    pub askable : (held : Option Files) → AreFound query table held head found → (grown : Seen) → AreNamedLoaded (unfiltered query) grown → IsAskable query table grown conjuncts counts
    askable held all grown loaded = record {
      each = long;
      few = λ c n is. counts_few query table held head query.conjuncts found all c n (count_found c n is).1;
      apart = λ c named. each c (named_within table query c query_valid (unfiltered_names query c named)) ∙ uncounted query table held head query.conjuncts found all c named;
      asked = by_counts query table held head counts query.conjuncts found conjuncts all (by are_ones) (filtered_counted held all);
      loaded = λ c named none. go c named none (query_names (unfiltered query) c) refl;
    }
      where
        are_ones : AreOnes query.conjuncts
        are_ones = ones query table held head query.conjuncts found all

        go : (c : ℕ) → query_names query c ≡ true → count_of counts c ≡ None → (b : Bool) → query_names (unfiltered query) c ≡ b → IsLoaded grown c
        go c named none true beside = loaded c beside
        go c named none false beside = never (filtered_counted held all c (sym (ones_filtered query table held head query.conjuncts are_ones c) ∙ by_filter (list_any (conjunct_names c) query.conjuncts) (is_in query.groups c) (list_any (agg_names c) query.aggs) named beside))
          where
            by_filter : (a b d : Bool) → (a || b) || d ≡ true → (false || b) || d ≡ false → a ≡ true
            by_filter true b d e f = refl
            by_filter false b d e f = absurd (false≢true (sym f ∙ e))

            never : (n : ℕ) × (count_of counts c ≡ Some n) → IsLoaded grown c
            never (n, is) = absurd (other (sym none ∙ is))
              where
                other : None ≡ Some n → ⊥
                other e = absurd cc

    pub tells_so : (held : Option Files) → AreFound query table held head found → some_shares_none query.conjuncts found query.conjuncts found ≡ false → OfWhole table held head (TellsAsked query table conjuncts counts)
    tells_so None all none = tt
    tells_so (Some files) all none = λ name file whole full part.
        let told : (c n : ℕ) → count_of counts c ≡ Some n → length (values_from whole.dictionaries c) ≡ n = λ c n is. counts_told query table files head name file whole full part query.conjuncts found all c n (count_found c n is).1 in
        record {
          counts_are = told;
          says =
              says_by query table files head name file whole full part counts told
              (λ c n is. let (d, at) = whole_loaded table name file _ whole full c (count_found c n is).0 in item_within whole.dictionaries c (Some d) at) query.conjuncts found conjuncts all (by (ones query table (Some files) head query.conjuncts found all)) (filtered_counted (Some files) all);
          some = none_emptied query table files head name file whole full part query.conjuncts found all none;
        }

-- ---- conjuncts that are asked one after the other

by_push : (xs : List Conjunct) (ms : List Matched) (ys : List Conjunct) (x : Conjunct) (m : Matched) (y : Conjunct) → AreByIds xs ms ys → IsByIds m x y → AreByIds (xs ++ x ∷ []) (ms ++ m ∷ []) (ys ++ y ∷ [])
by_push [] [] [] x m y all one = (one, tt)
by_push [] [] (z ∷ ys) x m y all one = absurd all
by_push [] (n ∷ ms) ys x m y all one = absurd all
by_push (z ∷ xs) [] ys x m y all one = absurd all
by_push (z ∷ xs) (n ∷ ms) [] x m y all one = absurd all
by_push (z ∷ xs) (n ∷ ms) (w ∷ ys) x m y all one = (all.0, by_push xs ms ys x m y all.1 one)

one_at : (xs : List Conjunct) (k : ℕ) (x : Conjunct) → AreOnes xs → slice_get xs k ≡ Some x → IsOne x
one_at [] k x all at = absurd cc
one_at (z ∷ xs) zero x all at = let same : z ≡ x = cc in subst IsOne same all.0
one_at (z ∷ xs) (suc k) x all at = one_at xs k x all.1 at

pub by_more : (xs : List Conjunct) (ms : List Matched) (ys : List Conjunct) (k : ℕ) (x : Conjunct) (m : Matched) (y : Conjunct) → k < length xs → k < length ms → x ≡ get_or xs k x → m ≡ get_or ms k m → (AreOnes xs → AreByIds (take k xs) (take k ms) ys) → (IsOne x → IsByIds m x y) → AreOnes xs
    → AreByIds (take (k + 1) xs) (take (k + 1) ms) (ys ++ y ∷ [])
by_more xs ms ys k x m y lt few is_x is_m before one ones =
    let there : slice_get xs k ≡ Some x = slice_get-get_or xs k x lt ∙ ap Some (sym is_x) in
    let first : take k xs ++ x ∷ [] ≡ take (k + 1) xs = sym (take_more xs k x lt ∙ ap (λ z. take k xs ++ z ∷ []) (sym is_x)) in
    let second : take k ms ++ m ∷ [] ≡ take (k + 1) ms = sym (take_more ms k m few ∙ ap (λ z. take k ms ++ z ∷ []) (sym is_m)) in
    subst (λ l. AreByIds l (take (k + 1) ms) (ys ++ y ∷ [])) first
    (subst (λ l. AreByIds (take k xs ++ x ∷ []) l (ys ++ y ∷ [])) second (by_push (take k xs) (take k ms) ys x m y (before ones) (one (one_at xs k x ones there))))

pub zip_push : {X Y : Type 0} (R : X → Y → Type 0) (xs : List X) (ys : List Y) (x : X) (y : Y) → AllZip R xs ys → R x y → AllZip R (xs ++ x ∷ []) (ys ++ y ∷ [])
zip_push R [] [] x y all one = (one, tt)
zip_push R [] (z ∷ ys) x y all one = absurd all
zip_push R (z ∷ xs) [] x y all one = absurd all
zip_push R (z ∷ xs) (w ∷ ys) x y all one = (all.0, zip_push R xs ys x y all.1 one)

found_next : {X Y : Type 0} (R : X → Y → Type 0) (xs : List X) (ys : List Y) (k : ℕ) (y : Y) → k < length xs → AllZip R (take k xs) ys → ((x : X) → slice_get xs k ≡ Some x → R x y) → AllZip R (take (suc k) xs) (ys ++ y ∷ [])
found_next R [] ys k y lt all one = absurd (omega (arith, lt))
found_next R (x ∷ xs) [] zero y lt all one = (one x refl, tt)
found_next R (x ∷ xs) (z ∷ ys) zero y lt all one = absurd all
found_next R (x ∷ xs) [] (suc k) y lt all one = absurd all
found_next R (x ∷ xs) (z ∷ ys) (suc k) y lt all one = (all.0, found_next R xs ys k y (omega (arith, lt)) all.1 one)

pub found_more : {X Y : Type 0} (R : X → Y → Type 0) (xs : List X) (ys : List Y) (k : ℕ) (y : Y) → k < length xs → AllZip R (take k xs) ys → ((x : X) → slice_get xs k ≡ Some x → R x y) → AllZip R (take (k + 1) xs) (ys ++ y ∷ [])
found_more R xs ys k y lt all one = let next : suc k ≡ k + 1 = omega arith in subst (λ n. AllZip R (take n xs) (ys ++ y ∷ [])) next (found_next R xs ys k y lt all one)

pub zip_long : {X Y : Type 0} (R : X → Y → Type 0) (xs : List X) (ys : List Y) → AllZip R xs ys → length ys ≡ length xs
zip_long R [] [] all = refl
zip_long R [] (y ∷ ys) all = absurd all
zip_long R (x ∷ xs) [] all = absurd all
zip_long R (x ∷ xs) (y ∷ ys) all = ap (λ n. suc n) (zip_long R xs ys all.1)

count_next : (xs : List Conjunct) (ms : List Matched) (k c : ℕ) (x : Conjunct) → slice_get xs k ≡ Some x → k < length ms → is_on c x ≡ false → count_for (drop k xs) (drop k ms) c ≡ count_for (drop (suc k) xs) (drop (suc k) ms) c
count_next [] ms k c x at lt off = absurd cc
count_next (z ∷ xs) [] k c x at lt off = absurd (omega (arith, lt))
count_next (z ∷ xs) (m ∷ ms) zero c x at lt off = let same : z ≡ x = cc in ap (λ b. cond b (Some m.count) (count_for xs ms c)) (ap (is_on c) same ∙ off)
count_next (z ∷ xs) (m ∷ ms) (suc k) c x at lt off = count_next xs ms k c x at (omega (arith, lt)) off

-- a conjunct that is on another column tells nothing of the count
pub count_past : (xs : List Conjunct) (ms : List Matched) (k c : ℕ) (x : Conjunct) → slice_get xs k ≡ Some x → k < length ms → is_on c x ≡ false → count_for (drop k xs) (drop k ms) c ≡ count_for (drop (k + 1) xs) (drop (k + 1) ms) c
count_past xs ms k c x at lt off = let next : suc k ≡ k + 1 = omega arith in count_next xs ms k c x at lt off ∙ ap (λ n. count_for (drop n xs) (drop n ms) c) next

-- ---- what is found in one column

both_so : {E : Type 0} (r : Result (Option Matched) E) (P Q R : Matched → Type 0) → ((m : Matched) → P m → Q m → R m) → IfOk r (λ o. IfSome o P) → IfOk r (λ o. IfSome o Q) → IfOk r (λ o. IfSome o R)
both_so (Ok None) P Q R so p q = tt
both_so (Ok (Some m)) P Q R so p q = so m p q
both_so (Err e) P Q R so p q = tt

module _ (query : BoundQuery) (table : Table) (valid : IsValidQuery table query) (at column : ℕ) (test : Test) (there : slice_get query.conjuncts at ≡ Some (One column test)) where
  pub column_within : column < length table.schema.fields
  column_within = named_within table query column valid (filtered_names query column (on_filtered column test query.conjuncts at there))

  pub found_for : {E : Type 0} (held : Option Files) (head : Seen) (r : Result (Option Matched) E) → query_names (unfiltered query) column ≡ false → IsMet test → IfOk r (λ o. IfSome o (λ m. OfWhole table held head (OfColumn column (IsFoundIn test m)))) → IfOk r (λ o. IfSome o (λ m. m.count ≤ most_values))
      → IfOk r (λ o. IfSome o (λ m. (conjunct : Conjunct) → slice_get query.conjuncts at ≡ Some conjunct → IsFoundFor query table held head conjunct m))
  found_for held head r apart met =
      both_so r (λ m. OfWhole table held head (OfColumn column (IsFoundIn test m))) (λ m. m.count ≤ most_values) (λ m. (conjunct : Conjunct) → slice_get query.conjuncts at ≡ Some conjunct → IsFoundFor query table held head conjunct m)
      (λ m whole few conjunct at.
      let found : Some (One column test) ≡ Some conjunct = sym there ∙ at in
      let same : One column test ≡ conjunct = cc in
      let own : IsFoundOf query table held head column test m = record { within = column_within; apart = apart; met = met; few = few; whole = whole } in
      subst (λ x. IsFoundFor query table held head x m) same own)
