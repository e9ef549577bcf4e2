-- Marks for the columns that a query takes are enough for it.
use Rattle.std.proofs.Common.{◌≡◌, ◌≢◌, ◌∙◌, ◌<◌, ◌≤◌, ◌+◌, ◌==◌, ◌++◌, ◌&&◌, ◌∷◌, [], ℕ, zero, suc, pos, Bool, true, false, cond, Option, Some, None, IfSome, List, map, set, take, length, get_or, refl, sym, ap, subst, arith}
use Rattle.std.proofs.lemmas.Bool.Decides.{nat_tests}
use Rattle.std.proofs.lemmas.List.{get_or-set_other, get_or-set_same, get_or_past}
use Rattle.std.specs.List.{All, filter}
use Rattle.std.specs.Option.{option_map_or}
use Rattle.std.specs.Ordering.{eq_by_cmp}
use Rattle.std.specs.FinMap as finite
use Rattle.values.specs.declared.value.Value.{Value}
use Rattle.values.specs.Tests.{holds}
use Rattle.agg_laws.specs.States.{state_of}
use Rattle.table_schema.specs.declared.query.Agg.{Agg}
use Rattle.table_schema.specs.declared.query.BoundQuery.{BoundQuery}
use Rattle.table_schema.specs.declared.query.Conjunct.{Conjunct}
use Rattle.table_schema.specs.declared.query.Conjunct.TheVariants.{One, Many}
use Rattle.table_schema.specs.declared.query.Wide.TheOpen.{Wide-F}
use Rattle.table_schema.specs.declared.query.Wide.TheFolds.{fold-Wide}
use Rattle.table_schema.specs.Conditions.{all_hold, cell, conjunct_holds, wide_step}
use Rattle.group_table.specs.Groups.{groups_of, has_key, key_of, key_order, keys_of, number_for, number_of, states_of}
use Rattle.group_table.specs.Shape.{shape_of}
use Rattle.scan_engine.specs.Scanned.{selected}
use Rattle.text_scan.specs.Named.{Agree, AgreeAll, AllMarked, AreEnough, IsAggMarked, IsTestMarked, StayMarked, is_marked}

-- ---- marks

pub set_marked : (marks : List Bool) (c : ℕ) → c < length marks → is_marked (set marks c true) c ≡ true
set_marked marks c lt = get_or-set_same marks c true true lt

pub set_stays : (marks : List Bool) (c : ℕ) → StayMarked marks (set marks c true)
set_stays marks c column is = by (column == c) refl
  where
    same-place : (marks : List Bool) (c : ℕ) → get_or (set marks c true) c true ≡ true
    same-place [] c = refl
    same-place (m ∷ ms) zero = refl
    same-place (m ∷ ms) (suc c) = same-place ms c

    by : (b : Bool) → (column == c) ≡ b → get_or (set marks c true) column true ≡ true
    by true e = let same : c ≡ column = grind (arith, nat_tests) in subst (λ k. get_or (set marks c true) k true ≡ true) same (same-place marks c)
    by false e = let apart : column ≢ c = λ s. grind (arith, nat_tests) in get_or-set_other marks c column true true apart ∙ is

pub past_marked : (marks : List Bool) (c : ℕ) → length marks ≤ c → is_marked marks c ≡ true
past_marked marks c le = get_or_past marks c true le

pub test-stays : (old new : List Bool) → StayMarked old new → (conjunct : Conjunct) → IsTestMarked old conjunct → IsTestMarked new conjunct
test-stays old new stay (One column test) is = stay column is
test-stays old new stay (Many wide) is = λ column. stay column (is column)

pub agg-stays : (old new : List Bool) → StayMarked old new → (agg : Agg) → IsAggMarked old agg → IsAggMarked new agg
agg-stays old new stay agg is = by agg.column is
  where
    by : (o : Option ℕ) → IfSome o (λ column. is_marked old column ≡ true) → IfSome o (λ column. is_marked new column ≡ true)
    by None is = tt
    by (Some column) is = stay column is

-- what holds of the members before a place
abbrev pub Below : (A : Type 0) → (A → Type 0) → List A → ℕ → Type 0
Below A P xs i = (k : ℕ) (d : A) → k < i → k < length xs → P (get_or xs k d)

get-any : {A : Type 0} (xs : List A) (k : ℕ) (x y : A) → k < length xs → get_or xs k x ≡ get_or xs k y
get-any [] k x y lt = absurd (omega (arith, lt))
get-any (z ∷ zs) zero x y lt = refl
get-any (z ∷ zs) (suc k) x y lt = get-any zs k x y (omega (arith, lt))

pub below-more : {A : Type 0} (P Q : A → Type 0) (xs : List A) (i : ℕ) (x : A) → ((a : A) → P a → Q a) → Below A P xs i → i < length xs → x ≡ get_or xs i x → Q x → Below A Q xs (i + 1)
below-more P Q xs i x stay all lt is one k d k_lt k_in = by (k == i) refl
  where
    by : (b : Bool) → (k == i) ≡ b → Q (get_or xs k d)
    by true e =
        let same : i ≡ k = grind (arith, nat_tests) in
        subst (λ j. Q (get_or xs j d)) same (subst Q (is ∙ get-any xs i x d lt) one)
    by false e = stay (get_or xs k d) (all k d (grind (arith, nat_tests)) k_in)

pub below-next : {A : Type 0} (P Q : A → Type 0) (xs : List A) (i : ℕ) (x : A) → ((a : A) → P a → Q a) → Below A P xs i → i < length xs → Q (get_or xs i x) → Below A Q xs (i + 1)
below-next P Q xs i x stay all lt one = below-more P Q xs i (get_or xs i x) stay all lt (get-any xs i x (get_or xs i x) lt) one

-- the marks that a list of so many has at its front
pub take-front : (front rest : List Bool) (n : ℕ) → length front ≡ n → take n (front ++ rest) ≡ front
take-front front rest n long = ap (λ k. take k (front ++ rest)) (sym long) ∙ all front
  where
    all : (xs : List Bool) → take (length xs) (xs ++ rest) ≡ xs
    all [] = refl
    all (x ∷ xs) = ap (λ l. x ∷ l) (all xs)

-- ---- rows that agree

module _ (row other : List Value) (marks : List Bool) (agree : Agree (is_marked marks) row other) where
  conjunct-alike : (conjunct : Conjunct) → IsTestMarked marks conjunct → conjunct_holds row conjunct ≡ conjunct_holds other conjunct
  conjunct-alike (One column test) is = ap (λ value. holds value test) (agree column is)
  conjunct-alike (Many wide) is = ap (λ (f : Wide-F Bool → Bool). fold-Wide Bool f wide) (λ i y. step-alike y i)
    where
      step-alike : (y : Wide-F Bool) → wide_step row y ≡ wide_step other y
      step-alike (Wide-F.Leaf column test) = ap (λ value. holds value test) (agree column (is column))
      step-alike (Wide-F.All inner) = refl
      step-alike (Wide-F.Any inner) = refl

  conjuncts-alike : (conjuncts : List Conjunct) → All (IsTestMarked marks) conjuncts → all_hold row conjuncts ≡ all_hold other conjuncts
  conjuncts-alike [] all = refl
  conjuncts-alike (c ∷ cs) all =
      let here : conjunct_holds row c ≡ conjunct_holds other c = conjunct-alike c (all 0 c (omega arith)) in
      let more : all_hold row cs ≡ all_hold other cs = conjuncts-alike cs (λ k d lt. all (suc k) d (omega (arith, lt))) in
      (λ i. here i && more i)

  keys-alike : (groups : List ℕ) → All (λ column. is_marked marks column ≡ true) groups → key_of groups row ≡ key_of groups other
  keys-alike [] all = refl
  keys-alike (g ∷ gs) all =
      let here : cell row g ≡ cell other g = agree g (all 0 g (omega arith)) in
      let more : key_of gs row ≡ key_of gs other = keys-alike gs (λ k d lt. all (suc k) d (omega (arith, lt))) in
      (λ i. here i ∷ more i)

  number-alike : (agg : Agg) → IsAggMarked marks agg → number_for agg row ≡ number_for agg other
  number-alike agg is = by agg.column is
    where
      by : (o : Option ℕ) → IfSome o (λ column. is_marked marks column ≡ true) → option_map_or (λ c. number_of (cell row c)) o (pos 0) ≡ option_map_or (λ c. number_of (cell other c)) o (pos 0)
      by None is = refl
      by (Some column) is = ap number_of (agree column is)

-- ---- lists of rows

module _ (named : ℕ → Bool) where
  agreeing-kept : (keep : List Value → Bool) → ((row other : List Value) → Agree named row other → keep row ≡ keep other) → (rows others : List (List Value)) → AgreeAll named rows others → AgreeAll named (filter keep rows) (filter keep others)
  agreeing-kept keep alike [] [] zip = tt
  agreeing-kept keep alike [] (o ∷ os) zip = absurd zip
  agreeing-kept keep alike (r ∷ rs) [] zip = absurd zip
  agreeing-kept keep alike (r ∷ rs) (o ∷ os) zip = go (agreeing-kept keep alike rs os zip.1) (keep r) (keep o) (alike r o zip.0)
    where
      go : AgreeAll named (filter keep rs) (filter keep os) → (a b : Bool) → a ≡ b → AgreeAll named (cond a (r ∷ filter keep rs) (filter keep rs)) (cond b (o ∷ filter keep os) (filter keep os))
      go more true true e = (zip.0, more)
      go more true false e = absurd cc
      go more false true e = absurd cc
      go more false false e = more

  pub agreeing-both : (rows others more more_others : List (List Value)) → AgreeAll named rows others → AgreeAll named more more_others → AgreeAll named (rows ++ more) (others ++ more_others)
  agreeing-both [] [] more more_others zip last = last
  agreeing-both [] (o ∷ os) more more_others zip last = absurd zip
  agreeing-both (r ∷ rs) [] more more_others zip last = absurd zip
  agreeing-both (r ∷ rs) (o ∷ os) more more_others zip last = (zip.0, agreeing-both rs os more more_others zip.1 last)

  pub agreeing-same : (rows : List (List Value)) → AgreeAll named rows rows
  agreeing-same [] = tt
  agreeing-same (r ∷ rs) = (λ column is. refl, agreeing-same rs)

  mapped : {X : Type 0} (f : List Value → X) → ((row other : List Value) → Agree named row other → f row ≡ f other) → (rows others : List (List Value)) → AgreeAll named rows others → map f rows ≡ map f others
  mapped f alike [] [] zip = refl
  mapped f alike [] (o ∷ os) zip = absurd zip
  mapped f alike (r ∷ rs) [] zip = absurd zip
  mapped f alike (r ∷ rs) (o ∷ os) zip =
      let here = alike r o zip.0 in
      let more = mapped f alike rs os zip.1 in
      (λ i. here i ∷ more i)

module _ (marks : List Bool) where
  states-alike : (aggs : List Agg) → All (IsAggMarked marks) aggs → (rows others : List (List Value)) → AgreeAll (is_marked marks) rows others → states_of aggs rows ≡ states_of aggs others
  states-alike [] all rows others zip = refl
  states-alike (a ∷ aggs) all rows others zip =
      let here : map (number_for a) rows ≡ map (number_for a) others = mapped (is_marked marks) (number_for a) (λ row other agree. number-alike row other marks agree a (all 0 a (omega arith))) rows others zip in
      let more : states_of aggs rows ≡ states_of aggs others = states-alike aggs (λ k d lt. all (suc k) d (omega (arith, lt))) rows others zip in
      (λ i. state_of a.kind (here i) ∷ more i)

  all-keys : (groups : List ℕ) → All (λ column. is_marked marks column ≡ true) groups → (rows others : List (List Value)) → AgreeAll (is_marked marks) rows others → keys_of groups rows ≡ keys_of groups others
  all-keys [] all rows others zip = refl
  all-keys (g ∷ gs) all rows others zip = mapped (is_marked marks) (key_of (g ∷ gs)) (λ row other agree. keys-alike row other marks agree (g ∷ gs) all) rows others zip

  module _ (query : BoundQuery) (is : AllMarked query marks) where
    one-key : (key row other : List Value) → Agree (is_marked marks) row other → has_key query.groups key row ≡ has_key query.groups key other
    one-key key row other agree = ap (λ k. eq_by_cmp key_order key k) (keys-alike row other marks agree query.groups is.groups)

    groups-alike : (rows others : List (List Value)) → AgreeAll (is_marked marks) rows others → groups_of (shape_of query) rows ≡ groups_of (shape_of query) others
    groups-alike rows others zip =
        let keys : keys_of query.groups rows ≡ keys_of query.groups others = all-keys query.groups is.groups rows others zip in
        let states : (key : List Value) → states_of query.aggs (filter (has_key query.groups key) rows) ≡ states_of query.aggs (filter (has_key query.groups key) others) =
        λ key. states-alike query.aggs is.aggs (filter (has_key query.groups key) rows) (filter (has_key query.groups key) others)
        (agreeing-kept (is_marked marks) (has_key query.groups key) (one-key key) rows others zip) in
        (λ i. finite.from_entries (map (λ key. (key, states key i)) (keys i)))

    pub all-enough : AreEnough query marks
    all-enough rows others zip =
        groups-alike (selected query rows) (selected query others)
        (agreeing-kept (is_marked marks) (λ row. all_hold row query.conjuncts) (λ row other agree. conjuncts-alike row other marks agree query.conjuncts is.conjuncts) rows others zip)

-- where nothing is marked, all is
pub none-enough : (query : BoundQuery) → AreEnough query []
none-enough query = all-enough [] query (record {
  conjuncts = λ k d lt. any-test (get_or query.conjuncts k d);
  groups = λ k d lt. refl;
  aggs = λ k d lt. any-agg (get_or query.aggs k d).column;
})
  where
    any-test : (conjunct : Conjunct) → IsTestMarked [] conjunct
    any-test (One column test) = refl
    any-test (Many wide) = λ column. refl

    any-agg : (o : Option ℕ) → IfSome o (λ column. is_marked [] column ≡ true)
    any-agg None = tt
    any-agg (Some column) = refl
