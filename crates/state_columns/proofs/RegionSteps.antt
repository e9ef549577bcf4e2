-- Changes of the last document of a region.
use Rattle.std.proofs.Common.{◌≡◌, ◌≢◌, ℕ, zero, suc, ◌+◌, ◌*◌, ◌-◌, ◌<◌, ◌≤◌, Bool, true, false}
use Rattle.std.proofs.Common.{nat_le, if◌then◌else◌, List, [], ◌∷◌, ◌++◌, length, take, drop, set}
use Rattle.std.proofs.Common.{refl, sym, ap, subst, ◌∙◌, arith, length-set}
use Rattle.std.proofs.lemmas.List.{length-map, take-set-le}
use Rattle.std.proofs.lemmas.List.{get_or-set_same, get_or-set_other}
use Rattle.std.proofs.Math.Seq.{take-length}
use Rattle.std.proofs.Math.Nat.{mul-le-mul_right}
use Rattle.agg_laws.specs.declared.aggregate_kind.AggKind.{AggKind}
use Rattle.agg_laws.specs.declared.states.AggState.{AggState}
use Rattle.agg_laws.specs.declared.states.AggState.TheVariants.{Count, Sum, Least, Greatest}
use Rattle.agg_laws.specs.declared.states.AggState.TheVariants.{Average}
use Rattle.agg_laws.specs.States.{kind_of, rank_of, merged, unit_of}
use Rattle.agg_laws.specs.Numbers.{most_stored, most_values}
use Rattle.agg_laws.specs.Rows.{kinds_of, merged_rows, row_weight, RowFits, RowStored}
use Rattle.agg_laws.specs.Tree.{star, set_star}
use Rattle.agg_laws.specs.laws.Rows as rows
use Rattle.agg_laws.specs.laws.States as laws
use Rattle.state_columns.specs.Docs.{Doc, doc_at, HaveShape, AreStored}
use Rattle.state_columns.specs.Columns.{Column, kinds_in, row_at, row_pushed, row_replaced}
use Rattle.state_columns.specs.Columns.{AreColumns, AreWider}
use Rattle.state_columns.specs.Region.{doc_in, docs_in, IsRegion}
use Rattle.state_columns.proofs.RowPlaces.{length-kinds_of}
use Rattle.state_columns.proofs.ListLemmas.{append_none}
use Rattle.state_columns.proofs.RegionLemmas.{docs_more, last_doc, shape_more, stored_more}
use Rattle.state_columns.proofs.RegionLemmas.{wider_length}

pub shape_at : (k : ℕ) (ks : List AggKind) (docs : List Doc) (i : ℕ) → HaveShape k ks docs
    → i < length docs → (length (doc_at docs i).0 ≡ k) × (kinds_of (doc_at docs i).1 ≡ ks)
shape_at k ks [] i h lt = absurd (omega arith)
shape_at k ks (e ∷ es) zero h lt = (h.0, h.1)
shape_at k ks (e ∷ es) (suc i) h lt = shape_at k ks es i h.2 (omega arith)

pub stored_at : (docs : List Doc) (i : ℕ) → AreStored docs → i < length docs
    → RowStored (doc_at docs i).1
stored_at [] i h lt = absurd (omega arith)
stored_at (e ∷ es) zero h lt = h.0
stored_at (e ∷ es) (suc i) h lt = stored_at es i h.1 (omega arith)

pub shape_front : (k : ℕ) (ks : List AggKind) (docs more : List Doc) → HaveShape k ks (docs ++ more)
    → HaveShape k ks docs
shape_front k ks [] more h = tt
shape_front k ks (e ∷ es) more h = (h.0, h.1, shape_front k ks es more h.2)

stored_front : (docs more : List Doc) → AreStored (docs ++ more) → AreStored docs
stored_front [] more h = tt
stored_front (e ∷ es) more h = (h.0, stored_front es more h.1)

pub front_same : (xs ys : List Doc) (x y : Doc) → xs ++ (x ∷ []) ≡ ys ++ (y ∷ []) → xs ≡ ys
front_same [] [] x y h = refl
front_same [] (b ∷ []) x y h = cc
front_same [] (b ∷ c ∷ ys) x y h = cc
front_same (a ∷ []) [] x y h = cc
front_same (a ∷ c ∷ xs) [] x y h = cc
front_same (a ∷ xs) (b ∷ ys) x y h = λ i. head a b (xs ++ (x ∷ [])) (ys ++ (y ∷ [])) h i
    ∷ front_same xs ys x y (tail a b (xs ++ (x ∷ [])) (ys ++ (y ∷ [])) h) i
  where
    head : (a b : Doc) (xs ys : List Doc) → a ∷ xs ≡ b ∷ ys → a ≡ b
    head a b xs ys h = cc

    tail : (a b : Doc) (xs ys : List Doc) → a ∷ xs ≡ b ∷ ys → xs ≡ ys
    tail a b xs ys h = cc

pub last_same : (xs ys : List Doc) (x y : Doc) → xs ++ (x ∷ []) ≡ ys ++ (y ∷ []) → x ≡ y
last_same [] [] x y h = cc
last_same [] (b ∷ []) x y h = cc
last_same [] (b ∷ c ∷ ys) x y h = cc
last_same (a ∷ []) [] x y h = cc
last_same (a ∷ c ∷ xs) [] x y h = cc
last_same (a ∷ xs) (b ∷ ys) x y h =
    last_same xs ys x y (tail a b (xs ++ (x ∷ [])) (ys ++ (y ∷ [])) h)
  where
    tail : (a b : Doc) (xs ys : List Doc) → a ∷ xs ≡ b ∷ ys → xs ≡ ys
    tail a b xs ys h = cc

-- what is written back to a list of the same length
pub written : {X : Type 0} (n : ℕ) (new old : List X) → length new ≡ n → length old ≡ n
    → take n (new ++ drop (length new) old) ≡ new
written n new old a b =
    let none : drop (length new) old ≡ [] = gone (length new) old (omega (arith, a, b)) in
    ap (λ t. take n (new ++ t)) none ∙ ap (take n) (append_none new) ∙ ap (λ m. take m new) (sym a)
    ∙ take-length new
  where
    gone : {X : Type 0} (n : ℕ) (xs : List X) → length xs ≤ n → drop n xs ≡ []
    gone zero [] h = refl
    gone zero (x ∷ xs) h = absurd (omega arith)
    gone (suc n) [] h = refl
    gone (suc n) (x ∷ xs) h = gone n xs (omega arith)

pub shape_last : (k : ℕ) (ks : List AggKind) (docs : List Doc) (e : Doc)
    → HaveShape k ks (docs ++ (e ∷ [])) → (length e.0 ≡ k) × (kinds_of e.1 ≡ ks)
shape_last k ks [] e h = (h.0, h.1)
shape_last k ks (d ∷ ds) e h = shape_last k ks ds e h.2

stored_last : (docs : List Doc) (e : Doc) → AreStored (docs ++ (e ∷ [])) → RowStored e.1
stored_last [] e h = h.0
stored_last (d ∷ ds) e h = stored_last ds e h.1

-- what the columns have in each place, once that in one is another
pub row_other : (p : ℕ) (cs : List Column) (vs : List AggState) (i : ℕ) → i ≢ p
    → row_at (row_replaced p cs vs) i ≡ row_at cs i
row_other p [] vs i h = refl
row_other p (c ∷ cs) [] i h = refl
row_other p (c ∷ cs) (v ∷ vs) i h =
    λ j. get_or-set_other c.states p i v (unit_of c.kind) h j ∷ row_other p cs vs i h j

pub row_own : (n s p : ℕ) (cs : List Column) (vs : List AggState) → AreColumns n s cs → p < n
    → length vs ≡ length cs → row_at (row_replaced p cs vs) p ≡ vs
row_own n s p [] [] h lt l = refl
row_own n s p [] (v ∷ vs) h lt l = absurd (omega (arith, l))
row_own n s p (c ∷ cs) [] h lt l = absurd (omega (arith, l))
row_own n s p (c ∷ cs) (v ∷ vs) h lt l =
    λ j. get_or-set_same c.states p v (unit_of c.kind) (omega (arith, h.0, lt)) j
    ∷ row_own n s p cs vs h.2 lt (omega (arith, l)) j

pub kinds_replaced : (p : ℕ) (cs : List Column) (vs : List AggState)
    → kinds_in (row_replaced p cs vs)
    ≡ kinds_in cs
kinds_replaced p [] vs = refl
kinds_replaced p (c ∷ cs) [] = refl
kinds_replaced p (c ∷ cs) (v ∷ vs) = ap (λ t. c.kind ∷ t) (kinds_replaced p cs vs)

pub columns_replaced : (n s p : ℕ) (cs : List Column) (vs : List AggState) → AreColumns n s cs
    → AreColumns n s (row_replaced p cs vs)
columns_replaced n s p [] vs h = tt
columns_replaced n s p (c ∷ cs) [] h = h
columns_replaced n s p (c ∷ cs) (v ∷ vs) h =
    (length-set c.states p v ∙ h.0, h.1, columns_replaced n s p cs vs h.2)

pub replaced_length : (p : ℕ) (cs : List Column) (vs : List AggState)
    → length (row_replaced p cs vs)
    ≡ length cs
replaced_length p [] vs = refl
replaced_length p (c ∷ cs) [] = refl
replaced_length p (c ∷ cs) (v ∷ vs) = ap suc (replaced_length p cs vs)

-- a region whose last document is another
module _ (n k : ℕ) (ks : List AggKind) (ids : List ℕ) (cs : List Column) (spare a : ℕ)
    (r : IsRegion n k ks ids cs spare a) (some : 0 < n) where
  -- the documents before the last, and its ids and states
  abbrev pub front : List Doc
  front = docs_in (n - 1) k ids cs

  abbrev pub last_ids : List ℕ
  last_ids = take k (drop ((n - 1) * k) ids)

  abbrev pub last_row : List AggState
  last_row = row_at cs (n - 1)

  pub last_is : docs_in n k ids cs ≡ front ++ ((last_ids, last_row) ∷ [])
  last_is = last_doc n k ids cs some

  shape_is : HaveShape k ks (front ++ ((last_ids, last_row) ∷ []))
  shape_is = subst (HaveShape k ks) last_is r.shape

  stored_is : AreStored (front ++ ((last_ids, last_row) ∷ []))
  stored_is = subst AreStored last_is r.stored

  pub long_last : length last_ids ≡ k
  long_last = (shape_last k ks front (last_ids, last_row) shape_is).0

  pub kinds_last : kinds_of last_row ≡ ks
  kinds_last = (shape_last k ks front (last_ids, last_row) shape_is).1

  pub store_last : RowStored last_row
  store_last = stored_last front (last_ids, last_row) stored_is

  module _ (xs : List ℕ) (ys : List AggState) (ids' : List ℕ) (cs' : List Column)
      (before : (i : ℕ) → i < n - 1 → doc_in k ids cs i ≡ doc_in k ids' cs' i)
      (at_ids : take k (drop ((n - 1) * k) ids') ≡ xs) (at_row : row_at cs' (n - 1) ≡ ys) where
    pub with_last : docs_in n k ids' cs' ≡ front ++ ((xs, ys) ∷ [])
    with_last =
        let e : n ≡ suc (n - 1) = omega (arith, some) in
        ap (λ i. docs_in i k ids' cs') e
        ∙ docs_more (n - 1) k ids ids' cs cs' xs ys before at_ids at_row

    pub changed : length ids' ≡ length ids → kinds_in cs' ≡ kinds_in cs → AreColumns n spare cs'
        → length xs ≡ k → kinds_of ys ≡ ks → RowStored ys → IsRegion n k ks ids' cs' spare a
    changed li lk lc lx ky st = record {
      ids_are = li ∙ r.ids_are;
      kinds_are = lk ∙ r.kinds_are;
      columns_are = lc;
      few_kinds = r.few_kinds;
      at_most = r.at_most;
      shape = subst (HaveShape k ks) (sym with_last)
          (shape_more k ks front (xs, ys) (shape_front k ks front _ shape_is) lx ky);
      stored = subst AreStored (sym with_last)
          (stored_more front (xs, ys) (stored_front front _ stored_is) st);
      ids_fit = omega (arith, li, r.ids_fit);
    }

-- the kinds of merged states
either_kind : (b : Bool) (v w : AggState) → kind_of v ≡ kind_of w → kind_of (if b then v else w)
    ≡ kind_of v
either_kind true v w h = refl
either_kind false v w h = sym h

kind_merged : (v w : AggState) → kind_of v ≡ kind_of w → kind_of (merged v w) ≡ kind_of v
kind_merged (Count v) (Count w) h = refl
kind_merged (Sum v) (Sum w) h = refl
kind_merged (Least v) (Least w) h = refl
kind_merged (Greatest v) (Greatest w) h = refl
kind_merged (Average v) (Average w) h = refl
kind_merged v w h = either_kind (nat_le (rank_of (kind_of v)) (rank_of (kind_of w))) v w h

pub kinds_merged : (vs ws : List AggState) → kinds_of vs ≡ kinds_of ws
    → kinds_of (merged_rows vs ws) ≡ kinds_of vs
kinds_merged [] ws h = refl
kinds_merged (v ∷ vs) [] h = cc
kinds_merged (v ∷ vs) (w ∷ ws) h =
    λ i. kind_merged v w (front (kind_of v) (kind_of w) (kinds_of vs) (kinds_of ws) h) i
    ∷ kinds_merged vs ws (rest (kind_of v) (kind_of w) (kinds_of vs) (kinds_of ws) h) i
  where
    front : (a b : AggKind) (ks ls : List AggKind) → a ∷ ks ≡ b ∷ ls → a ≡ b
    front a b ks ls e = cc

    rest : (a b : AggKind) (ks ls : List AggKind) → a ∷ ks ≡ b ∷ ls → ks ≡ ls
    rest a b ks ls e = cc

-- states of documents that are light together fit, and stay stored
row_stored_fits : (vs : List AggState) → RowStored vs → RowFits vs most_stored
row_stored_fits [] h = tt
row_stored_fits (v ∷ vs) h = (laws.stored_fits v h.0, row_stored_fits vs h.1)

pub merged_fits : (vs ws : List AggState) → RowStored vs → RowStored ws → row_weight vs
    + row_weight ws ≤ most_stored → RowFits (merged_rows vs ws) most_values
merged_fits vs ws p q at_most =
    rows.fits_more (merged_rows vs ws) most_stored most_values
    (row_stored_fits (merged_rows vs ws) (rows.row_stored_both vs ws p q at_most)) (omega arith)

-- ids of which one is set
set_far : (m k i v : ℕ) (ids : List ℕ) → m + k ≤ i → take k (drop m (set ids i v))
    ≡ take k (drop m ids)
set_far zero k i v ids h = take-set-le k ids i v (omega arith)
set_far (suc m) k i v [] h = refl
set_far (suc m) k zero v (x ∷ xs) h = absurd (omega arith)
set_far (suc m) k (suc i) v (x ∷ xs) h = set_far m k i v xs (omega arith)

set_near : (k i v : ℕ) (ids : List ℕ) → i < k → take k (set ids i v) ≡ set (take k ids) i v
set_near zero i v ids h = absurd (omega arith)
set_near (suc k) i v [] h = refl
set_near (suc k) zero v (x ∷ xs) h = refl
set_near (suc k) (suc i) v (x ∷ xs) h = ap (λ t. x ∷ t) (set_near k i v xs (omega arith))

set_there : (m k i v : ℕ) (ids : List ℕ) → i < k → take k (drop m (set ids (m + i) v))
    ≡ set (take k (drop m ids)) i v
set_there zero k i v ids h =
    ap (λ p. take k (set ids p v)) (let e : 0 + i ≡ i = omega arith in e) ∙ set_near k i v ids h
set_there (suc m) k i v [] h = none k i v
  where
    none : (k i v : ℕ) → take k [] ≡ set (take k []) i v
    none zero i v = refl
    none (suc k) i v = refl
set_there (suc m) k i v (x ∷ xs) h =
    ap (λ p. take k (drop (suc m) (set (x ∷ xs) p v)))
    (let e : suc m + i ≡ suc (m + i) = omega arith in e) ∙ set_there m k i v xs h

module _ (n k : ℕ) (ks : List AggKind) (ids : List ℕ) (cs : List Column) (spare a : ℕ)
    (r : IsRegion n k ks ids cs spare a) (some : 0 < n) where
  abbrev xs : List ℕ
  xs = last_ids n k ks ids cs spare a r some

  abbrev ys : List AggState
  ys = last_row n k ks ids cs spare a r some

  -- a dimension of the last document is starred
  module _ (level : ℕ) (lt : level < k) where
    abbrev ids' : List ℕ
    ids' = set ids ((n - 1) * k + level) star

    same : (i : ℕ) → i < n - 1 → doc_in k ids cs i ≡ doc_in k ids' cs i
    same i small = let le = mul-le-mul_right k small in let s : suc i * k ≡ i * k + k = omega arith
        in λ j. (
          sym (set_far (i * k) k ((n - 1) * k + level) star ids
              (omega (arith, le, s))) j,
          row_at cs i,
        )

    pub starred_region : IsRegion n k ks ids' cs spare a
    starred_region = changed n k ks ids cs spare a r some (set xs level star) ys ids' cs same
        (set_there ((n - 1) * k) k level star ids lt) refl
        (length-set ids ((n - 1) * k + level) star) refl r.columns_are
        (length-set xs level star ∙ long_last n k ks ids cs spare a r some)
        (kinds_last n k ks ids cs spare a r some) (store_last n k ks ids cs spare a r some)

    pub starred_docs : (docs : List Doc) (e : Doc) → docs_in n k ids cs ≡ docs ++ (e ∷ [])
        → docs_in n k ids' cs ≡ docs ++ ((set_star level e.0, e.1) ∷ [])
    starred_docs docs e is =
        let f = front n k ks ids cs spare a r some in
        let tie = sym (last_is n k ks ids cs spare a r some) ∙ is in
        let own : (xs, ys) ≡ e = last_same f docs (xs, ys) e tie in
        with_last n k ks ids cs spare a r some (set xs level star) ys ids' cs same
        (set_there ((n - 1) * k) k level star ids lt) refl
        ∙ (λ i. front_same f docs (xs, ys) e tie i ++ ((set_star level (own i).0, (own i).1) ∷ []))

  -- states are merged into those of the last document, with which they are light
  module _ (zs : List AggState) (kz : kinds_of zs ≡ ks) (sz : RowStored zs)
      (weight_fits : (docs : List Doc) (e : Doc) → docs_in n k ids cs ≡ docs ++ (e ∷ [])
      → row_weight e.1 + row_weight zs ≤ most_stored) where
    at_most : row_weight ys + row_weight zs ≤ most_stored
    at_most = weight_fits (front n k ks ids cs spare a r some) (xs, ys) (last_is n k ks ids cs spare a r some)

    both : kinds_of ys ≡ kinds_of zs
    both = kinds_last n k ks ids cs spare a r some ∙ sym kz

    pub they_fit : RowFits (merged_rows ys zs) most_values
    they_fit = merged_fits ys zs (store_last n k ks ids cs spare a r some) sz at_most

    kinds' : kinds_of (merged_rows ys zs) ≡ ks
    kinds' = kinds_merged ys zs both ∙ kinds_last n k ks ids cs spare a r some

    lengths' : length (merged_rows ys zs) ≡ length cs
    lengths' = sym (length-kinds_of (merged_rows ys zs)) ∙ ap length (kinds' ∙ sym r.kinds_are)
        ∙ length-map cs (λ c. c.kind)

    module _ (cs' : List Column) (js : cs' ≡ row_replaced (n - 1) cs (merged_rows ys zs)) where
      rows_same : (i : ℕ) → i < n - 1 → doc_in k ids cs i ≡ doc_in k ids cs' i
      rows_same i small =
          let apart : i ≢ n - 1 = (λ e. let f : i ≡ n - 1 = e in absurd (omega arith)) in
          λ j. (
            take k (drop (i * k) ids),
            (sym (row_other (n - 1) cs (merged_rows ys zs) i apart)
                ∙ ap (λ l. row_at l i) (sym js)) j,
          )

      at_end : row_at cs' (n - 1) ≡ merged_rows ys zs
      at_end = ap (λ l. row_at l (n - 1)) js
          ∙ row_own n spare (n - 1) cs (merged_rows ys zs) r.columns_are (omega (arith, some)) lengths'

      pub merged_region : IsRegion n k ks ids cs' spare a
      merged_region =
          changed n k ks ids cs spare a r some xs (merged_rows ys zs) ids cs' rows_same refl at_end
          refl
          (ap kinds_in js ∙ kinds_replaced (n - 1) cs (merged_rows ys zs))
          (subst (AreColumns n spare) (sym js)
          (columns_replaced n spare (n - 1) cs (merged_rows ys zs) r.columns_are))
          (long_last n k ks ids cs spare a r some) kinds'
          (rows.row_stored_both ys zs (store_last n k ks ids cs spare a r some) sz at_most)

      pub merged_docs_are : (docs : List Doc) (e : Doc) → docs_in n k ids cs ≡ docs ++ (e ∷ [])
          → docs_in n k ids cs' ≡ docs ++ ((e.0, merged_rows e.1 zs) ∷ [])
      merged_docs_are docs e is =
          let f = front n k ks ids cs spare a r some in
          let tie = sym (last_is n k ks ids cs spare a r some) ∙ is in
          let own : (xs, ys) ≡ e = last_same f docs (xs, ys) e tie in
          with_last n k ks ids cs spare a r some xs (merged_rows ys zs) ids cs' rows_same refl
          at_end
          ∙ (λ j. front_same f docs (xs, ys) e tie j
          ++ (((own j).0, merged_rows (own j).1 zs) ∷ []))

-- columns that are written back
pushed_length : (cs : List Column) (vs : List AggState) → length (row_pushed cs vs) ≡ length cs
pushed_length [] vs = refl
pushed_length (c ∷ cs) [] = refl
pushed_length (c ∷ cs) (v ∷ vs) = ap suc (pushed_length cs vs)

pub pushed_back : (n : ℕ) (new old : List Column) (vs : List AggState) → length old ≡ n → new
    ≡ row_pushed old vs → take n (new ++ drop (length new) old) ≡ row_pushed old vs
pushed_back n new old vs l h =
    written n new old (ap length h ∙ pushed_length old vs ∙ l) l ∙ h

pub replaced_back : (n p : ℕ) (new old : List Column) (vs : List AggState) → length old ≡ n → new
    ≡ row_replaced p old vs → take n (new ++ drop (length new) old) ≡ row_replaced p old vs
replaced_back n p new old vs l h =
    written n new old (ap length h ∙ replaced_length p old vs ∙ l) l ∙ h

pub wider_back : (n : ℕ) (new old : List Column) → length old ≡ n → AreWider old new
    → take n (new ++ drop (length new) old) ≡ new
wider_back n new old l w = written n new old (wider_length old new w ∙ l) l
