-- Documents are selected, one after the other.
use Rattle.std.proofs.Common.{◌≡◌, ◌∙◌, ℕ, zero, suc, ◌+◌, ◌-◌, ◌<◌, ◌≤◌, List, [], ◌∷◌, ◌++◌, length}
use Rattle.std.proofs.Common.{All, get_or, take, refl, sym, ap, subst, arith}
use Rattle.std.proofs.lemmas.List.Elements.{All-head, All-tail, All-cons, All-append, All-nil}
use Rattle.agg_laws.specs.declared.aggregate_kind.AggKind.{AggKind}
use Rattle.agg_laws.specs.declared.aggregate_kind.AggKind.TheVariants as kinds
use Rattle.agg_laws.specs.declared.states.AggState.{AggState}
use Rattle.agg_laws.specs.declared.states.AggState.TheVariants.{Count}
use Rattle.agg_laws.specs.declared.tree_shape.TreeShape.{TreeShape}
use Rattle.state_columns.specs.Docs.{AreStored, Doc, Docs, HaveShape, doc_at}
use Rattle.agg_laws.specs.Rows.{RowStored, kinds_of, row_weight}
use Rattle.agg_laws.specs.States.{kind_of}
use Rattle.agg_laws.specs.Merged.{weights}
use Rattle.agg_laws.specs.Tree.{dim}
use Rattle.state_columns.proofs.RowPlaces.{length-kinds_of}
use Rattle.state_columns.proofs.RegionSteps.{shape_at, stored_at}
use Rattle.state_columns.proofs.WeightLemmas.{weights-append}
use Rattle.star_reader.specs.declared.asked.Asked.{Asked}
use Rattle.star_reader.specs.declared.asked.GroupColumn.{GroupColumn}
use Rattle.star_reader.specs.Asked.{AreAsked, HasKey, kinds_for, states_of, value_of}
use Rattle.star_reader.specs.Selected.{AreKeyIds, IsSelected, MayBeSelected, key_ids, key_values, selected_doc}
use Rattle.star_reader.proofs.WeightSteps.{stored_in}

-- ---- the states of the aggregates

kind_in : (vs : List AggState) (i : ℕ) → i < length vs
    → kind_of (get_or vs i (Count 0)) ≡ get_or (kinds_of vs) i kinds.Count
kind_in [] i lt = absurd (omega arith)
kind_in (v ∷ vs) zero lt = refl
kind_in (v ∷ vs) (suc i) lt = kind_in vs i (omega arith)

-- they are of the kinds of the pairs
pub kinds_states : (pairs : List ℕ) (vs : List AggState) (ks : List AggKind) → kinds_of vs ≡ ks
    → All (λ pair. pair < length ks) pairs → kinds_of (states_of pairs vs) ≡ kinds_for pairs ks
kinds_states pairs vs ks is h =
    subst (λ all. All (λ pair. pair < length all) pairs
    → kinds_of (states_of pairs vs) ≡ kinds_for pairs all) is (own pairs) h
  where
    own : (pairs : List ℕ) → All (λ pair. pair < length (kinds_of vs)) pairs
        → kinds_of (states_of pairs vs) ≡ kinds_for pairs (kinds_of vs)
    own [] h = refl
    own (p ∷ ps) h =
        let lt : p < length vs = subst (λ n. p < n) (length-kinds_of vs)
        (All-head (λ pair. pair < length (kinds_of vs)) p ps h) in
        λ i. kind_in vs p lt i ∷ own ps (All-tail (λ pair. pair < length (kinds_of vs)) p ps h) i

-- and can be stored
pub stored_states : (pairs : List ℕ) (vs : List AggState) → RowStored vs
    → All (λ pair. pair < length vs) pairs → RowStored (states_of pairs vs)
stored_states [] vs h all = tt
stored_states (p ∷ ps) vs h all = (
  stored_in vs p (Count 0) h (All-head (λ pair. pair < length vs) p ps all),
  stored_states ps vs h (All-tail (λ pair. pair < length vs) p ps all),
)

-- ---- keys by ids

pub keyed_from : (columns : List GroupColumn) (ids : List ℕ) → HasKey columns ids
    → AreKeyIds columns (key_ids columns ids)
keyed_from [] ids h = tt
keyed_from (c ∷ cs) ids h = (
  All-head (λ column. dim column.dim ids < length column.values.now.values) c cs h,
  keyed_from cs ids (All-tail (λ column. dim column.dim ids < length column.values.now.values) c cs
      h),
)

pub keyed_back : (columns : List GroupColumn) (ids : List ℕ)
    → AreKeyIds columns (key_ids columns ids) → HasKey columns ids
keyed_back [] ids h = All-nil (λ column. dim column.dim ids < length column.values.now.values)
keyed_back (c ∷ cs) ids h =
    All-cons (λ column. dim column.dim ids < length column.values.now.values) c cs h.0
    (keyed_back cs ids h.1)

-- an id of a key, and one value more of it
pub key_id : (columns : List GroupColumn) (ids : List ℕ) (i : ℕ) (c : GroupColumn) (d : ℕ)
    → AreKeyIds columns ids → i < length columns
    → get_or ids i d < length (get_or columns i c).values.now.values
key_id [] ids i c d h lt = absurd (omega arith)
key_id (x ∷ cs) [] i c d h lt = absurd h
key_id (x ∷ cs) (id ∷ ids) zero c d h lt = h.0
key_id (x ∷ cs) (id ∷ ids) (suc i) c d h lt = key_id cs ids i c d h.1 (omega arith)

pub key_value : (columns : List GroupColumn) (ids : List ℕ) (i : ℕ) (c : GroupColumn) (d : ℕ)
    → AreKeyIds columns ids → i < length columns
    → key_values (take (suc i) columns) ids
    ≡ key_values (take i columns) ids ++ value_of (get_or columns i c) (get_or ids i d) ∷ []
key_value [] ids i c d h lt = absurd (omega arith)
key_value (x ∷ cs) [] i c d h lt = absurd h
key_value (x ∷ cs) (id ∷ ids) zero c d h lt = refl
key_value (x ∷ cs) (id ∷ ids) (suc i) c d h lt =
    ap (λ t. value_of x id ∷ t) (key_value cs ids i c d h.1 (omega arith))

-- ---- what may be selected

-- the first of some documents may be selected where all may
pub may_first : (columns : List GroupColumn) (rows : ℕ) (xs ys : List Doc)
    → MayBeSelected columns rows (xs ++ ys) → MayBeSelected columns rows xs
may_first columns rows xs ys h = record {
  keyed = first_all xs ys h.keyed;
  weight_fits = (let w = weights-append row_weight xs ys in omega (arith, w, h.weight_fits));
}
  where
    first_all : (xs ys : List Doc) → All (λ e. AreKeyIds columns e.0) (xs ++ ys)
        → All (λ e. AreKeyIds columns e.0) xs
    first_all [] ys h = All-nil (λ e. AreKeyIds columns e.0)
    first_all (x ∷ xs) ys h = All-cons (λ e. AreKeyIds columns e.0) x xs
        (All-head (λ e. AreKeyIds columns e.0) x (xs ++ ys) h)
        (first_all xs ys (All-tail (λ e. AreKeyIds columns e.0) x (xs ++ ys) h))

all_last : (columns : List GroupColumn) (xs : List Doc) (e : Doc)
    → All (λ e. AreKeyIds columns e.0) (xs ++ e ∷ []) → AreKeyIds columns e.0
all_last columns [] e h = All-head (λ e. AreKeyIds columns e.0) e [] h
all_last columns (x ∷ xs) e h =
    all_last columns xs e (All-tail (λ e. AreKeyIds columns e.0) x (xs ++ e ∷ []) h)

module _ (asked : Asked) (rows : ℕ) (docs : List Doc) (e : Doc) where
  -- one more may be selected where it has a key and is not too heavy
  pub may_more : MayBeSelected asked.columns.now rows docs → HasKey asked.columns.now e.0
      → row_weight (states_of asked.pairs.now e.1) + weights row_weight docs ≤ rows
      → MayBeSelected asked.columns.now rows (docs ++ selected_doc asked e ∷ [])
  may_more h has weight_fits = record {
    keyed = All-append (λ e. AreKeyIds asked.columns.now e.0) docs (selected_doc asked e ∷ []) h.keyed
        (All-cons (λ e. AreKeyIds asked.columns.now e.0) (selected_doc asked e) []
        (keyed_from asked.columns.now e.0 has) (All-nil (λ e. AreKeyIds asked.columns.now e.0)));
    weight_fits = (let w = weights-append row_weight docs (selected_doc asked e ∷ []) in
        omega (arith, w, weight_fits));
  }

  pub may_key : MayBeSelected asked.columns.now rows (docs ++ selected_doc asked e ∷ [])
      → HasKey asked.columns.now e.0
  may_key h = keyed_back asked.columns.now e.0
      (all_last asked.columns.now docs (selected_doc asked e) h.keyed)

  pub may_weigh : MayBeSelected asked.columns.now rows (docs ++ selected_doc asked e ∷ [])
      → weights row_weight docs + row_weight (states_of asked.pairs.now e.1) ≤ rows
  may_weigh h = let w = weights-append row_weight docs (selected_doc asked e ∷ []) in
      omega (arith, w, h.weight_fits)

-- ---- a document of a table is selected

module _ (t : Docs) (at : ℕ) (shape : TreeShape) (asked : Asked) (lt : at < length t.docs)
    (is : HaveShape t.dims t.kinds t.docs) (stored : AreStored t.docs)
    (same : t.kinds ≡ shape.kinds) (ask : AreAsked shape asked) where
  abbrev pub own : Doc
  own = doc_at t.docs at

  own_kinds : kinds_of own.1 ≡ shape.kinds
  own_kinds = (shape_at t.dims t.kinds t.docs at is lt).1 ∙ same

  pub own_states_kinds : kinds_of (states_of asked.pairs.now own.1)
      ≡ kinds_for asked.pairs.now shape.kinds
  own_states_kinds = kinds_states asked.pairs.now own.1 shape.kinds own_kinds ask.pairs

  pub own_states_stored : RowStored (states_of asked.pairs.now own.1)
  own_states_stored =
      let lengths : length own.1 ≡ length shape.kinds = sym (length-kinds_of own.1) ∙ ap length own_kinds
      in
      stored_states asked.pairs.now own.1 (stored_at t.docs at stored lt)
      (λ k d h. omega (arith, ask.pairs k d h, lengths))

-- the table with one document more
pub record Appended (asked : Asked) (e : Doc) (old new : Docs) : Type 0 where
  pub docs : new.docs ≡ old.docs ++ selected_doc asked e ∷ []
  pub dims : new.dims ≡ old.dims
  pub kinds : new.kinds ≡ old.kinds
  pub spare : new.spare ≡ old.spare - 1

pub appended : (asked : Asked) (e : Doc) (old new : Docs) (ids : List ℕ) (states : List AggState)
    → ids ≡ key_ids asked.columns.now e.0 → states ≡ states_of asked.pairs.now e.1
    → new ≡ record old { docs = old.docs ++ (ids, states) ∷ []; spare = old.spare - 1 }
    → Appended asked e old new
appended asked e old new ids states i s is = record {
  docs = ap (λ (t : Docs). t.docs) is ∙ (λ j. old.docs ++ (i j, s j) ∷ []);
  dims = ap (λ (t : Docs). t.dims) is;
  kinds = ap (λ (t : Docs). t.kinds) is;
  spare = ap (λ (t : Docs). t.spare) is;
}

pub weight_more : (asked : Asked) (e : Doc) (old new : Docs) (w : ℕ) → Appended asked e old new
    → w ≡ row_weight (states_of asked.pairs.now e.1)
    → weights row_weight old.docs + w ≡ weights row_weight new.docs
weight_more asked e old new w a is =
    let more = weights-append row_weight old.docs (selected_doc asked e ∷ []) in
    let all = ap (weights row_weight) a.docs in omega (arith, more, all, is)

pub selected_more : (shape : TreeShape) (asked : Asked) (rows : ℕ) (e : Doc) (old new : Docs) (w : ℕ)
    → IsSelected shape asked rows old → Appended asked e old new → HasKey asked.columns.now e.0
    → w ≡ row_weight (states_of asked.pairs.now e.1) → w + weights row_weight old.docs ≤ rows
    → IsSelected shape asked rows new
selected_more shape asked rows e old new w is a has weighs weight_fits = record {
  dims = a.dims ∙ is.dims;
  kinds = a.kinds ∙ is.kinds;
  may = subst (MayBeSelected asked.columns.now rows) (sym a.docs)
      (may_more asked rows old.docs e is.may has (omega (arith, weighs, weight_fits)));
}
