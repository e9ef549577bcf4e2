-- The documents that are read of a tree stand for no more rows than it is of.
use Rattle.std.proofs.Common.{◌≡◌, ℕ, zero, suc, ◌+◌, ◌-◌, ◌≤◌, Bool, true, false, cond, ◌&&◌}
use Rattle.std.proofs.Common.{inl, inr, List, [], ◌∷◌, Option, Some, None, IfSome, MatchBool}
use Rattle.std.proofs.Common.{length, get_or, map, refl, ap, arith}
use Rattle.std.specs.List.{filter}
use Rattle.agg_laws.specs.declared.states.AggState.{AggState}
use Rattle.agg_laws.specs.declared.states.AggState.TheVariants.{Count}
use Rattle.state_columns.specs.Docs.{Doc}
use Rattle.state_columns.specs.Documents.{one_document}
use Rattle.state_columns.specs.Region.{range}
use Rattle.agg_laws.specs.Merged.{join_some, rekey, total, weights}
use Rattle.star_tree.specs.Picks.{ArePartedBy, HasDocs, HaveDocs, IsPartedBy, Task, holds_from}
use Rattle.star_tree.specs.Picks.{times_counted, times_covered}
use Rattle.star_tree.specs.Picks as nested
use Rattle.agg_laws.specs.Rows.{merged_rows, row_weight, weight_of}
use Rattle.agg_laws.specs.Tree.{agrees, dims_order, rows_at, starred}
use Rattle.state_columns.proofs.WeightLemmas.{weights-Merged, weights-append, weights-filter}
use Rattle.star_walk.specs.declared.pick.Pick.{Pick}
use Rattle.star_walk.specs.Images.{bare, passing, shown}
use Rattle.star_reader.specs.Asked.{states_of}

abbrev States : Type 0
States = List AggState

-- ---- how many values documents stand for, by a weight that adds up

module _ (w : List AggState → ℕ) (adds : (a b : List AggState) → w (merged_rows a b) ≤ w a + w b) where
  weights-rekey : (g : List ℕ → List ℕ) (es : List Doc) → weights w (rekey g es) ≡ weights w es
  weights-rekey g [] = refl
  weights-rekey g (e ∷ es) = ap (λ n. w e.1 + n) (weights-rekey g es)

  joined_weight : (a b : Option (List AggState)) (n m : ℕ) → IfSome a (λ s. w s ≤ n)
      → IfSome b (λ s. w s ≤ m) → IfSome (join_some merged_rows a b) (λ s. w s ≤ n + m)
  joined_weight None None n m h k = tt
  joined_weight None (Some t) n m h k = omega (arith, k)
  joined_weight (Some s) None n m h k = omega (arith, h)
  joined_weight (Some s) (Some t) n m h k = let both = adds s t in omega (arith, both, h, k)

  part_weight : (b : Bool) (s : List AggState) → IfSome (cond b (Some s) None) (λ s'. w s' ≤ w s)
  part_weight true s = omega arith
  part_weight false s = tt

  total_weight : (p : List ℕ → Bool) (es : List Doc)
      → IfSome (total merged_rows p es) (λ s. w s ≤ weights w es)
  total_weight p [] = tt
  total_weight p (e ∷ es) =
      joined_weight (cond (p e.0) (Some e.1) None) (total merged_rows p es) (w e.1) (weights w es)
      (part_weight (p e.0) e.1) (total_weight p es)

  one_weight : (ids : List ℕ) (o : Option (List AggState)) (n : ℕ) → IfSome o (λ s. w s ≤ n)
      → weights w (one_document ids o) ≤ n
  one_weight ids None n h = omega arith
  one_weight ids (Some s) n h = omega (arith, h)

  -- the documents of a pick stand for no more than the rows of its path
  docs_weight : (k : ℕ) (rows : List Doc) (p : nested.Pick (List AggState)) → HasDocs merged_rows k rows p
      → weights w p.docs ≤ weights w (rows_at p.path rows)
  docs_weight k rows p (inl h) =
      let merged = weights-Merged w dims_order merged_rows adds
      (rekey (starred p.path) (rows_at p.path rows)) in
      let same = weights-rekey (starred p.path) (rows_at p.path rows) in
      let are = ap (weights w) h.1.docs_are in
      omega (arith, merged, same, are)
  docs_weight k rows p (inr h) =
      let own = one_weight h.1.ids (total merged_rows (λ _. true) (rows_at p.path rows))
      (weights w (rows_at p.path rows)) (total_weight (λ _. true) (rows_at p.path rows)) in
      let are = ap (weights w) h.1.docs_are in
      omega (arith, own, are)

  -- of all picks together: their documents, and the rows of their paths
  abbrev pub docs_of_all : List (nested.Pick (List AggState)) → ℕ
  docs_of_all [] = 0
  docs_of_all (p ∷ ps) = weights w p.docs + docs_of_all ps

  abbrev rows_of_all : List (nested.Pick (List AggState)) → List Doc → ℕ
  rows_of_all [] rows = 0
  rows_of_all (p ∷ ps) rows = weights w (rows_at p.path rows) + rows_of_all ps rows

  docs_below : (k : ℕ) (rows : List Doc) (ps : List (nested.Pick (List AggState)))
      → HaveDocs merged_rows k rows ps → docs_of_all ps ≤ rows_of_all ps rows
  docs_below k rows [] h = omega arith
  docs_below k rows (p ∷ ps) h =
      let own = docs_weight k rows p h.0 in
      let more = docs_below k rows ps h.1 in
      omega (arith, own, more)

  -- one row more counts once for each pick that covers it
  one_row : (ps : List (nested.Pick (List AggState))) (e : Doc) (es : List Doc) → w e.1 ≤ 1
      → rows_of_all ps (e ∷ es) ≤ times_covered e.0 ps + rows_of_all ps es
  one_row [] e es weight_fits = omega arith
  one_row (p ∷ ps) e es weight_fits =
      let more = one_row ps e es weight_fits in
      let own = by (agrees p.path e.0) in
      omega (arith, more, own)
    where
      by : (b : Bool) → weights w (cond b (e ∷ rows_at p.path es) (rows_at p.path es))
          ≤ cond (b && true) 1 0 + weights w (rows_at p.path es)
      by true = omega (arith, weight_fits)
      by false = omega arith

  no_row : (ps : List (nested.Pick (List AggState))) → rows_of_all ps [] ≡ 0
  no_row [] = refl
  no_row (p ∷ ps) = let more = no_row ps in omega (arith, more)

  once : (t : Task) (k : ℕ) (ps : List (nested.Pick (List AggState))) (x : List ℕ)
      → IsPartedBy t k ps x → times_covered x ps ≤ 1
  once t k ps x h = by (holds_from t k 0 x) h
    where
      by : (b : Bool) → MatchBool b ((times_covered x ps ≡ 1) × (times_counted t k x ps ≡ 1))
          ((times_covered x ps ≤ 1) × (times_counted t k x ps ≡ 0)) → times_covered x ps ≤ 1
      by true h = omega (arith, h.0)
      by false h = h.0

  -- each row weighs one at most
  abbrev pub AreLight : List Doc → Type 0
  AreLight [] = Unit {0}
  AreLight (e ∷ es) = (w e.1 ≤ 1) × AreLight es

  rows_below : (t : Task) (k : ℕ) (ps : List (nested.Pick (List AggState))) (rows : List Doc)
      → AreLight rows → ArePartedBy t k ps rows → rows_of_all ps rows ≤ length rows
  rows_below t k ps [] weight_fits h = let none = no_row ps in omega (arith, none)
  rows_below t k ps (e ∷ es) weight_fits h =
      let own = one_row ps e es weight_fits.0 in
      let one = once t k ps e.0 h.0 in
      let more = rows_below t k ps es weight_fits.1 h.1 in
      omega (arith, own, one, more)

  -- so all documents of the picks stand for no more rows than there are
  pub all_below : (t : Task) (k : ℕ) (ps : List (nested.Pick (List AggState))) (rows : List Doc)
      → AreLight rows → ArePartedBy t k ps rows → HaveDocs merged_rows k rows ps
      → docs_of_all ps ≤ length rows
  all_below t k ps rows weight_fits parted has =
      let below = docs_below k rows ps has in
      let at_most = rows_below t k ps rows weight_fits parted in
      omega (arith, below, at_most)

  -- ---- the same of the picks of a flat tree

  abbrev sum_of : List (ℕ × List Doc) → ℕ
  sum_of [] = 0
  sum_of (p ∷ ps) = weights w p.1 + sum_of ps

  nested_sum : (ps : List (nested.Pick (List AggState))) → docs_of_all ps ≡ sum_of (map bare ps)
  nested_sum [] = refl
  nested_sum (p ∷ ps) = ap (λ n. weights w p.docs + n) (nested_sum ps)

  passing_sum : (t : Task) (k : ℕ) (docs : List Doc) (ps : List Pick)
      → weights w (passing t k docs ps) ≤ sum_of (map (shown docs) ps)
  passing_sum t k docs [] = omega arith
  passing_sum t k docs (p ∷ ps) =
      let own = filter (λ (e : Doc). holds_from t (k - p.level) p.level e.0) (range p.start p.end docs)
      in
      let less = weights-filter w (λ (e : Doc). holds_from t (k - p.level) p.level e.0)
      (range p.start p.end docs) in
      let both = weights-append w own (passing t k docs ps) in
      let more = passing_sum t k docs ps in
      omega (arith, less, both, more)

  -- those that pass their tests weigh no more
  pub passing_below : (t : Task) (k : ℕ) (docs : List Doc) (ps : List Pick)
      (ns : List (nested.Pick (List AggState))) → map (shown docs) ps ≡ map bare ns
      → weights w (passing t k docs ps) ≤ docs_of_all ns
  passing_below t k docs ps ns same =
      let less = passing_sum t k docs ps in
      let sum = nested_sum ns in
      let equal = ap sum_of same in
      omega (arith, less, sum, equal)

ones : (docs : List Doc) → weights (λ (s : List AggState). 1) docs ≡ length docs
ones [] = refl
ones (e ∷ es) = let more = ones es in omega (arith, more)

-- how many documents are read
pub read_ones : (ps : List (nested.Pick (List AggState)))
    → nested.read_of ps ≡ docs_of_all (λ s. 1) (λ a b. omega arith) ps
read_ones [] = refl
read_ones (p ∷ ps) = let own = ones p.docs in let more = read_ones ps in omega (arith, own, more)

-- the states of the aggregates weigh no more than those of the pairs
weight_in : (vs : List AggState) (i : ℕ) → weight_of (get_or vs i (Count 0)) ≤ row_weight vs
weight_in [] i = omega arith
weight_in (v ∷ vs) zero = omega arith
weight_in (v ∷ vs) (suc i) = let more = weight_in vs i in omega (arith, more)

pub picked_weight : (pairs : List ℕ) (vs : List AggState)
    → row_weight (states_of pairs vs) ≤ row_weight vs
picked_weight [] vs = omega arith
picked_weight (p ∷ ps) vs =
    let own = weight_in vs p in let more = picked_weight ps vs in omega (arith, own, more)
