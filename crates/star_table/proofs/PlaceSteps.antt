-- Changes of one document of a region.
use Rattle.std.proofs.Common.{◌≡◌, ◌≢◌, ℕ, zero, suc, ◌+◌, ◌*◌, ◌<◌, ◌≤◌, List, [], ◌∷◌, length}
use Rattle.std.proofs.Common.{take, drop, set, sym, ap, subst, ◌∙◌, arith}
use Rattle.std.proofs.lemmas.List.{length-map}
use Rattle.agg_laws.specs.declared.aggregate_kind.AggKind.{AggKind}
use Rattle.agg_laws.specs.declared.states.AggState.{AggState}
use Rattle.agg_laws.specs.Numbers.{most_stored, most_values}
use Rattle.agg_laws.specs.Rows.{kinds_of, merged_rows, row_weight, RowFits, RowStored}
use Rattle.agg_laws.specs.laws.Rows as rows
use Rattle.state_columns.specs.Docs.{Doc, doc_at, HaveShape, AreStored}
use Rattle.state_columns.specs.Columns.{Column, kinds_in, row_at, row_replaced, AreColumns}
use Rattle.state_columns.specs.Region.{doc_in, docs_from, docs_in, IsRegion}
use Rattle.state_columns.proofs.RowPlaces.{length-kinds_of}
use Rattle.state_columns.proofs.RegionLemmas.{doc_is, same_from, length-docs_in}
use Rattle.state_columns.proofs.RegionSteps.{shape_at, stored_at, row_other, row_own}
use Rattle.state_columns.proofs.RegionSteps.{kinds_replaced, columns_replaced, kinds_merged}
use Rattle.state_columns.proofs.RegionSteps.{merged_fits}

shape_set : (k : ℕ) (ks : List AggKind) (docs : List Doc) (p : ℕ) (e : Doc) → HaveShape k ks docs
    → length e.0 ≡ k → kinds_of e.1 ≡ ks → HaveShape k ks (set docs p e)
shape_set k ks [] p e h a b = tt
shape_set k ks (d ∷ ds) zero e h a b = (a, b, h.2)
shape_set k ks (d ∷ ds) (suc p) e h a b = (h.0, h.1, shape_set k ks ds p e h.2 a b)

stored_set : (docs : List Doc) (p : ℕ) (e : Doc) → AreStored docs → RowStored e.1
    → AreStored (set docs p e)
stored_set [] p e h s = tt
stored_set (d ∷ ds) zero e h s = (s, h.1)
stored_set (d ∷ ds) (suc p) e h s = (h.0, stored_set ds p e h.1 s)

module _ (k : ℕ) (ids : List ℕ) (cs : List Column) (vs : List AggState) (p : ℕ) where
  other : (i : ℕ) → i ≢ p → doc_in k ids (row_replaced p cs vs) i ≡ doc_in k ids cs i
  other i apart = λ l. (take k (drop (i * k) ids), row_other p cs vs i apart l)

  after : (i m : ℕ) → p < i → docs_from i m k ids (row_replaced p cs vs) ≡ docs_from i m k ids cs
  after i m lt = same_from i i m k ids ids (row_replaced p cs vs) cs (λ j _. other (i + j)
      (λ e. let f : i + j ≡ p = e in absurd (omega (arith, f, lt))))

  placed : (i j m : ℕ) → i + j ≡ p → j < m → row_at (row_replaced p cs vs) p ≡ vs
      → docs_from i m k ids (row_replaced p cs vs)
      ≡ set (docs_from i m k ids cs) j (take k (drop (p * k) ids), vs)
  placed i j zero e lt own = absurd (omega (arith, lt))
  placed i zero (suc m) e lt own =
      let here : i ≡ p = omega (arith, e) in
      λ l. ((take k (drop (here l * k) ids), (ap (row_at (row_replaced p cs vs)) here ∙ own) l)
      ∷ after (suc i) m (omega (arith, e)) l)
  placed i (suc j) (suc m) e lt own =
      λ l. (other i (λ e'. let f : i ≡ p = e' in absurd (omega (arith, f, e))) l
      ∷ placed (suc i) j m (omega (arith, e)) (omega (arith, lt)) own l)

-- states are merged into those of a document, with which they are light
module _ (n k : ℕ) (ks : List AggKind) (ids : List ℕ) (cs : List Column) (spare a : ℕ)
    (r : IsRegion n k ks ids cs spare a) (p : ℕ) (lt : p < n) (zs : List AggState)
    (kz : kinds_of zs ≡ ks) (sz : RowStored zs)
    (at_most : row_weight (doc_at (docs_in n k ids cs) p).1 + row_weight zs ≤ most_stored) where
  docs : List Doc
  docs = docs_in n k ids cs

  own : Doc
  own = doc_at (docs_in n k ids cs) p

  in' : p < length (docs_in n k ids cs)
  in' = omega (arith, length-docs_in n k ids cs, lt)

  at : doc_at (docs_in n k ids cs) p ≡ doc_in k ids cs p
  at = doc_is n k ids cs p lt

  shape : (length (doc_at (docs_in n k ids cs) p).0 ≡ k)
      × (kinds_of (doc_at (docs_in n k ids cs) p).1 ≡ ks)
  shape = shape_at k ks (docs_in n k ids cs) p r.shape in'

  stored : RowStored (doc_at (docs_in n k ids cs) p).1
  stored = stored_at (docs_in n k ids cs) p r.stored in'

  abbrev pub ys : List AggState
  ys = merged_rows (row_at cs p) zs

  rows_same : (doc_at (docs_in n k ids cs) p).1 ≡ row_at cs p
  rows_same = ap (λ (e : Doc). e.1) at

  pub they_fit : RowFits (merged_rows (row_at cs p) zs) most_values
  they_fit = subst (λ (v : List AggState). RowFits (merged_rows v zs) most_values) rows_same
      (merged_fits (doc_at (docs_in n k ids cs) p).1 zs stored sz at_most)

  kinds' : kinds_of (merged_rows (row_at cs p) zs) ≡ ks
  kinds' = subst (λ (v : List AggState). kinds_of (merged_rows v zs) ≡ ks) rows_same
      (kinds_merged (doc_at (docs_in n k ids cs) p).1 zs (shape.1 ∙ sym kz) ∙ shape.1)

  stored' : RowStored (merged_rows (row_at cs p) zs)
  stored' = subst (λ (v : List AggState). RowStored (merged_rows v zs)) rows_same
      (rows.row_stored_both (doc_at (docs_in n k ids cs) p).1 zs stored sz at_most)

  lengths' : length (merged_rows (row_at cs p) zs) ≡ length cs
  lengths' = sym (length-kinds_of (merged_rows (row_at cs p) zs)) ∙ ap length (kinds' ∙ sym r.kinds_are)
      ∙ length-map cs (λ c. c.kind)

  module _ (cs' : List Column) (js : cs' ≡ row_replaced p cs (merged_rows (row_at cs p) zs)) where
    there : docs_in n k ids cs'
        ≡ set (docs_in n k ids cs) p (take k (drop (p * k) ids), merged_rows (row_at cs p) zs)
    there = ap (docs_in n k ids) js
        ∙ placed k ids cs (merged_rows (row_at cs p) zs) p 0 p n (omega arith) lt
        (row_own n spare p cs (merged_rows (row_at cs p) zs) r.columns_are lt lengths')

    pub placed_docs : docs_in n k ids cs' ≡ set (docs_in n k ids cs) p
        ((doc_at (docs_in n k ids cs) p).0, merged_rows (doc_at (docs_in n k ids cs) p).1 zs)
    placed_docs = there
        ∙ (λ l. set (docs_in n k ids cs) p ((sym at l).0, merged_rows (sym at l).1 zs))

    pub placed_region : IsRegion n k ks ids cs' spare a
    placed_region = record {
      ids_are = r.ids_are;
      kinds_are = ap kinds_in js ∙ kinds_replaced p cs (merged_rows (row_at cs p) zs) ∙ r.kinds_are;
      columns_are = subst (AreColumns n spare) (sym js)
          (columns_replaced n spare p cs (merged_rows (row_at cs p) zs) r.columns_are);
      few_kinds = r.few_kinds;
      at_most = r.at_most;
      shape = subst (HaveShape k ks) (sym there)
          (shape_set k ks (docs_in n k ids cs) p _ r.shape
          (ap (λ (e : Doc). length e.0) (sym at) ∙ shape.0) kinds');
      stored = subst AreStored (sym there)
          (stored_set (docs_in n k ids cs) p _ r.stored stored');
      ids_fit = r.ids_fit;
    }
