-- The lemmas of merged lists and trees, at documents of states.
use Rattle.std.proofs.Common.{◌≡◌, ℕ, ◌+◌, ◌≤◌, Bool, true, false, cond, T, sum, Some, None, List}
use Rattle.std.proofs.Common.{[], ◌∷◌, map, refl, sym, ap, ◌∙◌, arith, ℤ}
use Rattle.std.specs.List.{filter}
use Rattle.std.specs.declared.cmp.Ordering.TheVariants.{Less, Equal, Greater}
use Rattle.std.specs.FinMap.{is_sorted, find}
use Rattle.std.specs.FinMap.Entries.{by_order}
use Rattle.std.specs.Ordering.{eq_by_cmp}
use Rattle.std.proofs.lemmas.List.Sums.{sum_by-cons}
use Rattle.std.proofs.lemmas.Cmp.{nat_list_cmp_total}
use Rattle.agg_laws.specs.declared.aggregate_kind.AggKind.{AggKind}
use Rattle.agg_laws.specs.declared.states.AggState.{AggState}
use Rattle.agg_laws.specs.Numbers.{most_stored}
use Rattle.agg_laws.specs.Rows.{row_of, merged_rows, row_weight, RowStored}
use Rattle.agg_laws.specs.laws.Rows as rows
use Rattle.agg_laws.specs.Merged.{IsJoin, join_some, total, add, weights}
use Rattle.agg_laws.specs.Tree.{dims_order, merged_docs}
use Rattle.state_columns.specs.Docs.{Doc, AreStored, FitShares, projected, states_of}
use Rattle.state_columns.proofs.MergedLemmas.{Merged_only, find_total, is_sorted-Merged}
use Rattle.state_columns.proofs.MergedLemmas.{total-Merged}
use Rattle.state_columns.proofs.WeightLemmas.{weights-Merged}
use Rattle.state_columns.proofs.ListLemmas.{same_dims}

-- rows of states are joined in any grouping and order
pub rows_join : IsJoin merged_rows
rows_join = record { assoc = rows.any_grouping; comm = rows.any_order }

pub ascending : (docs : List Doc) → is_sorted dims_order (merged_docs merged_rows docs) ≡ true
ascending docs = as_true _
    (is_sorted-Merged dims_order nat_list_cmp_total same_dims merged_rows rows_join docs)
  where
    as_true : (b : Bool) → T b → b ≡ true
    as_true true h = refl
    as_true false h = absurd h

pub own_entries : (docs : List Doc) (dims : List ℕ)
    → find dims_order dims (merged_docs merged_rows docs)
    ≡ total merged_rows (eq_by_cmp dims_order dims) docs
own_entries docs dims =
    find_total dims_order nat_list_cmp_total same_dims merged_rows rows_join dims
    (merged_docs merged_rows docs)
    (is_sorted-Merged dims_order nat_list_cmp_total same_dims merged_rows rows_join docs)
    ∙ total-Merged dims_order nat_list_cmp_total same_dims merged_rows rows_join
    (eq_by_cmp dims_order dims) docs

pub only : (some docs : List Doc) → is_sorted dims_order some ≡ true
    → ((dims : List ℕ) → find dims_order dims some
    ≡ total merged_rows (eq_by_cmp dims_order dims) docs) → some ≡ merged_docs merged_rows docs
only some docs up is =
    Merged_only dims_order nat_list_cmp_total same_dims merged_rows rows_join some docs
    (as_test _ up)
    (λ dims. sym (find_total dims_order nat_list_cmp_total same_dims merged_rows rows_join dims some
    (as_test _ up)) ∙ is dims)
  where
    as_test : (b : Bool) → b ≡ true → T b
    as_test true h = tt
    as_test false h = cc

-- rows of numbers, one at a time
one_more : (b : Bool) (ks : List AggKind) (xs : List ℤ) (rest : List (List ℤ))
    → join_some merged_rows (cond b (Some (row_of ks (xs ∷ []))) None) (states_of ks rest)
    ≡ states_of ks (cond b (xs ∷ rest) rest)
one_more true ks xs [] = refl
one_more true ks xs (ys ∷ rest) = ap Some (sym (rows.of_both ks (xs ∷ []) (ys ∷ rest)))
one_more false ks xs rest = refl

kept : (b : Bool) (row : List ℕ × List ℤ) (rest : List (List ℕ × List ℤ))
    → map (λ r. r.1) (cond b (row ∷ rest) rest)
    ≡ cond b (row.1 ∷ map (λ r. r.1) rest) (map (λ r. r.1) rest)
kept true row rest = refl
kept false row rest = refl

pub total-projected : (ks : List AggKind) (p : List ℕ → Bool) (some : List (List ℕ × List ℤ))
    → total merged_rows p (projected ks some)
    ≡ states_of ks (map (λ row. row.1) (filter (λ row. p row.0) some))
total-projected ks p [] = refl
total-projected ks p (row ∷ rest) =
    ap (join_some merged_rows (cond (p row.0) (Some (row_of ks (row.1 ∷ []))) None))
    (total-projected ks p rest)
    ∙ one_more (p row.0) ks row.1 (map (λ r. r.1) (filter (λ r. p r.0) rest))
    ∙ ap (states_of ks) (sym (kept (p row.0) row (filter (λ r. p r.0) rest)))

-- how many values documents stand for
pub weights_least : (docs : List Doc) (shares : List ℕ) → FitShares docs shares
    → weights row_weight docs ≤ sum shares
weights_least [] [] h = omega arith
weights_least [] (n ∷ ns) h = absurd h
weights_least (e ∷ es) [] h = absurd h
weights_least (e ∷ es) (n ∷ ns) h = let own = rows.row_weight_least e.1 n h.0
    in let more = weights_least es ns h.1 in omega (arith, own, more, sum_by-cons (λ x. x) n ns)

pub weights_reached : (docs : List Doc) (shares : List ℕ) → FitShares docs shares
    → FitShares docs (map (λ e. row_weight e.1) docs)
weights_reached [] [] h = tt
weights_reached [] (n ∷ ns) h = absurd h
weights_reached (e ∷ es) [] h = absurd h
weights_reached (e ∷ es) (n ∷ ns) h = (rows.row_fits_weight e.1 n h.0, weights_reached es ns h.1)

-- one more entry
pub stored-add : (dims : List ℕ) (states : List AggState) (docs : List Doc) → RowStored states
    → AreStored docs → row_weight states + weights row_weight docs ≤ most_stored
    → AreStored (add dims_order merged_rows dims states docs)
stored-add dims states [] h k at_most = (h, tt)
stored-add dims states (e ∷ es) h k at_most =
    let both = rows.row_stored_both states e.1 h k.0 (omega (arith, at_most)) in
    let more = stored-add dims states es h k.1 (omega (arith, at_most)) in
    elim (dims_order dims e.0) as
    (λ r. AreStored (by_order r ((dims, states) ∷ e ∷ es) ((e.0, merged_rows states e.1) ∷ es)
    (e ∷ add dims_order merged_rows dims states es))) [
      | Less ↦ (h, k)
      | Equal ↦ (both, k.1)
      | Greater ↦ (k.0, more)
    ]

pub stored-merged : (docs : List Doc) → AreStored docs → weights row_weight docs ≤ most_stored
    → AreStored (merged_docs merged_rows docs)
stored-merged [] h at_most = tt
stored-merged (e ∷ es) h at_most =
    let weight_fits = weights-Merged row_weight dims_order merged_rows rows.row_weight_both es in
    stored-add e.0 e.1 (merged_docs merged_rows es) h.0 (stored-merged es h.1 (omega (arith, at_most)))
    (omega (arith, at_most, weight_fits))
