-- Rows of columns, one by one.
use Rattle.std.proofs.Common.{◌≡◌, ℕ, zero, suc, ◌+◌, ◌<◌, ◌≤◌, List, [], ◌∷◌, ◌++◌, map, length}
use Rattle.std.proofs.Common.{take, get_or, slice_get, Some, All, refl, sym, ap, ◌∙◌, arith, ℤ}
use Rattle.std.proofs.Common.{length-append, pos, Option}
use Rattle.std.proofs.lemmas.List.{map-append}
use Rattle.std.proofs.Math.Seq.{take-suc}
use Rattle.agg_laws.specs.declared.aggregate_kind.AggKind.{AggKind}
use Rattle.agg_laws.specs.Rows.{row_of, row_weight}
use Rattle.agg_laws.specs.Merged.{weights}
use Rattle.state_columns.specs.Docs.{Doc, projected}
use Rattle.state_columns.proofs.WeightLemmas.{weights-append}
use Rattle.star_rows.specs.Columns.{row_count, row_at, rows_of}

got : {X : Type 0} (xs : List X) (i : ℕ) (d : X) → i < length xs → slice_get xs i
    ≡ Some (get_or xs i d)
got [] i d lt = absurd (omega arith)
got (x ∷ xs) zero d lt = refl
got (x ∷ xs) (suc i) d lt = got xs i d (omega arith)

-- what one more column has
pub more_items : {X : Type 0} (row i : ℕ) (columns : List (List X)) (items : List X) (x : X)
    (d : X) (c : List X) → c ≡ get_or columns i [] → i < length columns → row < length c
    → x ≡ get_or c row d → map Some items ≡ map (λ c. slice_get c row) (take i columns)
    → map Some (items ++ (x ∷ [])) ≡ map (λ c. slice_get c row) (take (suc i) columns)
more_items row i columns items x d c is lt in' same h =
    map-append Some items (x ∷ [])
    ∙ (λ j. h j ++ (((ap Some same ∙ sym (got c row d in')
    ∙ ap (λ (c : List _). slice_get c row) is) j) ∷ []))
    ∙ sym (map-append (λ c. slice_get c row) (take i columns) (get_or columns i [] ∷ []))
    ∙ ap (map (λ c. slice_get c row)) (sym (take-suc columns i [] lt))

-- a row that was read is the row
pub is_row : {X : Type 0} (d : X) (row : ℕ) (columns : List (List X)) (items : List X)
    → map Some items ≡ map (λ c. slice_get c row) columns → All (λ c. row < length c) columns
    → items ≡ row_at d row columns
is_row d row [] [] h all = refl
is_row d row [] (x ∷ xs) h all = cc
is_row d row (c ∷ cs) [] h all = cc
is_row d row (c ∷ cs) (x ∷ xs) h all =
    λ i. first x (get_or c row d) (map Some xs) (map (λ c. slice_get c row) cs)
    (h ∙ ap (λ o. o ∷ map (λ c. slice_get c row) cs) (got c row d (all 0 [] (omega arith)))) i
    ∷ is_row d row cs xs
    (others (Some x) (slice_get c row) (map Some xs) (map (λ c. slice_get c row) cs) h)
    (λ k e lt. all (suc k) e (omega (arith, lt))) i
  where
    first : {X : Type 0} (x y : X) (os ps : List (Option X)) → Some x ∷ os ≡ Some y ∷ ps → x ≡ y
    first x y os ps e = cc

    others : {X : Type 0} (o p : Option X) (os ps : List (Option X)) → o ∷ os ≡ p ∷ ps → os ≡ ps
    others o p os ps e = cc

-- one more row
pub projected_more : (ks : List AggKind) (rows : List (List ℕ × List ℤ)) (row : List ℕ × List ℤ)
    → projected ks (rows ++ (row ∷ [])) ≡ projected ks rows ++ ((row.0, row_of ks (row.1 ∷ [])) ∷ [])
projected_more ks [] row = refl
projected_more ks (r ∷ rs) row =
    ap (λ t. (r.0, row_of ks (r.1 ∷ [])) ∷ t) (projected_more ks rs row)

module _ (old new : List Doc) (e : Doc) (is : new ≡ old ++ (e ∷ [])) where
  pub one_longer : length new ≡ length old + 1
  one_longer = ap length is ∙ length-append old (e ∷ [])

  pub one_heavier : row_weight e.1 ≤ 1 → weights row_weight new ≤ weights row_weight old + 1
  one_heavier le = let a = ap (weights row_weight) is ∙ weights-append row_weight old (e ∷ []) in
      omega (arith, a, le)

-- how many rows there are
pub count_is : {X : Type 0} (columns : List (List X)) (c : List X) → 0 < length columns
    → c ≡ get_or columns 0 c → length c ≡ row_count columns
count_is [] c lt is = absurd (omega arith)
count_is (d ∷ ds) c lt is = ap length is

-- a row that is there is in each column
pub in_all : {X : Type 0} (n row : ℕ) (columns : List (List X)) → row < n
    → All (λ c. length c ≡ n) columns → All (λ c. row < length c) columns
in_all n row columns lt all k d in' = let e = all k d in' in omega (arith, e, lt)

pub rows_more : (row : ℕ) (dims : List (List ℕ)) (metrics : List (List ℤ)) (ks ls : List AggKind)
    (ids : List ℕ) (values : List ℤ) → ls ≡ ks → ids ≡ row_at 0 row dims
    → values ≡ row_at (pos 0) row metrics
    → projected ks (rows_of row dims metrics) ++ ((ids, row_of ls (values ∷ [])) ∷ [])
    ≡ projected ks (rows_of (row + 1) dims metrics)
rows_more row dims metrics ks ls ids values same is are =
    let n : suc row ≡ row + 1 = omega arith in
    (λ i. projected ks (rows_of row dims metrics) ++ ((is i, row_of (same i) (are i ∷ [])) ∷ []))
    ∙ sym (projected_more ks (rows_of row dims metrics) (row_at 0 row dims, row_at (pos 0) row metrics))
    ∙ ap (λ m. projected ks (rows_of m dims metrics)) n
