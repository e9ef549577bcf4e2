-- The aggregated document of a node.
use Rattle.std.proofs.Common.{◌≡◌, ℕ, suc, ◌-◌, ◌≤◌, Bool, true, false, cond, ◌&&◌, ◌||◌, ◌==◌}
use Rattle.std.proofs.Common.{if◌then◌else◌, Option, Some, None, List, [], ◌∷◌, ◌++◌, length}
use Rattle.std.proofs.Common.{replicate, refl, sym, ap, ◌∙◌, arith}
use Rattle.std.proofs.lemmas.Bool.{eqb-true}
use Rattle.std.specs.FinMap.Entries.{by_order}
use Rattle.std.proofs.lemmas.Cmp.{nat_list_cmp_total, tied_itself}
use Rattle.agg_laws.specs.Merged.{IsJoin, join_some, total, add, rekey}
use Rattle.agg_laws.specs.Tree.{star, dims_order, merged_docs, agrees, starred, rows_at}
use Rattle.state_columns.specs.Docs.{HaveIds}
use Rattle.state_columns.specs.Documents.{star_from, aggregated, one_document}
use Rattle.state_columns.proofs.MergedLemmas.{Merged-rekey}
use Rattle.state_columns.proofs.ListLemmas.{same_dims}

-- all ids starred
all_star : (xs : List ℕ) → star_from 0 xs ≡ replicate (length xs) star
all_star [] = refl
all_star (x ∷ xs) = ap (λ t. star ∷ t) (all_star xs)

either : (a b c : Bool) → ((a || b) && c) ≡ true → c ≡ true
either true b true h = refl
either false true true h = refl
either false false c h = cc
either true b false h = cc
either false true false h = cc

-- a row that agrees with a path has the path's ids where the path has some
same_id : (p x : ℕ) (c : Bool) → (((p == star) || (x == p)) && c) ≡ true
    → (if p == star then star else x) ≡ p
same_id p x c h =
    elim (p == star) as (λ b. (p == star) ≡ b → ((b || (x == p)) && c) ≡ true → cond b star x ≡ p) [
      | true ↦ λ e _. sym (eqb-true p star e)
      | false ↦ λ e g. eqb-true x p (front (x == p) c g)
    ] refl h
  where
    front : (a b : Bool) → (a && b) ≡ true → a ≡ true
    front true b g = refl
    front false b g = cc

on_path : (path x : List ℕ) → length path ≤ length x → agrees path x ≡ true
    → star_from (length path) (starred path x) ≡ path ++ replicate (length x - length path) star
on_path [] x h on = all_star x ∙ ap (λ n. replicate n star) (none (length x))
  where
    none : (n : ℕ) → n ≡ n - 0
    none n = omega arith
on_path (p ∷ ps) [] h on = absurd (omega arith)
on_path (p ∷ ps) (x ∷ xs) h on =
    (λ i. same_id p x (agrees ps xs) on i
    ∷ on_path ps xs (omega arith) (either (p == star) (x == p) (agrees ps xs) on) i)
    ∙ ap (λ n. p ∷ (ps ++ replicate n star)) (less (length xs) (length ps))
  where
    less : (m n : ℕ) → m - n ≡ suc m - suc n
    less m n = omega arith

module _ {S : Type 0} (join : S → S → S) (j : IsJoin join) where
  -- entries of one key
  abbrev pub AllAt : (List ℕ → List ℕ) → List ℕ → List (List ℕ × S) → Type 0
  AllAt f key [] = Unit {0}
  AllAt f key (e ∷ es) = (f e.0 ≡ key) × AllAt f key es

  put_one : (key : List ℕ) (s : S) (o : Option S) → add dims_order join key s (one_document key o)
      ≡ one_document key (join_some join (Some s) o)
  put_one key s None = refl
  put_one key s (Some u) =
      ap (λ r. by_order r ((key, s) ∷ (key, u) ∷ []) ((key, join s u) ∷ [])
      ((key, u) ∷ (key, s) ∷ [])) (tied_itself nat_list_cmp_total key)

  pub one_key : (f : List ℕ → List ℕ) (key : List ℕ) (es : List (List ℕ × S)) → AllAt f key es
      → merged_docs join (rekey f es) ≡ one_document key (total join (λ _. true) es)
  one_key f key [] h = refl
  one_key f key (e ∷ es) h =
      (λ i. add dims_order join (h.0 i) e.1 (one_key f key es h.1 i))
      ∙ put_one key e.1 (total join (λ _. true) es)

  -- the rows that agree with a path
  all_at : (k : ℕ) (path : List ℕ) (rows : List (List ℕ × S)) → HaveIds k rows → length path ≤ k
      → AllAt (λ x. star_from (length path) (starred path x))
      (path ++ replicate (k - length path) star) (rows_at path rows)
  all_at k path [] ids short = tt
  all_at k path (e ∷ es) ids short =
      let more = all_at k path es ids.1 short in
      elim (agrees path e.0) as
      (λ b. agrees path e.0 ≡ b
      → AllAt (λ x. star_from (length path) (starred path x))
      (path ++ replicate (k - length path) star)
      (cond b (e ∷ rows_at path es) (rows_at path es))) [
        | true ↦ λ on. (
          on_path path e.0 (omega (arith, ids.0, short)) on
              ∙ ap (λ n. path ++ replicate (n - length path) star) ids.0,
          more,
        )
        | false ↦ λ _. more
      ] refl

  twice : (f g : List ℕ → List ℕ) (es : List (List ℕ × S)) → rekey g (rekey f es)
      ≡ rekey (λ x. g (f x)) es
  twice f g [] = refl
  twice f g (e ∷ es) = ap (λ t. (g (f e.0), e.1) ∷ t) (twice f g es)

  pub aggregated_is : (k : ℕ) (rows docs : List (List ℕ × S)) (path : List ℕ) → HaveIds k rows
      → length path ≤ k → docs ≡ merged_docs join (rekey (starred path) (rows_at path rows))
      → aggregated join (length path) docs
      ≡ one_document (path ++ replicate (k - length path) star)
      (total join (λ _. true) (rows_at path rows))
  aggregated_is k rows docs path ids short is =
      let d = length path in
      ap (aggregated join d) is
      ∙ Merged-rekey dims_order nat_list_cmp_total same_dims dims_order nat_list_cmp_total
      same_dims join j (star_from d) (rekey (starred path) (rows_at path rows))
      ∙ ap (merged_docs join) (twice (starred path) (star_from d) (rows_at path rows))
      ∙ one_key (λ x. star_from d (starred path x)) (path ++ replicate (k - d) star)
      (rows_at path rows) (all_at k path rows ids short)
