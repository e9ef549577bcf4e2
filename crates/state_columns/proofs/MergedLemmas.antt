-- What `Merged` is: strictly ascending, and at each test of keys the total of the list.
use Rattle.std.proofs.Common.{◌≡◌, ℕ, zero, suc, ◌<◌, length, get_or, set, Bool, true, false, cond}
use Rattle.std.proofs.Common.{◌&&◌, T, List, [], ◌∷◌, ◌++◌, Option, Some, None, refl, sym, ap}
use Rattle.std.proofs.Common.{subst, ◌∙◌, arith}
use Rattle.std.specs.List.{filter, swap}
use Rattle.std.specs.List.Sorted.{IsPermutation}
use Rattle.std.proofs.lemmas.List.Sorted.{IsPermutation-keeps}
use Rattle.std.specs.declared.cmp.Ordering.{Ordering}
use Rattle.std.specs.declared.cmp.Ordering.TheVariants.{Less, Equal, Greater}
use Rattle.std.specs.Ordering.{eq_by_cmp, is_lt, is_eq}
use Rattle.std.specs.Cmp.{IsTotalOrder}
use Rattle.std.specs.FinMap.{IsAntisymmetric, is_sorted, find, put}
use Rattle.std.specs.FinMap.Entries.{by_order, below_all, is_sorted-put, is_sorted-where_key}
use Rattle.std.specs.FinMap.Entries.{same_entries}
use Rattle.agg_laws.specs.Merged.{IsJoin, join_some, part, total, rekey, add, Merged}

first : (a b : Bool) → T (a && b) → T a
first true b p = tt
first false b p = p

second : (a b : Bool) → T (a && b) → T b
second true b p = p
second false b p = absurd p

less : (o : Ordering) → T (is_lt o) → o ≡ Less
less Less p = refl
less Equal p = absurd p
less Greater p = absurd p

equal : (o : Ordering) → is_eq o ≡ true → o ≡ Equal
equal Less p = cc
equal Equal p = refl
equal Greater p = cc

-- The join of states that may be absent
module _ {S : Type 0} (join : S → S → S) (j : IsJoin join) where
  pub join_none : (a : Option S) → join_some join a None ≡ a
  join_none None = refl
  join_none (Some s) = refl

  pub join_assoc : (a b c : Option S) → join_some join (join_some join a b) c
      ≡ join_some join a (join_some join b c)
  join_assoc None b c = refl
  join_assoc (Some s) None c = refl
  join_assoc (Some s) (Some t) None = refl
  join_assoc (Some s) (Some t) (Some u) = ap Some (j.assoc s t u)

  pub join_comm : (a b : Option S) → join_some join a b ≡ join_some join b a
  join_comm None b = sym (join_none b)
  join_comm (Some s) None = refl
  join_comm (Some s) (Some t) = ap Some (j.comm s t)

  pub join_swap : (a b c : Option S) → join_some join a (join_some join b c)
      ≡ join_some join b (join_some join a c)
  join_swap a b c = sym (join_assoc a b c) ∙ ap (λ x. join_some join x c) (join_comm a b)
      ∙ join_assoc b a c

  split : (b : Bool) (s t : S) (c : Option S) → join_some join (cond b (Some (join s t)) None) c
      ≡ join_some join (cond b (Some s) None) (join_some join (cond b (Some t) None) c)
  split true s t c = join_assoc (Some s) (Some t) c
  split false s t c = refl

  module _ {K : Type 0} where
    pub total-append : (p : K → Bool) (xs ys : List (K × S)) → total join p (xs ++ ys)
        ≡ join_some join (total join p xs) (total join p ys)
    total-append p [] ys = refl
    total-append p (e ∷ es) ys = ap (join_some join (part p e)) (total-append p es ys)
        ∙ sym (join_assoc (part p e) (total join p es) (total join p ys))

    moved_to : (p : K → Bool) (e : K × S) (es : List (K × S)) (i : ℕ) (d : K × S) → i < length es
        → join_some join (part p (get_or es i d)) (total join p (set es i e))
        ≡ join_some join (part p e) (total join p es)
    moved_to p e [] i d h = absurd (omega arith)
    moved_to p e (f ∷ fs) zero d h = join_swap (part p f) (part p e) (total join p fs)
    moved_to p e (f ∷ fs) (suc i) d h =
        join_swap (part p (get_or fs i d)) (part p f) (total join p (set fs i e))
        ∙ ap (join_some join (part p f)) (moved_to p e fs i d (omega arith))
        ∙ join_swap (part p f) (part p e) (total join p fs)

    total_swap : (p : K → Bool) (es : List (K × S)) (i k : ℕ) (d : K × S) → i < length es
        → k < length es → total join p (set (set es i (get_or es k d)) k (get_or es i d))
        ≡ total join p es
    total_swap p [] i k d h l = absurd (omega arith)
    total_swap p (e ∷ es) zero zero d h l = refl
    total_swap p (e ∷ es) zero (suc k) d h l = moved_to p e es k d (omega arith)
    total_swap p (e ∷ es) (suc i) zero d h l = moved_to p e es i d (omega arith)
    total_swap p (e ∷ es) (suc i) (suc k) d h l =
        ap (join_some join (part p e)) (total_swap p es i k d (omega arith) (omega arith))

    swapped : (p : K → Bool) (es : List (K × S)) (i k : ℕ) → i < length es → k < length es
        → total join p (swap es i k) ≡ total join p es
    swapped p [] i k h l = absurd (omega arith)
    swapped p (e ∷ es) i k h l = total_swap p (e ∷ es) i k e h l

    -- the order of a list does not matter
    pub total-permutation : (p : K → Bool) (xs ys : List (K × S)) → IsPermutation xs ys
        → total join p ys ≡ total join p xs
    total-permutation p xs ys h =
        IsPermutation-keeps xs (λ l. total join p l ≡ total join p xs) refl
        (λ l i k a b is. swapped p l i k a b ∙ is) ys h

    -- tests that agree give the same total
    pub total_agree : (p q : K → Bool) → ((k : K) → p k ≡ q k) → (es : List (K × S))
        → total join p es ≡ total join q es
    total_agree p q is [] = refl
    total_agree p q is (e ∷ es) =
        λ i. join_some join (cond (is e.0 i) (Some e.1) None) (total_agree p q is es i)

    passing : (b : Bool) (q : K → Bool) (p : K → Bool) (e : K × S) (es : List (K × S)) → q e.0 ≡ b
        → total join p (filter (λ x. q x.0) es) ≡ total join (λ k. q k && p k) es
        → total join p (cond b (e ∷ filter (λ x. q x.0) es) (filter (λ x. q x.0) es))
        ≡ join_some join (cond (b && p e.0) (Some e.1) None) (total join (λ k. q k && p k) es)
    passing true q p e es is more = ap (join_some join (part p e)) more
    passing false q p e es is more = more

    -- a total of the entries whose keys pass a test
    pub total-filter : (p q : K → Bool) (es : List (K × S)) → total join p (filter (λ x. q x.0) es)
        ≡ total join (λ k. q k && p k) es
    total-filter p q [] = refl
    total-filter p q (e ∷ es) = passing (q e.0) q p e es refl (total-filter p q es)

    module _ {J : Type 0} where
      -- a total under new keys
      pub total-rekey : (f : K → J) (p : J → Bool) (es : List (K × S)) → total join p (rekey f es)
          ≡ total join (λ k. p (f k)) es
      total-rekey f p [] = refl
      total-rekey f p (e ∷ es) = ap (join_some join (part p (f e.0, e.1))) (total-rekey f p es)

-- `Merged` under an order whose ties are equal keys
module _ {K S : Type 0} (R : K → K → Ordering) (o : IsTotalOrder R) (same : IsAntisymmetric R)
    (join : S → S → S) (j : IsJoin join) where
  total-add : (p : K → Bool) (k : K) (s : S) (es : List (K × S)) → total join p (add R join k s es)
      ≡ join_some join (part p (k, s)) (total join p es)
  total-add p k s [] = refl
  total-add p k s (e ∷ es) =
      elim (R k e.0) as (λ r. R k e.0 ≡ r
      → total join p (by_order r ((k, s) ∷ e ∷ es) ((e.0, join s e.1) ∷ es)
      (e ∷ add R join k s es)) ≡ join_some join (part p (k, s)) (total join p (e ∷ es))) [
        | Less ↦ λ _. refl
        | Equal ↦ λ t. split join j (p e.0) s e.1 (total join p es)
            ∙ ap (λ x. join_some join (part p (x, s)) (total join p (e ∷ es))) (sym (same k e.0 t))
        | Greater ↦ λ _. ap (join_some join (part p e)) (total-add p k s es)
            ∙ join_swap join j (part p e) (part p (k, s)) (total join p es)
      ] refl

  -- merging keeps every total
  pub total-Merged : (p : K → Bool) (es : List (K × S)) → total join p (Merged R join es)
      ≡ total join p es
  total-Merged p [] = refl
  total-Merged p (e ∷ es) = total-add p e.0 e.1 (Merged R join es)
      ∙ ap (join_some join (part p e)) (total-Merged p es)

  -- as far as the order goes, `add` puts some state at the key
  add_puts : (k : K) (s : S) (es : List (K × S)) → (v : S) × (add R join k s es ≡ put R k v es)
  add_puts k s [] = (s, refl)
  add_puts k s (e ∷ es) =
      elim (R k e.0) as (λ r. (v : S)
      × (by_order r ((k, s) ∷ e ∷ es) ((e.0, join s e.1) ∷ es) (e ∷ add R join k s es)
      ≡ by_order r ((k, v) ∷ e ∷ es) ((e.0, v) ∷ es) (e ∷ put R k v es))) [
        | Less ↦ (s, refl)
        | Equal ↦ (join s e.1, refl)
        | Greater ↦ let more = add_puts k s es in (more.0, ap (λ x. e ∷ x) more.1)
      ]

  pub is_sorted-Merged : (es : List (K × S)) → T (is_sorted R (Merged R join es))
  is_sorted-Merged [] = tt
  is_sorted-Merged (e ∷ es) =
      let puts = add_puts e.0 e.1 (Merged R join es) in
      subst (λ x. T (is_sorted R x)) (sym puts.1)
      (is_sorted-put R o e.0 puts.0 (Merged R join es) (is_sorted-Merged es))

  total_below : (q : K) (es : List (K × S)) → T (below_all R q es) → total join (eq_by_cmp R q) es
      ≡ None
  total_below q [] h = refl
  total_below q (e ∷ es) h =
      ap (λ r. join_some join (cond (is_eq r) (Some e.1) None) (total join (eq_by_cmp R q) es))
      (less (R q e.0) (first _ _ h)) ∙ total_below q es (second _ _ h)

  -- in a strictly ascending list, the total at a key is the state of its one entry
  pub find_total : (q : K) (es : List (K × S)) → T (is_sorted R es) → find R q es
      ≡ total join (eq_by_cmp R q) es
  find_total q [] h = refl
  find_total q (e ∷ es) h =
      elim (eq_by_cmp R q e.0) as
      (λ b. eq_by_cmp R q e.0 ≡ b → cond b (Some e.1) (find R q es)
      ≡ join_some join (cond b (Some e.1) None) (total join (eq_by_cmp R q) es)) [
        | true ↦ λ t. let is = same q e.0 (equal _ t) in
            sym (ap (join_some join (Some e.1))
            (ap (λ x. total join (eq_by_cmp R x) es) is ∙ total_below e.0 es (first _ _ h)))
        | false ↦ λ _. find_total q es (second _ _ h)
      ] refl

  -- the one strictly ascending list with these totals is the merged list
  pub Merged_only : (m es : List (K × S)) → T (is_sorted R m)
      → ((q : K) → total join (eq_by_cmp R q) m ≡ total join (eq_by_cmp R q) es) → m
      ≡ Merged R join es
  Merged_only m es up is = same_entries R o same m (Merged R join es) up (is_sorted-Merged es)
      (λ q. find_total q m up ∙ is q ∙ sym (total-Merged (eq_by_cmp R q) es)
      ∙ sym (find_total q (Merged R join es) (is_sorted-Merged es)))

  -- lists with the same totals are merged alike
  pub Merged_same : (xs ys : List (K × S))
      → ((q : K) → total join (eq_by_cmp R q) xs ≡ total join (eq_by_cmp R q) ys) → Merged R join xs
      ≡ Merged R join ys
  Merged_same xs ys is =
      Merged_only (Merged R join xs) ys (is_sorted-Merged xs)
      (λ q. total-Merged (eq_by_cmp R q) xs ∙ is q)

  pub Merged-sorted : (es : List (K × S)) → T (is_sorted R es) → Merged R join es ≡ es
  Merged-sorted es up = sym (Merged_only es es up (λ q. refl))

  -- a sub-range by key
  pub filter-Merged : (p : K → Bool) (es : List (K × S)) → filter (λ x. p x.0) (Merged R join es)
      ≡ Merged R join (filter (λ x. p x.0) es)
  filter-Merged p es = Merged_only (filter (λ x. p x.0) (Merged R join es)) (filter (λ x. p x.0) es)
      (is_sorted-where_key R p (Merged R join es) (is_sorted-Merged es))
      (λ q. total-filter join j (eq_by_cmp R q) p (Merged R join es)
      ∙ total-Merged (λ k. p k && eq_by_cmp R q k) es
      ∙ sym (total-filter join j (eq_by_cmp R q) p es))

  pub Merged-append : (xs ys : List (K × S)) → Merged R join (Merged R join xs ++ ys)
      ≡ Merged R join (xs ++ ys)
  Merged-append xs ys = Merged_same (Merged R join xs ++ ys) (xs ++ ys) (λ q.
      total-append join j (eq_by_cmp R q) (Merged R join xs) ys
      ∙ ap (λ x. join_some join x (total join (eq_by_cmp R q) ys))
      (total-Merged (eq_by_cmp R q) xs) ∙ sym (total-append join j (eq_by_cmp R q) xs ys))

  pub Merged-permutation : (xs ys : List (K × S)) → IsPermutation xs ys → Merged R join ys
      ≡ Merged R join xs
  Merged-permutation xs ys h =
      Merged_same ys xs (λ q. total-permutation join j (eq_by_cmp R q) xs ys h)

  -- one more entry
  pub Merged_push : (es : List (K × S)) (k : K) (s : S) → add R join k s (Merged R join es)
      ≡ Merged R join (es ++ ((k, s) ∷ []))
  Merged_push es k s = Merged_same ((k, s) ∷ es) (es ++ ((k, s) ∷ [])) (λ q.
      join_comm join j (part (eq_by_cmp R q) (k, s)) (total join (eq_by_cmp R q) es)
      ∙ ap (join_some join (total join (eq_by_cmp R q) es))
      (sym (join_none join j (part (eq_by_cmp R q) (k, s))))
      ∙ sym (total-append join j (eq_by_cmp R q) es ((k, s) ∷ [])))

-- new keys of merged entries: merge before or after
module _ {K J S : Type 0} (R : K → K → Ordering) (o : IsTotalOrder R) (same : IsAntisymmetric R)
    (Q : J → J → Ordering) (oQ : IsTotalOrder Q) (sameQ : IsAntisymmetric Q) (join : S → S → S)
    (j : IsJoin join) where
  pub Merged-rekey : (f : K → J) (es : List (K × S)) → Merged Q join (rekey f (Merged R join es))
      ≡ Merged Q join (rekey f es)
  Merged-rekey f es = Merged_same Q oQ sameQ join j (rekey f (Merged R join es)) (rekey f es) (λ q.
      total-rekey join j f (eq_by_cmp Q q) (Merged R join es)
      ∙ total-Merged R o same join j (λ k. eq_by_cmp Q q (f k)) es
      ∙ sym (total-rekey join j f (eq_by_cmp Q q) es))
