-- One more row at the end of merged rows.
use Rattle.std.proofs.Common.{◌≡◌, ◌≢◌, ℕ, suc, ◌+◌, ◌-◌, ◌<◌, Bool, true, false, cond, ◌&&◌, List}
use Rattle.std.proofs.Common.{[], ◌∷◌, ◌++◌, length, Option, Some, None, refl, sym, ap, subst, ◌∙◌}
use Rattle.std.proofs.Common.{arith, get_or, set, length-append}
use Rattle.std.specs.declared.cmp.Ordering.{Ordering}
use Rattle.std.specs.declared.cmp.Ordering.TheVariants.{Less, Equal, Greater}
use Rattle.std.specs.Ordering.{is_lt, is_gt, ordering_reverse}
use Rattle.std.specs.Cmp.{IsTotalOrder}
use Rattle.std.specs.FinMap.{IsAntisymmetric, is_sorted}
use Rattle.std.specs.FinMap.Entries.{by_order, below_all}
use Rattle.std.proofs.lemmas.Cmp.{tied_itself}
use Rattle.std.proofs.lemmas.List.{get_or_default, get_or_at, get_or_append_left}
use Rattle.std.proofs.lemmas.List.Sorted.{sorted_far, ranks_by}
use Rattle.std.specs.List.Sorted.{IsSortedBy}
use Rattle.agg_laws.specs.Merged.{IsJoin, join_some, total, add}

first : (a b : Bool) → (a && b) ≡ true → a ≡ true
first true b p = refl
first false b p = p

second : (a b : Bool) → (a && b) ≡ true → b ≡ true
second true b p = p
second false b p = cc

less : (o : Ordering) → is_lt o ≡ true → o ≡ Less
less Less p = refl
less Equal p = cc
less Greater p = cc

below : (o : Ordering) → is_gt o ≡ false → o ≢ Equal → o ≡ Less
below Less p q = refl
below Equal p q = absurd (q refl)
below Greater p q = cc

-- two reads of one place
pub same_read : {X : Type 0} (xs : List X) (i : ℕ) (l m : X) → i < length xs → l ≡ get_or xs i l → m
    ≡ get_or xs i m → l ≡ m
same_read xs i l m h p q = p ∙ get_or_default xs i l m h ∙ sym q

turned : (o : Ordering) → is_lt o ≡ false → is_gt (ordering_reverse o) ≡ false
turned Less h = cc
turned Equal h = refl
turned Greater h = refl

module _ {K S : Type 0} (R : K → K → Ordering) (o : IsTotalOrder R) (same : IsAntisymmetric R)
    (join : S → S → S) (j : IsJoin join) where
  greater : (x y : K) → R x y ≡ Less → R y x ≡ Greater
  greater x y h = o.antisymm y x ∙ ap ordering_reverse h

  passes : (p : K → Bool) (b : Bool) (s : S) (t : Option S)
      → join_some join (cond b (Some s) None) t ≡ None → (b ≡ false) × (t ≡ None)
  passes p true s None h = cc
  passes p true s (Some t) h = cc
  passes p false s t h = (refl, h)

  -- the last of e ∷ es, whose place is length es
  last_low : (p : K → Bool) (e : K × S) (es : List (K × S)) (d : K × S) → total join p (e ∷ es)
      ≡ None → p (get_or (e ∷ es) (length es) d).0 ≡ false
  last_low p e [] d h = (passes p (p e.0) e.1 None h).0
  last_low p e (f ∷ fs) d h = last_low p f fs d (passes p (p e.0) e.1 (total join p (f ∷ fs)) h).1

  last_above : (x : K) (e : K × S) (es : List (K × S)) (d : K × S) → below_all R x (e ∷ es) ≡ true
      → R x (get_or (e ∷ es) (length es) d).0 ≡ Less
  last_above x e [] d h = less _ (first _ _ h)
  last_above x e (f ∷ fs) d h = last_above x f fs d (second _ _ h)

  put_equal : (k : K) (s : S) (e : K × S) (es : List (K × S)) (d : K × S) → is_sorted R (e ∷ es)
      ≡ true → (get_or (e ∷ es) (length es) d).0 ≡ k
      → set (e ∷ es) (length es) (k, join (get_or (e ∷ es) (length es) d).1 s)
      ≡ add R join k s (e ∷ es)
  put_equal k s e [] d up is =
      (λ i. (sym is i, j.comm e.1 s i) ∷ [])
      ∙ ap (λ r. by_order r ((k, s) ∷ e ∷ []) ((e.0, join s e.1) ∷ []) (e ∷ (k, s) ∷ []))
      (sym (ap (λ x. R k x) is ∙ tied_itself o k))
  put_equal k s e (f ∷ fs) d up is =
      ap (λ t. e ∷ t) (put_equal k s f fs d (second _ _ up) is)
      ∙ ap (λ r. by_order r ((k, s) ∷ e ∷ f ∷ fs) ((e.0, join s e.1) ∷ f ∷ fs)
      (e ∷ add R join k s (f ∷ fs)))
      (sym (greater e.0 k (subst (λ x. R e.0 x ≡ Less) is (last_above e.0 f fs d (first _ _ up)))))

  put_after : (k : K) (s : S) (e : K × S) (es : List (K × S)) (d : K × S) → is_sorted R (e ∷ es)
      ≡ true → R (get_or (e ∷ es) (length es) d).0 k ≡ Less
      → (e ∷ es) ++ ((k, s) ∷ []) ≡ add R join k s (e ∷ es)
  put_after k s e [] d up is =
      ap (λ r. by_order r ((k, s) ∷ e ∷ []) ((e.0, join s e.1) ∷ []) (e ∷ (k, s) ∷ []))
      (sym (greater e.0 k is))
  put_after k s e (f ∷ fs) d up is =
      ap (λ t. e ∷ t) (put_after k s f fs d (second _ _ up) is)
      ∙ ap (λ r. by_order r ((k, s) ∷ e ∷ f ∷ fs) ((e.0, join s e.1) ∷ f ∷ fs)
      (e ∷ add R join k s (f ∷ fs)))
      (sym (greater e.0 k (o.trans e.0 (get_or (f ∷ fs) (length fs) d).0 k
      (last_above e.0 f fs d (first _ _ up)) is)))

  -- the last row has the new one's combination
  pub put_at_last : (k : K) (s : S) (es : List (K × S)) (l : K × S) → is_sorted R es ≡ true
      → 0 < length es → l ≡ get_or es (length es - 1) l → R l.0 k ≡ Equal
      → set es (length es - 1) (l.0, join l.1 s) ≡ add R join k s es
  put_at_last k s [] l up some at tie = absurd (omega arith)
  put_at_last k s (e ∷ es) l up some at tie =
      let n : suc (length es) - 1 ≡ length es = omega arith in
      let here : l ≡ get_or (e ∷ es) (length es) l = at ∙ ap (λ i. get_or (e ∷ es) i l) n in
      let key : l.0 ≡ k = same l.0 k tie in
      (λ i. set (e ∷ es) (n i) (key i, join (here i).1 s))
      ∙ put_equal k s e es l up (ap (λ x. x.0) (sym here) ∙ key)

  -- it has not
  pub put_at_end : (k : K) (s : S) (es : List (K × S)) → is_sorted R es ≡ true
      → total join (λ x. is_gt (R x k)) es ≡ None
      → ((l : K × S) → 0 < length es → l ≡ get_or es (length es - 1) l → R l.0 k ≢ Equal) → es
      ++ ((k, s) ∷ []) ≡ add R join k s es
  put_at_end k s [] up low apart = refl
  put_at_end k s (e ∷ es) up low apart =
      let n : suc (length es) - 1 ≡ length es = omega arith in
      let l = get_or (e ∷ es) (length es) e in
      put_after k s e es e up
      (below (R l.0 k) (last_low (λ x. is_gt (R x k)) e es e low)
      (apart l (omega arith)
      (get_or_default (e ∷ es) (length es) e l (omega arith)
      ∙ ap (λ i. get_or (e ∷ es) i l) (sym n))))

  total_none : (p : K → Bool) (es : List (K × S))
      → ((i : ℕ) (d : K × S) → i < length es → p (get_or es i d).0 ≡ false) → total join p es ≡ None
  total_none p [] h = refl
  total_none p (e ∷ es) h =
      ap (λ b. join_some join (cond b (Some e.1) None) (total join p es)) (h 0 e (omega arith))
      ∙ total_none p es (λ i d l. h (suc i) d (omega arith))

  not_above : (x y : K) → is_lt (R x y) ≡ false → is_gt (R y x) ≡ false
  not_above x y h = ap is_gt (o.antisymm y x) ∙ turned (R x y) h

  -- in an ascending list no entry before another is above it
  pub none_above : (done rest : List (K × S)) (e : K × S) (all : List (K × S))
      → IsSortedBy (λ a b. is_lt (R a.0 b.0)) all → all ≡ done ++ (e ∷ rest)
      → total join (λ x. is_gt (R x e.0)) done ≡ None
  none_above done rest e all up is =
      total_none (λ x. is_gt (R x e.0)) done (λ i d h.
      let len : length all ≡ length done + suc (length rest) = ap length is
      ∙ length-append done (e ∷ rest) in
      let here : get_or all (length done) d ≡ e = ap (λ l. get_or l (length done) d) is
      ∙ get_or_at done e rest d (length done) refl in
      let there : get_or all i d ≡ get_or done i d = ap (λ l. get_or l i d) is
      ∙ get_or_append_left done (e ∷ rest) d i h in
      let far : is_lt (R (get_or all (length done) d).0 (get_or all i d).0) ≡ false =
      sorted_far (λ a b. is_lt (R a.0 b.0)) (ranks_by o (λ (x : K × S). x.0)) all up i
      (length done) d (omega arith) (omega (arith, len)) in
      not_above e.0 (get_or done i d).0 ((λ k. is_lt (R (sym here k).0 (sym there k).0)) ∙ far))
