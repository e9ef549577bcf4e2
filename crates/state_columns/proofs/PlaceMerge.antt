-- One more row merged into an entry that has its key.
use Rattle.std.proofs.Common.{◌≡◌, ℕ, zero, suc, ◌<◌, Bool, true, false, ◌&&◌, List, [], ◌∷◌, length}
use Rattle.std.proofs.Common.{refl, sym, ap, subst, ◌∙◌, arith, get_or, set}
use Rattle.std.specs.declared.cmp.Ordering.{Ordering}
use Rattle.std.specs.declared.cmp.Ordering.TheVariants.{Less, Equal, Greater}
use Rattle.std.specs.Ordering.{is_lt, ordering_reverse}
use Rattle.std.specs.Cmp.{IsTotalOrder}
use Rattle.std.specs.FinMap.{is_sorted}
use Rattle.std.specs.FinMap.Entries.{by_order, below_all}
use Rattle.std.proofs.lemmas.Cmp.{tied_itself}
use Rattle.agg_laws.specs.Merged.{IsJoin, add}

first : (a b : Bool) → (a && b) ≡ true → a ≡ true
first true b p = refl
first false b p = p

second : (a b : Bool) → (a && b) ≡ true → b ≡ true
second true b p = p
second false b p = cc

less : (o : Ordering) → is_lt o ≡ true → o ≡ Less
less Less p = refl
less Equal p = cc
less Greater p = cc

module _ {K S : Type 0} (R : K → K → Ordering) (o : IsTotalOrder R) (join : S → S → S)
    (j : IsJoin join) where
  above : (x : K) (es : List (K × S)) (i : ℕ) (d : K × S) → below_all R x es ≡ true → i < length es
      → R x (get_or es i d).0 ≡ Less
  above x [] i d h lt = absurd (omega arith)
  above x (e ∷ es) zero d h lt = less _ (first _ _ h)
  above x (e ∷ es) (suc i) d h lt = above x es i d (second _ _ h) (omega (arith, lt))

  pub put_at : (k : K) (s : S) (es : List (K × S)) (i : ℕ) (d : K × S) → is_sorted R es ≡ true
      → i < length es → (get_or es i d).0 ≡ k
      → set es i ((get_or es i d).0, join (get_or es i d).1 s) ≡ add R join k s es
  put_at k s [] i d up lt is = absurd (omega arith)
  put_at k s (e ∷ es) zero d up lt is =
      (λ l. (e.0, j.comm e.1 s l) ∷ es)
      ∙ ap (λ r. by_order r ((k, s) ∷ e ∷ es) ((e.0, join s e.1) ∷ es) (e ∷ add R join k s es))
      (sym (ap (λ x. R k x) is ∙ tied_itself o k))
  put_at k s (e ∷ es) (suc i) d up lt is =
      let rise : R e.0 k ≡ Less = subst (λ x. R e.0 x ≡ Less) is
      (above e.0 es i d (first _ _ up) (omega (arith, lt))) in
      ap (λ t. e ∷ t) (put_at k s es i d (second _ _ up) (omega (arith, lt)) is)
      ∙ ap (λ r. by_order r ((k, s) ∷ e ∷ es) ((e.0, join s e.1) ∷ es) (e ∷ add R join k s es))
      (sym (o.antisymm k e.0 ∙ ap ordering_reverse rise))
