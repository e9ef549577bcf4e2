-- There is an owner that no cursor has, where there are fewer cursors than owners.
use Rattle.std.proofs.Common.{◌≡◌, ◌≢◌, ◌∙◌, ◌+◌, ◌<◌, ◌≤◌, ◌||◌, ℕ, zero, suc, Bool, true, false, cond, nat_eq, List, [], ◌∷◌, length, map, refl, sym, ap, arith}
use Rattle.std.specs.List.{list_any}
use borrow.Author.Tests.{eqb-true}
use Rattle.cursors.specs.declared.cursor.Cursor.{Cursor}

-- whether some cursor has an owner
pub any_owner : (k : ℕ) (ds : List Cursor) → list_any (nat_eq k) (map (λ (d : Cursor). d.owner) ds) ≡ list_any (λ (d : Cursor). nat_eq k d.owner) ds
any_owner k [] = refl
any_owner k (d ∷ ds) = ap (λ b. nat_eq k d.owner || b) (any_owner k ds)

-- numbers without the first that is one
abbrev without : ℕ → List ℕ → List ℕ
without n [] = []
without n (m ∷ ns) = cond (nat_eq n m) ns (m ∷ without n ns)

one_less : (n : ℕ) (ns : List ℕ) → list_any (nat_eq n) ns ≡ true → length ns ≡ suc (length (without n ns))
one_less n [] is = absurd cc
one_less n (m ∷ ns) is = by (nat_eq n m) is (one_less n ns)
  where
    by : (b : Bool) → (b || list_any (nat_eq n) ns) ≡ true → (list_any (nat_eq n) ns ≡ true → length ns ≡ suc (length (without n ns))) → suc (length ns) ≡ suc (length (cond b ns (m ∷ without n ns)))
    by true is more = refl
    by false is more = ap suc (more is)

still_there : (n k : ℕ) (ns : List ℕ) → k ≢ n → list_any (nat_eq k) ns ≡ true → list_any (nat_eq k) (without n ns) ≡ true
still_there n k [] ne is = is
still_there n k (m ∷ ns) ne is = by (nat_eq n m) refl (nat_eq k m) refl is (still_there n k ns ne)
  where
    by : (a : Bool) → nat_eq n m ≡ a → (b : Bool) → nat_eq k m ≡ b → (b || list_any (nat_eq k) ns) ≡ true → (list_any (nat_eq k) ns ≡ true → list_any (nat_eq k) (without n ns) ≡ true)
        → list_any (nat_eq k) (cond a ns (m ∷ without n ns)) ≡ true
    by true s true t is more = absurd (ne (eqb-true k m t ∙ sym (eqb-true n m s)))
    by true s false t is more = is
    by false s true t is more = ap (λ b. b || list_any (nat_eq k) (without n ns)) t
    by false s false t is more = ap (λ b. b || list_any (nat_eq k) (without n ns)) t ∙ more is

-- there are at least as many as are all below one
pub all_below : (n : ℕ) (ns : List ℕ) → ((k : ℕ) → k < n → list_any (nat_eq k) ns ≡ true) → n ≤ length ns
all_below zero ns all = omega arith
all_below (suc n) ns all =
    let less = one_less n ns (all n (omega arith)) in
    let rest = all_below n (without n ns) (λ k lt. still_there n k ns (λ is. omega (arith, lt, is)) (all k (omega (arith, lt)))) in
    omega (arith, less, rest)
