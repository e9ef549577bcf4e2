-- The keys of some entries that are not among others.
use Rattle.std.proofs.Common.{◌≡◌, ◌∙◌, ℕ, zero, suc, ◌+◌, ◌≤◌, Bool, true, false, cond, List, [], ◌∷◌, ◌++◌, length, drop, Some, refl, sym, ap, arith, slice_get, length-append}
use Rattle.std.specs.Map.{keys_of}
use Rattle.std.specs.List.{AllByRecursion}
use Rattle.values.specs.declared.value.Value.{Value}
use Rattle.state_pool.specs.Pool.{Place}
use Rattle.state_pool.proofs.SlotLemmas.{none_some}
use Rattle.group_table.specs.Pooled.{new_keys, place_at}

-- the keys from that of an entry on
pub drop_keys : {V : Type 0} (es : List (List Value × V)) (i : ℕ) (k : List Value) (v : V) → Some (k, v) ≡ slice_get es i
    → drop i (keys_of es) ≡ k ∷ drop (i + 1) (keys_of es)
drop_keys [] i k v e = absurd (none_some (sym e))
drop_keys (x ∷ es) zero k v e = let is : (k, v) ≡ x = cc in ap (λ y. y.0 ∷ keys_of es) (sym is)
drop_keys (x ∷ es) (suc i) k v e = drop_keys es i k v e ∙ ap (λ n. k ∷ drop n (x.0 ∷ keys_of es)) (let same : suc (i + 1) ≡ suc i + 1 = omega arith in same)

-- the entries from one on
pub drop_next : {X : Type 0} (es : List X) (i : ℕ) (x : X) → Some x ≡ slice_get es i → drop i es ≡ x ∷ drop (i + 1) es
drop_next [] i x e = absurd (none_some (sym e))
drop_next (y ∷ es) zero x e = let is : x ≡ y = cc in ap (λ z. z ∷ es) (sym is)
drop_next (y ∷ es) (suc i) x e = drop_next es i x e ∙ ap (λ n. x ∷ drop n (y ∷ es)) (let same : suc (i + 1) ≡ suc i + 1 = omega arith in same)

-- the slot of an entry
pub place_get : (es : List (List Value × Place)) (at : ℕ) (k : List Value) (s : Place) → Some (k, s) ≡ slice_get es at → s ≡ place_at es at
place_get [] at k s e = absurd (none_some (sym e))
place_get (x ∷ es) zero k s e = let is : (k, s) ≡ x = cc in ap (λ y. y.1) is
place_get (x ∷ es) (suc at) k s e = place_get es at k s e

pub length-keys : {V : Type 0} (es : List (List Value × V)) → length (keys_of es) ≡ length es
length-keys [] = refl
length-keys (e ∷ es) = ap suc (length-keys es)

pub drop_all : {X : Type 0} (xs : List X) (n : ℕ) → length xs ≤ n → drop n xs ≡ []
drop_all [] n le = drop_none n
  where
    drop_none : {Y : Type 0} (n : ℕ) → drop {A = Y} n [] ≡ []
    drop_none zero = refl
    drop_none (suc n) = refl
drop_all (x ∷ xs) zero le = absurd (omega (arith, le))
drop_all (x ∷ xs) (suc n) le = drop_all xs n (omega (arith, le))

module _ (there : List Value → Bool) (k : List Value) (ks : List (List Value)) where
  pub new_there : there k ≡ true → new_keys there (k ∷ ks) ≡ new_keys there ks
  new_there t = ap (λ b. cond b (new_keys there ks) (new_keys there ks ++ k ∷ [])) t

  pub new_absent : there k ≡ false → new_keys there (k ∷ ks) ≡ new_keys there ks ++ k ∷ []
  new_absent t = ap (λ b. cond b (new_keys there ks) (new_keys there ks ++ k ∷ [])) t

  pub more_absent : there k ≡ false → length (new_keys there (k ∷ ks)) ≡ length (new_keys there ks) + 1
  more_absent t = ap length (new_absent t) ∙ length-append (new_keys there ks) (k ∷ [])

-- only the keys in question matter
pub new_same : (a b : List Value → Bool) (ks : List (List Value)) → AllByRecursion (λ k. a k ≡ b k) ks → new_keys a ks ≡ new_keys b ks
new_same a b [] h = refl
new_same a b (k ∷ ks) h = λ i. cond (h.0 i) (new_same a b ks h.1 i) (new_same a b ks h.1 i ++ k ∷ [])

-- the last of two equal lists
pub last_same : {X : Type 0} (xs ys : List X) (x y : X) → xs ++ x ∷ [] ≡ ys ++ y ∷ [] → x ≡ y
last_same [] [] x y e = cc
last_same [] (z ∷ ys) x y e = absurd (omega (arith, ap length e, length-append ys (y ∷ [])))
last_same (z ∷ xs) [] x y e = absurd (omega (arith, ap length e, length-append xs (x ∷ [])))
last_same (z ∷ xs) (w ∷ ys) x y e = let rest : xs ++ x ∷ [] ≡ ys ++ y ∷ [] = cc in last_same xs ys x y rest

-- the place of the last entry
pub place_last : (es : List (List Value × Place)) (k : List Value) (s : Place) → place_at (es ++ (k, s) ∷ []) (length es) ≡ s
place_last [] k s = refl
place_last (e ∷ es) k s = place_last es k s

pub init_same : {X : Type 0} (xs ys : List X) (x y : X) → xs ++ x ∷ [] ≡ ys ++ y ∷ [] → xs ≡ ys
init_same [] [] x y e = refl
init_same [] (z ∷ ys) x y e = absurd (omega (arith, ap length e, length-append ys (y ∷ [])))
init_same (z ∷ xs) [] x y e = absurd (omega (arith, ap length e, length-append xs (x ∷ [])))
init_same (z ∷ xs) (w ∷ ys) x y e =
    let head : z ≡ w = cc in
    let rest : xs ++ x ∷ [] ≡ ys ++ y ∷ [] = cc in λ i. head i ∷ init_same xs ys x y rest i

pub length-new : (there : List Value → Bool) (ks : List (List Value)) → length (new_keys there ks) ≤ length ks
length-new there [] = omega arith
length-new there (k ∷ ks) = by (there k) (length-new there ks)
  where
    by : (b : Bool) → length (new_keys there ks) ≤ length ks → length (cond b (new_keys there ks) (new_keys there ks ++ k ∷ [])) ≤ suc (length ks)
    by true le = omega (arith, le)
    by false le = omega (arith, le, length-append (new_keys there ks) (k ∷ []))
