-- Marks that are taken away, one place or one condition after another.
use Rattle.std.proofs.Common.{◌≡◌, ◌∙◌, ◌<◌, ◌≤◌, ◌+◌, ◌&&◌, ◌∷◌, ◌++◌, [], ℕ, List, length, get_or, set, take, Bool, true, false, nat_lt, ◌⊎◌, inl, inr, refl, sym, ap, arith}
use Rattle.std.proofs.lemmas.Bool.Decides.{nat_tests}
use Rattle.std.proofs.lemmas.List.{get_or-set_other, get_or-set_same, take_more}
use Rattle.std.proofs.Math.ListN.{length-set}
use Rattle.std.proofs.lemmas.List.Folds.{list_all-append}
use Rattle.std.specs.List.{list_all}
use Rattle.scan_engine.specs.Selection.{Keeps}

-- the same below a place, and nothing was changed from there on
pub record KeepsBelow (n : ℕ) (holds : ℕ → Bool) (old new : List Bool) : Type 0 where
  pub count : length new ≡ length old
  pub below : (at : ℕ) → at < n → get_or new at false ≡ (get_or old at false && holds at)
  pub rest : (at : ℕ) → n ≤ at → get_or new at false ≡ get_or old at false

pub keeps-none : (holds : ℕ → Bool) (old : List Bool) → KeepsBelow 0 holds old old
keeps-none holds old = record { count = refl; below = λ at lt. absurd (omega (arith, lt)); rest = λ at le. refl }

before_or_at : (b : Bool) (i n : ℕ) → nat_lt i n ≡ b → i < n + 1 → (i < n) ⊎ (i ≡ n)
before_or_at true i n is lt = inl (grind (arith, nat_tests))
before_or_at false i n is lt = inr (grind (arith, nat_tests))

pub and_true : (x : Bool) → x ≡ (x && true)
and_true true = refl
and_true false = refl

-- the next mark
pub keeps-set : (n : ℕ) (holds : ℕ → Bool) (old new : List Bool) (b : Bool) → n < length old → b ≡ (get_or new n false && holds n) → KeepsBelow n holds old new → KeepsBelow (n + 1) holds old (set new n b)
keeps-set n holds old new b lt is k =
    let within : n < length new = omega (arith, lt, k.count) in
    record {
      count = length-set new n b ∙ k.count;
      below = λ at less. elim (before_or_at (nat_lt at n) at n refl less) [
        | inl below ↦ get_or-set_other new n at b false (λ e. omega (arith, e, below)) ∙ k.below at below
        | inr same ↦ ap (λ i. get_or (set new n b) i false) same ∙ get_or-set_same new n b false within ∙ is ∙ ap (λ x. x && holds n) (k.rest n (omega arith)) ∙ ap (λ i. get_or old i false && holds i) (sym same)
      ];
      rest = λ at le. get_or-set_other new n at b false (λ e. omega (arith, e, le)) ∙ k.rest at (omega (arith, le));
    }

pub keeps-all : (n : ℕ) (holds : ℕ → Bool) (old new : List Bool) → length old ≤ n → KeepsBelow n holds old new → Keeps holds old new
keeps-all n holds old new le k = λ at lt. k.below at (omega (arith, lt, le))

and_assoc : (x y z : Bool) → ((x && y) && z) ≡ (x && (y && z))
and_assoc true y z = refl
and_assoc false y z = refl

-- one condition after another
pub keeps-both : (first next both : ℕ → Bool) (old mid new : List Bool) → length mid ≡ length old → ((at : ℕ) → both at ≡ (first at && next at)) → Keeps first old mid → Keeps next mid new → Keeps both old new
keeps-both first next both old mid new count is one two = λ at lt.
    two at (omega (arith, lt, count)) ∙ ap (λ b. b && next at) (one at lt) ∙ and_assoc (get_or old at false) (first at) (next at) ∙ ap (λ b. get_or old at false && b) (sym (is at))

-- all of some and one more
pub all-more : {X : Type 0} (p : X → Bool) (xs : List X) (i : ℕ) (x : X) → i < length xs → x ≡ get_or xs i x → list_all p (take (i + 1) xs) ≡ (list_all p (take i xs) && p x)
all-more p xs i x lt is =
    ap (list_all p) (take_more xs i x lt ∙ ap (λ y. take i xs ++ y ∷ []) (sym is)) ∙ list_all-append p (take i xs) (x ∷ []) ∙ ap (λ b. list_all p (take i xs) && b) (sym (and_true (p x)))
