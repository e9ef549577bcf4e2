-- All of the conjuncts that are not served.
use Rattle.std.proofs.Common.{◌≡◌, ◌∙◌, ◌<◌, ◌&&◌, ◌||◌, ◌∷◌, [], ℕ, zero, suc, Bool, true, false, List, length, take, get_or, refl, sym, ap, arith}
use Rattle.std.specs.Prelude.{if◌then◌else◌}
use Rattle.std.specs.List.{list_all}
use Rattle.table_schema.specs.declared.query.Conjunct.{Conjunct}
use Rattle.segment_plan.specs.declared.plans.IndexChoice.{IndexChoice}
use Rattle.segment_plan.specs.Served.{choice_at, is_served, unserved}

and_assoc : (x y z : Bool) → (x && (y && z)) ≡ ((x && y) && z)
and_assoc true y z = refl
and_assoc false y z = refl

and_true : (x : Bool) → (x && true) ≡ x
and_true true = refl
and_true false = refl

-- all of some, and one more unless it is left out
one_all : (p : Conjunct → Bool) (b : Bool) (y : Conjunct) (rest : List Conjunct) → list_all p (if b then rest else y ∷ rest) ≡ ((b || p y) && list_all p rest)
one_all p true y rest = refl
one_all p false y rest = refl

pub none_unserved : (choices : List IndexChoice) → unserved choices [] ≡ []
none_unserved [] = refl
none_unserved (c ∷ cs) = refl

-- all of the first conjuncts that are not served, and of one more unless that is served
pub unserved_more : (p : Conjunct → Bool) (choices : List IndexChoice) (conjuncts : List Conjunct) (i : ℕ) (x : Conjunct) → i < length conjuncts → x ≡ get_or conjuncts i x
    → list_all p (unserved choices (take (suc i) conjuncts)) ≡ (list_all p (unserved choices (take i conjuncts)) && (is_served (choice_at choices i) x || p x))
unserved_more p choices [] i x lt is = absurd (omega (arith, lt))
unserved_more p [] (y ∷ ys) zero x lt is = and_true (p y) ∙ ap p (sym is)
unserved_more p [] (y ∷ ys) (suc i) x lt is =
    ap (λ b. p y && b) (unserved_more p [] ys i x (omega (arith, lt)) is) ∙ and_assoc (p y) (list_all p (take i ys)) (p x)
unserved_more p (c ∷ cs) (y ∷ ys) zero x lt is =
    one_all p (is_served c y) y (unserved cs [])
    ∙ ap (λ (l : List Conjunct). (is_served c y || p y) && list_all p l) (none_unserved cs)
    ∙ and_true (is_served c y || p y)
    ∙ ap (λ z. is_served c z || p z) (sym is)
unserved_more p (c ∷ cs) (y ∷ ys) (suc i) x lt is =
    one_all p (is_served c y) y (unserved cs (take (suc i) ys))
    ∙ ap (λ b. (is_served c y || p y) && b) (unserved_more p cs ys i x (omega (arith, lt)) is)
    ∙ and_assoc (is_served c y || p y) (list_all p (unserved cs (take i ys))) (is_served (choice_at cs i) x || p x)
    ∙ ap (λ b. b && (is_served (choice_at cs i) x || p x)) (sym (one_all p (is_served c y) y (unserved cs (take i ys))))
