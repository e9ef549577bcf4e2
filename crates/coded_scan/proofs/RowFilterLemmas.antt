-- Conditions on rows by their ids, and the places that pass them.
use Rattle.std.proofs.Common.{◌≡◌, ◌∙◌, ◌<◌, ◌≤◌, ◌+◌, ◌++◌, ◌∷◌, [], ◌&&◌, ◌||◌, ℕ, zero, suc, Bool, true, false, cond, List, length, map, drop, get_or, refl, ap, sym, arith, append_assoc, append-nil}
use Rattle.std.specs.List.{list_all}
use Rattle.values.specs.Tests.{all_true, any_true}
use Rattle.coded_scan.specs.RowFilters.{passing}

and_true : (x : Bool) → (x && true) ≡ x
and_true true = refl
and_true false = refl

pub and_assoc : (x y z : Bool) → (x && (y && z)) ≡ ((x && y) && z)
and_assoc true y z = refl
and_assoc false y z = refl

-- each of some and one more
pub all_push : {X : Type 0} (p : X → Bool) (xs : List X) (x : X) → list_all p (xs ++ x ∷ []) ≡ (list_all p xs && p x)
all_push p [] x = and_true (p x)
all_push p (y ∷ ys) x = ap (λ b. p y && b) (all_push p ys x) ∙ and_assoc (p y) (list_all p ys) (p x)

pub passing-more : (holds : ℕ → Bool) (from n : ℕ) → passing holds from (n + 1) ≡ passing holds from n ++ cond (holds (from + n)) ((from + n) ∷ []) []
passing-more holds from n = let e : n + 1 ≡ suc n = omega arith in ap (passing holds from) e

-- the same places where it holds the same
pub passing-same : (p q : ℕ → Bool) (from n : ℕ) → ((at : ℕ) → at < n → p (from + at) ≡ q (from + at)) → passing p from n ≡ passing q from n
passing-same p q from zero same = refl
passing-same p q from (suc n) same =
    let front = passing-same p q from n (λ at lt. same at (omega (arith, lt))) in
    let last = same n (omega arith) in
    λ i. front i ++ cond (last i) ((from + n) ∷ []) []

-- the places of two blocks, one after the other
pub passing-both : (holds : ℕ → Bool) (from n m : ℕ) → passing holds from (n + m) ≡ passing holds from n ++ passing holds (from + n) m
passing-both holds from n zero = (let e : n + 0 ≡ n = omega arith in ap (passing holds from) e) ∙ sym (append-nil (passing holds from n))
passing-both holds from n (suc m) =
    let more : n + suc m ≡ suc (n + m) = omega arith in
    let at : from + (n + m) ≡ (from + n) + m = omega arith in
    ap (passing holds from) more
    ∙ (λ i. passing-both holds from n m i ++ cond (holds (at i)) (at i ∷ []) [])
    ∙ append_assoc (passing holds from n) (passing holds (from + n) m) (cond (holds ((from + n) + m)) (((from + n) + m) ∷ []) [])

or_false : (x : Bool) → (x || false) ≡ x
or_false true = refl
or_false false = refl

pub or_assoc : (x y z : Bool) → (x || (y || z)) ≡ ((x || y) || z)
or_assoc true y z = refl
or_assoc false y z = refl

pub all_true_push : {X : Type 0} (p : X → Bool) (xs : List X) (x : X) → all_true (map p (xs ++ x ∷ [])) ≡ (all_true (map p xs) && p x)
all_true_push p [] x = and_true (p x)
all_true_push p (y ∷ ys) x = ap (λ b. p y && b) (all_true_push p ys x) ∙ and_assoc (p y) (all_true (map p ys)) (p x)

pub any_true_push : {X : Type 0} (p : X → Bool) (xs : List X) (x : X) → any_true (map p (xs ++ x ∷ [])) ≡ (any_true (map p xs) || p x)
any_true_push p [] x = or_false (p x)
any_true_push p (y ∷ ys) x = ap (λ b. p y || b) (any_true_push p ys x) ∙ or_assoc (p y) (any_true (map p ys)) (p x)

-- what holds of all of some holds of each
pub both_first : (a b : Bool) → (a && b) ≡ true → a ≡ true
both_first true b is = refl
both_first false b is = is

pub both_second : (a b : Bool) → (a && b) ≡ true → b ≡ true
both_second true b is = is
both_second false b is = absurd cc

pub all_at : {X : Type 0} (p : X → Bool) (xs : List X) (i : ℕ) (x : X) → i < length xs → x ≡ get_or xs i x → list_all p xs ≡ true → p x ≡ true
all_at p [] i x lt is all = absurd (omega (arith, lt))
all_at p (y ∷ ys) zero x lt is all = ap p is ∙ both_first (p y) (list_all p ys) all
all_at p (y ∷ ys) (suc i) x lt is all = all_at p ys i x (omega (arith, lt)) is (both_second (p y) (list_all p ys) all)

pub both_true : (a b : Bool) → a ≡ true → b ≡ true → (a && b) ≡ true
both_true a b e f = ap (λ x. x && b) e ∙ f

-- one member more
pub all_first : {X : Type 0} (p : X → Bool) (xs : List X) (i : ℕ) (x : X) → i < length xs → x ≡ get_or xs i x → all_true (map p (drop i xs)) ≡ (p x && all_true (map p (drop (i + 1) xs)))
all_first p [] i x lt is = absurd (omega (arith, lt))
all_first p (y ∷ ys) zero x lt is = ap (λ z. p z && all_true (map p ys)) (sym is)
all_first p (y ∷ ys) (suc i) x lt is =
    let e : suc i + 1 ≡ suc (i + 1) = omega arith in
    all_first p ys i x (omega (arith, lt)) is ∙ ap (λ n. p x && all_true (map p (drop n (y ∷ ys)))) (sym e)

pub any_first : {X : Type 0} (p : X → Bool) (xs : List X) (i : ℕ) (x : X) → i < length xs → x ≡ get_or xs i x → any_true (map p (drop i xs)) ≡ (p x || any_true (map p (drop (i + 1) xs)))
any_first p [] i x lt is = absurd (omega (arith, lt))
any_first p (y ∷ ys) zero x lt is = ap (λ z. p z || any_true (map p ys)) (sym is)
any_first p (y ∷ ys) (suc i) x lt is =
    let e : suc i + 1 ≡ suc (i + 1) = omega arith in
    any_first p ys i x (omega (arith, lt)) is ∙ ap (λ n. p x || any_true (map p (drop n (y ∷ ys)))) (sym e)

pub all_member : {X Y : Type 0} (w : Bool) (p : X → Bool) (f : Y → Bool) (xs : List X) (x : X) (ys : List Y) (i : ℕ) (y : Y) → i < length ys → y ≡ get_or ys i y → p x ≡ f y
    → w ≡ (all_true (map p xs) && all_true (map f (drop i ys))) → w ≡ (all_true (map p (xs ++ x ∷ [])) && all_true (map f (drop (i + 1) ys)))
all_member w p f xs x ys i y lt is same inv =
    inv ∙ ap (λ b. all_true (map p xs) && b) (all_first f ys i y lt is ∙ ap (λ b. b && all_true (map f (drop (i + 1) ys))) (sym same))
    ∙ and_assoc (all_true (map p xs)) (p x) (all_true (map f (drop (i + 1) ys))) ∙ ap (λ b. b && all_true (map f (drop (i + 1) ys))) (sym (all_true_push p xs x))

pub any_member : {X Y : Type 0} (w : Bool) (p : X → Bool) (f : Y → Bool) (xs : List X) (x : X) (ys : List Y) (i : ℕ) (y : Y) → i < length ys → y ≡ get_or ys i y → p x ≡ f y
    → w ≡ (any_true (map p xs) || any_true (map f (drop i ys))) → w ≡ (any_true (map p (xs ++ x ∷ [])) || any_true (map f (drop (i + 1) ys)))
any_member w p f xs x ys i y lt is same inv =
    inv ∙ ap (λ b. any_true (map p xs) || b) (any_first f ys i y lt is ∙ ap (λ b. b || any_true (map f (drop (i + 1) ys))) (sym same))
    ∙ or_assoc (any_true (map p xs)) (p x) (any_true (map f (drop (i + 1) ys))) ∙ ap (λ b. b || any_true (map f (drop (i + 1) ys))) (sym (any_true_push p xs x))

none_after : {X : Type 0} (xs : List X) (i : ℕ) → length xs ≤ i → drop i xs ≡ []
none_after [] zero le = refl
none_after [] (suc i) le = refl
none_after (x ∷ xs) zero le = absurd (omega (arith, le))
none_after (x ∷ xs) (suc i) le = none_after xs i (omega (arith, le))

pub all_done : {Y : Type 0} (w a : Bool) (f : Y → Bool) (ys : List Y) (i : ℕ) → length ys ≤ i → w ≡ (a && all_true (map f (drop i ys))) → a ≡ w
all_done w a f ys i le inv = sym (inv ∙ ap (λ (l : List _). a && all_true (map f l)) (none_after ys i le) ∙ and_true a)

pub any_done : {Y : Type 0} (w a : Bool) (f : Y → Bool) (ys : List Y) (i : ℕ) → length ys ≤ i → w ≡ (a || any_true (map f (drop i ys))) → a ≡ w
any_done w a f ys i le inv = sym (inv ∙ ap (λ (l : List _). a || any_true (map f l)) (none_after ys i le) ∙ or_false a)
