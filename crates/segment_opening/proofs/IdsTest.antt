-- The test that a number is one of some ids.
use Rattle.std.proofs.Common.{◌≡◌, ◌∙◌, ◌<◌, ◌≤◌, ◌+◌, ◌-◌, ◌&&◌, ◌||◌, ◌==◌, ◌∷◌, [], not, ℕ, zero, suc, pos, Bool, true, false, nat_eq, nat_le, List, Some, length, map, get_or, slice_get, refl, sym, ap, subst, arith}
use Rattle.std.proofs.lemmas.Bool.{cases_order, eq-eqb, eqb-true, false≢true, le-leb, lt-leb, lt-ltb, le-ltb, ne_eqb}
use Rattle.std.specs.Ordering.{int_cmp, is_le, nat_cmp}
use Rattle.std.specs.Prelude.{nat_lt}
use Rattle.values.specs.declared.value.Value.{Value}
use Rattle.values.specs.declared.value.Value.TheVariants.{Whole}
use Rattle.values.specs.declared.test.Test.TheOpen.{Test-F}
use Rattle.values.specs.declared.test.Test.TheFolds.{fold-roll-Test}
use Rattle.values.specs.declared.test.Test.TheVariants.{Between, OneOf, rolls-Between, rolls-OneOf}
use Rattle.values.specs.Order.{value_eq}
use Rattle.values.specs.Tests.{holds, holds_step, is_at_most, is_member}
use Rattle.value_ids.specs.Ids.{has_id, is_outside}
use Rattle.segment_plan.specs.Choices.{are_consecutive, follow}

left_true : (a b : Bool) → a && b ≡ true → a ≡ true
left_true true b is = refl
left_true false b is = absurd (false≢true is)

right_true : (a b : Bool) → a && b ≡ true → b ≡ true
right_true true b is = is
right_true false b is = absurd (false≢true is)

abbrev last_of : ℕ → List ℕ → ℕ
last_of x xs = get_or (x ∷ xs) (length xs) 0

-- ---- ids that follow one another

last_up : (x : ℕ) (xs : List ℕ) → follow x xs ≡ true → x ≤ last_of x xs
last_up x [] f = omega arith
last_up x (y ∷ ys) f =
    let next : y ≡ x + 1 = eqb-true y (x + 1) (left_true (y == x + 1) (follow y ys) f) in
    let more : y ≤ last_of y ys = last_up y ys (right_true (y == x + 1) (follow y ys) f) in
    omega (arith, next, more)

one_more : (id x y last : ℕ) → y ≡ x + 1 → y ≤ last → nat_eq id x || (nat_le y id && nat_le id last) ≡ nat_le x id && nat_le id last
one_more id x y last next up = grind (arith, next, up)

one_alone : (id x : ℕ) → nat_eq id x || false ≡ nat_le x id && nat_le id x
one_alone id x = grind arith

follow_has : (x : ℕ) (xs : List ℕ) (id : ℕ) → follow x xs ≡ true → has_id (x ∷ xs) id ≡ nat_le x id && nat_le id (last_of x xs)
follow_has x [] id f = one_alone id x
follow_has x (y ∷ ys) id f =
    let next : y ≡ x + 1 = eqb-true y (x + 1) (left_true (y == x + 1) (follow y ys) f) in
    let rest = right_true (y == x + 1) (follow y ys) f in
    ap (λ b. nat_eq id x || b) (follow_has y ys id rest) ∙ one_more id x y (last_of y ys) next (last_up y ys rest)

-- ---- numbers that are tested

at_most_is : (a b : ℕ) → is_at_most (Whole (pos a)) (Whole (pos b)) ≡ nat_le a b
at_most_is a b = grind arith

same_is : (a b : ℕ) → value_eq (Whole (pos a)) (Whole (pos b)) ≡ nat_eq a b
same_is a b = grind arith

found_is : (ids : List ℕ) (k x : ℕ) → slice_get ids k ≡ Some x → get_or ids k 0 ≡ x
found_is [] k x at = absurd cc
found_is (y ∷ ys) zero x at = cc
found_is (y ∷ ys) (suc k) x at = found_is ys k x at

-- a number between the first of consecutive ids and the last is one of them
pub between_is : (ids : List ℕ) (first last id : ℕ) → are_consecutive ids ≡ true → slice_get ids 0 ≡ Some first → slice_get ids (length ids - 1) ≡ Some last → holds (Whole (pos id)) (Between (Whole (pos first)) (Whole (pos last)) false) ≡ has_id ids id
between_is [] first last id f at end = absurd (false≢true f)
between_is (x ∷ xs) first last id f at end =
    let low : first ≡ x = sym (found_is (x ∷ xs) 0 first at) in
    let n : length (x ∷ xs) - 1 ≡ length xs = omega arith in
    let high : last_of x xs ≡ last = ap (λ k. get_or (x ∷ xs) k 0) (sym n) ∙ found_is (x ∷ xs) (length (x ∷ xs) - 1) last end in
    ap (holds (Whole (pos id))) (sym (rolls-Between (Whole (pos first)) (Whole (pos last)) false))
    ∙ fold-roll-Test Bool (holds_step (Whole (pos id))) (Test-F.Between (Whole (pos first)) (Whole (pos last)) false)
    ∙ (λ i. at_most_is first id i && at_most_is id last i)
    ∙ (λ i. nat_le (low i) id && nat_le id (sym high i))
    ∙ sym (follow_has x xs id f)

member_is : (ids : List ℕ) (id : ℕ) → is_member (map (λ n. Whole (pos n)) ids) (Whole (pos id)) ≡ has_id ids id
member_is [] id = refl
member_is (x ∷ xs) id = let rest = member_is xs id in (λ i. same_is id x i || rest i)

-- a number in the list of the ids is one of them
pub one_of_is : (ids : List ℕ) (values : List Value) (id : ℕ) → values ≡ map (λ n. Whole (pos n)) ids → holds (Whole (pos id)) (OneOf values false) ≡ has_id ids id
one_of_is ids values id is =
    ap (holds (Whole (pos id))) (sym (rolls-OneOf values false))
    ∙ fold-roll-Test Bool (holds_step (Whole (pos id))) (Test-F.OneOf values false)
    ∙ ap (λ vs. is_member vs (Whole (pos id))) is
    ∙ member_is ids id

-- a number below a count that is none of the ids that others lack is one of these
pub none_of_is : (count : ℕ) (ids others : List ℕ) (values : List Value) (id : ℕ) → id < count → ((k : ℕ) → has_id others k ≡ is_outside count ids k) → values ≡ map (λ n. Whole (pos n)) others → holds (Whole (pos id)) (OneOf values true) ≡ has_id ids id
none_of_is count ids others values id lt outside is =
    ap (holds (Whole (pos id))) (sym (rolls-OneOf values true))
    ∙ fold-roll-Test Bool (holds_step (Whole (pos id))) (Test-F.OneOf values true)
    ∙ ap (λ vs. not (is_member vs (Whole (pos id)))) is
    ∙ ap not (member_is others id ∙ outside id)
    ∙ ap (λ b. not (b && not (has_id ids id))) (lt-ltb id count lt)
    ∙ twice (has_id ids id)
  where
    twice : (b : Bool) → not (true && not b) ≡ b
    twice true = refl
    twice false = refl
