-- The places of the ones of words.
use Rattle.std.proofs.Common.{◌&&◌, nat_lt, inl, inr, ◌≡◌, ◌∙◌, ◌<◌, ◌≤◌, ◌+◌, ◌-◌, ◌*◌, ◌/◌, ◌%◌, ◌^◌, ◌==◌, ◌++◌, ◌∷◌, [], ℕ, zero, suc, Bool, true, false, cond, List, length, get_or, set, take, refl, ap, sym, arith, append_assoc, append-nil, length-append, bit_and, min}
use Rattle.std.specs.Int.{bit_at, w64}
use lib.Count.{count_trailing_zeros, under}
use native.Mathlib.Nat.{two-pow-succ}
use Rattle.std.proofs.lemmas.Nat.Bits.{bit_at_lowest, bit_at-suc, bit_at_and, bit_at-trailing_zeros, same_from_bits}
use Rattle.std.proofs.lemmas.Nat.{and_shr}
use Rattle.std.proofs.lemmas.List.{take_more_set}
use Rattle.std.proofs.lemmas.Bool.{cases_lt, eq-eqb, lt-ltb, ne_eqb, le-ltb}
use Rattle.coded_scan.specs.Marks.{AreMarks, is_marked, ones, ones_in}
use Rattle.coded_scan.specs.RowFilters.{passing}
use Rattle.coded_scan.proofs.PlaceSteps.{passing-none}
use Rattle.coded_scan.proofs.RowFilterLemmas.{passing-both, passing-same}

is_set : (b : Bool) (n : ℕ) → n ≡ cond b 1 0 → (n == 1) ≡ b
is_set true n h = eq-eqb n 1 h
is_set false n h = ne_eqb n 1 (λ e. let z : ◌≡◌ {A = ℕ} 0 1 = sym h ∙ e in omega arith)

pub ones-passing : (holds : ℕ → Bool) (from count number : ℕ) → ((i : ℕ) → i < count → bit_at number i ≡ cond (holds (from + i)) 1 0) → ones from count number ≡ passing holds from count
unfolding ones
ones-passing holds from zero number marks = refl
ones-passing holds from (suc count) number marks =
    let here : from + 0 ≡ from = omega arith in
    let first : number % 2 ≡ cond (holds from) 1 0 = sym (bit_at_lowest number) ∙ marks 0 (omega arith) ∙ ap (λ k. cond (holds k) 1 0) here in
    let more : (i : ℕ) → i < count → bit_at (number / 2) i ≡ cond (holds (from + 1 + i)) 1 0 =
    λ i lt. let e : from + suc i ≡ from + 1 + i = omega arith in sym (bit_at-suc number i) ∙ marks (suc i) (omega arith) ∙ ap (λ k. cond (holds k) 1 0) e in
    let one : passing holds from 1 ≡ cond (holds from) (from ∷ []) [] = ap (λ k. [] ++ cond (holds k) (k ∷ []) []) here in
    let e : suc count ≡ 1 + count = omega arith in
    ap (λ b. cond b (from ∷ []) [] ++ ones (from + 1) count (number / 2)) (is_set (holds from) (number % 2) first)
    ∙ ap (λ xs. cond (holds from) (from ∷ []) [] ++ xs) (ones-passing holds (from + 1) count (number / 2) more)
    ∙ ap (λ xs. xs ++ passing holds (from + 1) count) (sym one)
    ∙ sym (passing-both holds from 1 count)
    ∙ ap (passing holds from) (sym e)

pub ones_in_passing : (holds : ℕ → Bool) (from many : ℕ) (words : List ℕ) (count : ℕ) → AreMarks many (λ row. holds (from + row)) words → count ≤ length words → ones_in from words count ≡ passing (λ at. is_marked many (λ row. holds (from + row)) (at - from)) from (64 * count)
ones_in_passing holds from many words zero marks le = let e : 64 * zero ≡ zero = omega arith in ap (passing (λ at. is_marked many (λ row. holds (from + row)) (at - from)) from) (sym e)
ones_in_passing holds from many words (suc count) marks le =
    let marked : ℕ → Bool = λ at. is_marked many (λ row. holds (from + row)) (at - from) in
    let e : 64 * suc count ≡ 64 * count + 64 = omega arith in
    let here : (i : ℕ) → 64 * count + i ≡ from + 64 * count + i - from = λ i. omega arith in
    ap (λ xs. xs ++ ones (from + 64 * count) 64 (get_or words count 0)) (ones_in_passing holds from many words count marks (omega (arith, le)))
    ∙ ap (λ xs. passing marked from (64 * count) ++ xs) (ones-passing marked (from + 64 * count) 64 (get_or words count 0)
    (λ i lt. (marks.each count (omega (arith, le))).each i lt ∙ ap (λ k. cond (is_marked many (λ row. holds (from + row)) k) 1 0) (here i)))
    ∙ sym (passing-both marked from (64 * count) 64)
    ∙ ap (passing marked from) (sym e)

-- ---- the lowest one
at_most_one : (b : Bool) (x : ℕ) → length (cond b (x ∷ []) []) ≤ 1
at_most_one true x = omega arith
at_most_one false x = omega arith

pub length-ones : (from count number : ℕ) → length (ones from count number) ≤ count
unfolding ones
length-ones from zero number = omega arith
length-ones from (suc count) number =
    omega (arith, length-append (cond (number % 2 == 1) (from ∷ []) []) (ones (from + 1) count (number / 2)), at_most_one (number % 2 == 1) from, length-ones (from + 1) count (number / 2))

pub ones-none : (from count : ℕ) → ones from count 0 ≡ []
unfolding ones
ones-none from zero = refl
ones-none from (suc count) =
    let half : 0 / 2 ≡ 0 = omega arith in
    let low : (0 % 2 == 1) ≡ false = ne_eqb (0 % 2) 1 (λ e. let z : ◌≡◌ {A = ℕ} 0 1 = e in omega arith) in
    ap (λ b. cond b (from ∷ []) [] ++ ones (from + 1) count (0 / 2)) low
    ∙ ap (ones (from + 1) count) half
    ∙ ones-none (from + 1) count

and_same : (n : ℕ) → bit_and n n ≡ n
and_same n = same_from_bits (bit_and n n) n (λ i. let e = bit_at_and n n i in omega (arith, e))

low_and : (a b : ℕ) → bit_and a b % 2 ≡ min (a % 2) (b % 2)
low_and a b = sym (bit_at_lowest (bit_and a b)) ∙ bit_at_and a b 0 ∙ ap (λ x. min x (bit_at b 0)) (bit_at_lowest a) ∙ ap (λ y. min (a % 2) y) (bit_at_lowest b)

-- a number whose last digit is 0
skip : (from count number : ℕ) → number % 2 ≡ 0 → ones from (suc count) number ≡ ones (from + 1) count (number / 2)
unfolding ones
skip from count number even = ap (λ b. cond b (from ∷ []) [] ++ ones (from + 1) count (number / 2)) (ne_eqb (number % 2) 1 (λ e. let z : ◌≡◌ {A = ℕ} 0 1 = sym even ∙ e in omega arith))

-- a number whose last digit is 1
take_one : (from count number : ℕ) → number % 2 ≡ 1 → ones from (suc count) number ≡ from ∷ ones (from + 1) count (number / 2)
unfolding ones
take_one from count number odd = ap (λ b. cond b (from ∷ []) [] ++ ones (from + 1) count (number / 2)) (eq-eqb (number % 2) 1 odd)

lowest_by : (from count number t d : ℕ) → 0 < number → number % 2 ≡ d
    → (number % 2 ≡ 0 → ones (from + 1) count (number / 2) ≡ (from + 1 + t) ∷ ones (from + 1) count (bit_and (number / 2) (number / 2 - 1)))
    → ones from (suc count) number ≡ (from + under d t) ∷ ones from (suc count) (bit_and number (number - 1))
lowest_by from count number t zero some even more =
    let half : (number - 1) / 2 ≡ number / 2 - 1 = omega (arith, some, even) in
    let left : bit_and number (number - 1) / 2 ≡ bit_and (number / 2) (number / 2 - 1) = and_shr number (number - 1) 1 ∙ ap (bit_and (number / 2)) half in
    let low : bit_and number (number - 1) % 2 ≡ 0 = omega (arith, low_and number (number - 1), even) in
    let place : from + 1 + t ≡ from + under zero t = omega arith in
    skip from count number even
    ∙ more even
    ∙ ap (λ n. (from + 1 + t) ∷ ones (from + 1) count n) (sym left)
    ∙ ap (λ xs. (from + 1 + t) ∷ xs) (sym (skip from count (bit_and number (number - 1)) low))
    ∙ ap (λ k. k ∷ ones from (suc count) (bit_and number (number - 1))) place
lowest_by from count number t (suc d) some odd more =
    let one : number % 2 ≡ 1 = omega (arith, odd) in
    let half : (number - 1) / 2 ≡ number / 2 = omega (arith, some, one) in
    let left : bit_and number (number - 1) / 2 ≡ number / 2 = and_shr number (number - 1) 1 ∙ ap (bit_and (number / 2)) half ∙ and_same (number / 2) in
    let low : bit_and number (number - 1) % 2 ≡ 0 = omega (arith, low_and number (number - 1), one, some) in
    let place : from ≡ from + under (suc d) t = omega arith in
    take_one from count number one
    ∙ ap (λ n. from ∷ ones (from + 1) count n) (sym left)
    ∙ ap (λ xs. from ∷ xs) (sym (skip from count (bit_and number (number - 1)) low))
    ∙ ap (λ k. k ∷ ones from (suc count) (bit_and number (number - 1))) place

-- the lowest one, and those of the number without it
pub ones-lowest : (count from number : ℕ) → 0 < number → number < 2 ^ count → ones from count number ≡ (from + count_trailing_zeros count number) ∷ ones from count (bit_and number (number - 1))
unfolding count_trailing_zeros
ones-lowest zero from number some small = absurd (omega (arith, some, small))
ones-lowest (suc count) from number some small =
    lowest_by from count number (count_trailing_zeros count (number / 2)) (number % 2) some refl
    (λ even. ones-lowest count (from + 1) (number / 2) (omega (arith, some, even)) (omega (arith, small, two-pow-succ count)))

-- ---- the loop that puts the places of a word's ones
place-within : (left : ℕ) → 0 < left → left < 2 ^ 64 → count_trailing_zeros 64 left < 64
place-within left some small = (bit_at-trailing_zeros w64 left some small).0

pub place-fits : (from left : ℕ) → from + 64 < 2 ^ 32 → 0 < left → left < 2 ^ 64 → from + count_trailing_zeros 64 left < 2 ^ 32
place-fits from left few some small = omega (arith, few, place-within left some small)

-- there is one place more
pub one-more : (from left : ℕ) → 0 < left → left < 2 ^ 64 → length (ones from 64 left) ≡ length (ones from 64 (bit_and left (left - 1))) + 1
one-more from left some small = ap length (ones-lowest 64 from left some small) ∙ omega arith

pub length-none : (from : ℕ) → length (ones from 64 0) ≡ 0
length-none from = ap length (ones-none from 64)

pub place-step : (from left left' n x : ℕ) (out rest : List ℕ) → n < length out → x ≡ from + count_trailing_zeros 64 left → left' ≡ bit_and left (left - 1) → 0 < left → left < 2 ^ 64
    → take n out ++ ones from 64 left ≡ rest → take (n + 1) (set out n x) ++ ones from 64 left' ≡ rest
place-step from left left' n x out rest lt is less some small so_far =
    ap (λ xs. xs ++ ones from 64 left') (take_more_set out n x lt)
    ∙ append_assoc (take n out) (x ∷ []) (ones from 64 left')
    ∙ ap (λ k. take n out ++ (k ∷ ones from 64 left')) is
    ∙ ap (λ m. take n out ++ ((from + count_trailing_zeros 64 left) ∷ ones from 64 m)) less
    ∙ ap (λ xs. take n out ++ xs) (sym (ones-lowest 64 from left some small))
    ∙ so_far

pub places-end : (from n : ℕ) (out rest : List ℕ) → take n out ++ ones from 64 0 ≡ rest → take n out ≡ rest
places-end from n out rest so_far = sym (append-nil (take n out)) ∙ ap (λ xs. take n out ++ xs) (sym (ones-none from 64)) ∙ so_far

-- ---- as many places as rows
few-marked : (holds : ℕ → Bool) (many from n : ℕ) → length (passing (λ at. is_marked many holds (at - from)) from n) ≤ min n many
few-marked holds many from zero = omega arith
few-marked holds many from (suc n) =
    let marked : ℕ → Bool = λ at. is_marked many holds (at - from) in
    let more = length-append (passing marked from n) (cond (marked (from + n)) ((from + n) ∷ []) []) in
    elim (cases_lt n many) [
      | inl lt ↦ omega (arith, more, few-marked holds many from n, at_most_one (marked (from + n)) (from + n), lt)
      | inr past ↦
          let none : marked (from + n) ≡ false = ap (λ t. t && holds (from + n - from)) (le-ltb (from + n - from) many (omega (arith, past))) in
          let empty : length (cond (marked (from + n)) ((from + n) ∷ []) []) ≡ 0 = ap (λ b. length (cond b ((from + n) ∷ []) [])) none in
          omega (arith, more, few-marked holds many from n, empty, past)
    ]

pub few-places : (holds : ℕ → Bool) (from many : ℕ) (words : List ℕ) (count : ℕ) → AreMarks many holds words → count ≤ length words → length (ones_in from words count) ≤ many
few-places holds from many words count marks le =
    let h : ℕ → Bool = λ at. holds (at - from) in
    let back : (row : ℕ) → holds row ≡ h (from + row) = λ row. ap holds (omega arith) in
    let moved : AreMarks many (λ row. h (from + row)) words = record {
      enough = marks.enough;
      each = λ j lt. record { each = λ i below. (marks.each j lt).each i below ∙ ap (λ b. cond (nat_lt (64 * j + i) many && b) 1 0) (back (64 * j + i)) };
    } in
    omega (arith, ap length (ones_in_passing h from many words count moved le), few-marked (λ row. h (from + row)) many from (64 * count))

-- the rows past the last are not marked
pub marked-all : (holds : ℕ → Bool) (many from n : ℕ) → many ≤ n → passing (λ at. is_marked many (λ row. holds (from + row)) (at - from)) from n ≡ passing holds from many
marked-all holds many from n le =
    let marked : ℕ → Bool = λ at. is_marked many (λ row. holds (from + row)) (at - from) in
    let e : n ≡ many + (n - many) = omega (arith, le) in
    ap (passing marked from) e
    ∙ passing-both marked from many (n - many)
    ∙ ap (λ xs. xs ++ passing marked (from + many) (n - many)) (passing-same marked holds from many
    (λ i lt. ap (λ t. t && holds (from + (from + i - from))) (lt-ltb (from + i - from) many (omega (arith, lt))) ∙ ap holds (omega arith)))
    ∙ ap (λ xs. passing holds from many ++ xs) (passing-none marked (from + many) (n - many)
    (λ i lt. ap (λ t. t && holds (from + (from + many + i - from))) (le-ltb (from + many + i - from) many (omega arith))))
    ∙ append-nil (passing holds from many)
