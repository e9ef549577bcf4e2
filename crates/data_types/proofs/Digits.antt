-- A number that is read digit by digit is what its digits count by their places.
use Rattle.std.proofs.Common.{◌≡◌, ℕ, zero, suc, ◌+◌, ◌-◌, ◌*◌, ◌^◌, ◌<◌, ◌≤◌, ◌⊎◌, inl, inr, Bool, true, false, ◌&&◌, cond, List, [], ◌∷◌, length, drop, get_or, Option, Some, None, Ok, Err, refl, sym, ap, subst, ◌∙◌, arith}
use Rattle.std.proofs.Math.Nat.{pow-suc}
use Rattle.std.proofs.lemmas.Bool.Decides.{nat_tests}
use Rattle.std.proofs.lemmas.List.{at_drop_more, at_drop_all}
use Rattle.std.specs.List.{list_all}
use Rattle.data_types.specs.Numbers.{is_digit, place_value, unsigned_number}
use Rattle.data_types.specs.Magnitude.{kept, magnitude_of, refusal_of}
use Rattle.data_types.specs.declared.whole.WholeFault.TheVariants.{NotANumber, OutOfRange}

-- the number that digits spell when they follow those of n, if each is a digit
abbrev pub number_after : ℕ → List ℕ → Option ℕ
number_after n [] = Some n
number_after n (digit ∷ digits) = cond (is_digit digit) (number_after (n * 10 + (digit - 48)) digits) None

abbrev placed : Bool → ℕ → List ℕ → Option ℕ
placed digits_only n digits = cond digits_only (Some (n * 10 ^ length digits + place_value digits)) None

spread : (n d place rest whole : ℕ) → whole ≡ place * 10 → (n * 10 + d) * place + rest ≡ n * whole + (d * place + rest)
spread n d place rest whole e = rw e (omega arith)

placed-step : (b c : Bool) (n d : ℕ) (ds : List ℕ) → number_after (n * 10 + (d - 48)) ds ≡ placed c (n * 10 + (d - 48)) ds
    → cond b (number_after (n * 10 + (d - 48)) ds) None ≡ cond (b && c) (Some (n * 10 ^ suc (length ds) + ((d - 48) * 10 ^ length ds + place_value ds))) None
placed-step true true n d ds e = e ∙ ap Some (spread n (d - 48) (10 ^ length ds) (place_value ds) (10 ^ suc (length ds)) (pow-suc 10 (length ds)))
placed-step true false n d ds e = e
placed-step false c n d ds e = refl

pub number_after-placed : (n : ℕ) (ds : List ℕ) → number_after n ds ≡ placed (list_all is_digit ds) n ds
number_after-placed n [] = ap Some (omega arith)
number_after-placed n (d ∷ ds) = placed-step (is_digit d) (list_all is_digit ds) n d ds (number_after-placed (n * 10 + (d - 48)) ds)

grows-step : (b : Bool) (m v : ℕ) (ds : List ℕ) → cond b (number_after m ds) None ≡ Some v → (number_after m ds ≡ Some v → m ≤ v) → m ≤ v
grows-step true m v ds e more = more e
grows-step false m v ds e more = cc

grows : (n v : ℕ) (ds : List ℕ) → number_after n ds ≡ Some v → n ≤ v
grows n v [] e = let same : n ≡ v = cc in omega arith
grows n v (d ∷ ds) e =
    let more : n * 10 + (d - 48) ≤ v = grows-step (is_digit d) (n * 10 + (d - 48)) v ds e (grows (n * 10 + (d - 48)) v ds) in
    omega arith

-- a digit more after so large a number
large : (n d v : ℕ) (rest : List ℕ) → number_after n (d ∷ rest) ≡ Some v → (is_digit d ≡ false) ⊎ (922337203685477580 < n) → 9223372036854775809 < v
large n d v rest e (inl other) = let none : cond (is_digit d) (number_after (n * 10 + (d - 48)) rest) None ≡ None = rw other refl in cc
large n d v rest e (inr more) =
    let at_least : n * 10 + (d - 48) ≤ v = grows-step (is_digit d) (n * 10 + (d - 48)) v rest e (grows (n * 10 + (d - 48)) v rest) in
    omega arith

too_large : (v : ℕ) → 9223372036854775809 < v → kept (Some v) ≡ Err OutOfRange
too_large v h = grind (arith, nat_tests)

refused-by : (b : Bool) (v n d : ℕ) (rest : List ℕ) → cond b (Some v) None ≡ number_after n (d ∷ rest) → (is_digit d ≡ false) ⊎ (922337203685477580 < n)
    → kept (cond b (Some v) None) ≡ Err (cond b OutOfRange NotANumber)
refused-by true v n d rest e h = too_large v (large n d v rest (sym e) h)
refused-by false v n d rest e h = refl

number_after-whole : (x : ℕ) (xs : List ℕ) → number_after 0 (x ∷ xs) ≡ unsigned_number (x ∷ xs)
number_after-whole x xs = number_after-placed 0 (x ∷ xs) ∙ ap (λ v. cond (list_all is_digit (x ∷ xs)) (Some v) None) (omega arith)

-- a text whose reading stops at a byte has that fault
pub refused : (ds : List ℕ) (i n : ℕ) → i < length ds → number_after n (drop i ds) ≡ number_after 0 ds → (is_digit (get_or ds i 0) ≡ false) ⊎ (922337203685477580 < n)
    → Err (refusal_of ds) ≡ magnitude_of ds
refused [] i n within e h = absurd (omega arith)
refused (x ∷ xs) i n within e h =
    let stops = sym (number_after-whole x xs) ∙ sym e ∙ at_drop_more (number_after n) (x ∷ xs) i 0 within in
    sym (refused-by (list_all is_digit (x ∷ xs)) (place_value (x ∷ xs)) n (get_or (x ∷ xs) i 0) (drop (i + 1) (x ∷ xs)) stops h)

-- a text that is read to its end is the number read
pub read_whole : (ds : List ℕ) (i n : ℕ) → 0 < length ds → length ds ≤ i → number_after n (drop i ds) ≡ number_after 0 ds → n ≤ 9223372036854775809 → Ok n ≡ magnitude_of ds
read_whole [] i n some past e small = absurd (omega arith)
read_whole (x ∷ xs) i n some past e small =
    let whole : Some n ≡ unsigned_number (x ∷ xs) = sym (at_drop_all (number_after n) (x ∷ xs) i past) ∙ e ∙ number_after-whole x xs in
    let kept_is : kept (Some n) ≡ Ok n = grind (arith, nat_tests) in
    sym kept_is ∙ ap kept whole

tens : (k i : ℕ) → 10 ^ i ≤ 10 ^ (k + i)
tens zero i =
    let same : i ≡ 0 + i = omega arith in
    let reflexive : 10 ^ i ≤ 10 ^ i = omega arith in
    subst (λ m. 10 ^ i ≤ 10 ^ m) same reflexive
tens (suc k) i =
    let same : suc (k + i) ≡ suc k + i = omega arith in
    let fewer : 10 ^ i ≤ 10 ^ (k + i) = tens k i in
    let more : 10 ^ suc (k + i) ≡ 10 ^ (k + i) * 10 = pow-suc 10 (k + i) in
    let no_less : 10 ^ i ≤ 10 ^ suc (k + i) = omega (arith, fewer, more) in
    subst (λ m. 10 ^ i ≤ 10 ^ m) same no_less

-- what so many digits spell, or fewer
pub at_most : (most i n : ℕ) → i ≤ most → n < 10 ^ i → n < 10 ^ most
at_most most i n within small =
    let all : most - i + i ≡ most = omega (arith, within) in
    let no_less : 10 ^ i ≤ 10 ^ most = subst (λ k. 10 ^ i ≤ 10 ^ k) all (tens (most - i) i) in
    omega (arith, small, no_less)
