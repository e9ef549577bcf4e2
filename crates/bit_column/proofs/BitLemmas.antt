-- Binary digits and the numbers that they count.
use Rattle.std.proofs.Common.{◌≡◌, ◌≤◌, ◌<◌, ℕ, zero, suc, ◌+◌, ◌-◌, ◌*◌, ◌/◌, ◌%◌, ◌^◌, List, [], ◌∷◌, ◌++◌, length, take, drop, replicate, refl, sym, ap, ◌∙◌, arith, append-nil, length-append}
use Rattle.std.proofs.Math.Nat.{pow-suc}
use Rattle.std.proofs.lemmas.Nat.{pow_pos, shr-shr, mod-pow-add, field_of, mod_low, shr_high, mod_below}
use Rattle.std.proofs.Math.Seq.{take-add}
use Rattle.std.proofs.lemmas.List.{take_at, drop_at, take_all, drop_all, drop-drop}
use Rattle.std.proofs.lemmas.List.Concat.{flat_map-append}
use Rattle.std.proofs.lemmas.Nat.{mul-add-lt}
use Rattle.bit_column.specs.Bits.{bits, bits_of, number}

pub next : (k width : ℕ) → width + k * width ≡ suc k * width
next k width = grind arith

pub length-bits : (width n : ℕ) → length (bits width n) ≡ width
unfolding bits
length-bits zero n = refl
length-bits (suc width) n = ap suc (length-bits width n)

-- the first digits of a number are those of its higher part
pub bits-split : (a b n : ℕ) → bits (a + b) n ≡ bits a (n / 2 ^ b) ++ bits b n
unfolding bits
bits-split zero b n = ap (λ k. bits k n) (omega arith)
bits-split (suc a) b n =
    let e : suc a + b ≡ suc (a + b) = omega arith in
    let head : n / 2 ^ (a + b) ≡ n / 2 ^ b / 2 ^ a = ap (λ k. n / 2 ^ k) (omega arith) ∙ sym (shr-shr n b a) in
    ap (λ k. bits k n) e ∙ ap (λ d. d % 2 ∷ bits (a + b) n) head ∙ ap (λ ds. n / 2 ^ b / 2 ^ a % 2 ∷ ds) (bits-split a b n)

parity : (n j : ℕ) → n % 2 ^ (j + 1) % 2 ≡ n % 2
parity n j = omega (arith, mod-pow-add n j 1)

-- the last digits are those of the rest by a greater power
pub bits-low : (width m n : ℕ) → width ≤ m → bits width (n % 2 ^ m) ≡ bits width n
unfolding bits
bits-low zero m n h = refl
bits-low (suc width) m n h =
    let j = m - suc width in
    let e : m ≡ (j + 1) + width = omega arith in
    let digit : n % 2 ^ m / 2 ^ width % 2 ≡ n / 2 ^ width % 2 = ap (λ k. n % 2 ^ k / 2 ^ width % 2) e ∙ ap (λ d. d % 2) (field_of n (j + 1) width) ∙ parity (n / 2 ^ width) j in
    ap (λ d. d ∷ bits width (n % 2 ^ m)) digit ∙ ap (λ ds. n / 2 ^ width % 2 ∷ ds) (bits-low width m n (omega arith))

pub number-bits : (width n : ℕ) → number (bits width n) ≡ n % 2 ^ width
unfolding bits number
number-bits zero n = omega arith
number-bits (suc width) n =
    ap (λ k. n / 2 ^ width % 2 * 2 ^ k + number (bits width n)) (length-bits width n)
    ∙ ap (λ r. n / 2 ^ width % 2 * 2 ^ width + r) (number-bits width n)
    ∙ sym (mod-pow-add n 1 width)
    ∙ ap (λ k. n % 2 ^ k) (omega arith)

-- a number in so many digits and another after it
pub bits-join : (a b x y : ℕ) → y < 2 ^ b → bits (a + b) (x * 2 ^ b + y) ≡ bits a x ++ bits b y
bits-join a b x y h =
    let high : (x * 2 ^ b + y) / 2 ^ b ≡ x = shr_high x b y h in
    let low : bits b (x * 2 ^ b + y) ≡ bits b y = sym (bits-low b b (x * 2 ^ b + y) (omega arith)) ∙ ap (bits b) (mod_low x b y h) in
    bits-split a b (x * 2 ^ b + y) ∙ ap (λ n. bits a n ++ bits b (x * 2 ^ b + y)) high ∙ ap (λ ds. bits a x ++ ds) low

pub bits-none : (width : ℕ) → bits width 0 ≡ replicate width 0
unfolding bits
bits-none zero = refl
bits-none (suc width) =
    let digit : 0 / 2 ^ width % 2 ≡ 0 = omega (arith, shr_high 0 width 0 (pow_pos width)) in
    ap (λ d. d ∷ bits width 0) digit ∙ ap (λ ds. 0 ∷ ds) (bits-none width)

-- each is 0 or 1
abbrev pub AreBits : List ℕ → Type 0
AreBits [] = Unit {0}
AreBits (digit ∷ digits) = (digit < 2) × AreBits digits

pub AreBits-append : (xs ys : List ℕ) → AreBits xs → AreBits ys → AreBits (xs ++ ys)
AreBits-append [] ys h k = k
AreBits-append (x ∷ xs) ys h k = (h.0, AreBits-append xs ys h.1 k)

pub AreBits-take : (n : ℕ) (xs : List ℕ) → AreBits xs → AreBits (take n xs)
AreBits-take zero xs h = tt
AreBits-take (suc n) [] h = tt
AreBits-take (suc n) (x ∷ xs) h = (h.0, AreBits-take n xs h.1)

pub AreBits-drop : (n : ℕ) (xs : List ℕ) → AreBits xs → AreBits (drop n xs)
AreBits-drop zero xs h = h
AreBits-drop (suc n) [] h = tt
AreBits-drop (suc n) (x ∷ xs) h = AreBits-drop n xs h.1

pub AreBits-bits : (width n : ℕ) → AreBits (bits width n)
unfolding bits
AreBits-bits zero n = tt
AreBits-bits (suc width) n = (mod_below (n / 2 ^ width) 2 (omega arith), AreBits-bits width n)

pub AreBits-bits_of : (width : ℕ) (ns : List ℕ) → AreBits (bits_of width ns)
AreBits-bits_of width [] = tt
AreBits-bits_of width (n ∷ ns) = AreBits-append (bits width n) (bits_of width ns) (AreBits-bits width n) (AreBits-bits_of width ns)

pub AreBits-zeros : (n : ℕ) → AreBits (replicate n 0)
AreBits-zeros zero = tt
AreBits-zeros (suc n) = (omega arith, AreBits-zeros n)

pub number-below : (xs : List ℕ) → AreBits xs → number xs < 2 ^ length xs
unfolding number
number-below [] h = omega arith
number-below (x ∷ xs) h =
    let fits : x * 2 ^ length xs + number xs < 2 ^ length xs * 2 = mul-add-lt x (2 ^ length xs) (number xs) 2 h.0 (number-below xs h.1) in
    omega (arith, fits, pow-suc 2 (length xs))

-- digits are those of the number that they count
pub bits-number : (xs : List ℕ) → AreBits xs → bits (length xs) (number xs) ≡ xs
unfolding bits number
bits-number [] h = refl
bits-number (x ∷ xs) h =
    let n = length xs in
    let below : number xs < 2 ^ n = number-below xs h.1 in
    let high : (x * 2 ^ n + number xs) / 2 ^ n ≡ x = shr_high x n (number xs) below in
    let digit : (x * 2 ^ n + number xs) / 2 ^ n % 2 ≡ x = ap (λ d. d % 2) high ∙ omega (arith, h.0) in
    let low : bits n (x * 2 ^ n + number xs) ≡ xs = sym (bits-low n n (x * 2 ^ n + number xs) (omega arith)) ∙ ap (bits n) (mod_low x n (number xs) below) ∙ bits-number xs h.1 in
    ap (λ d. d ∷ bits n (x * 2 ^ n + number xs)) digit ∙ ap (λ ds. x ∷ ds) low

pub length-bits_of : (width : ℕ) (ns : List ℕ) → length (bits_of width ns) ≡ length ns * width
length-bits_of width [] = omega arith
length-bits_of width (n ∷ ns) =
    length-append (bits width n) (bits_of width ns) ∙ ap (λ k. k + length (bits_of width ns)) (length-bits width n) ∙ ap (λ k. width + k) (length-bits_of width ns) ∙ next (length ns) width

-- from the bits of numbers to those of the numbers after the first so many
pub drop-bits_of : (k width : ℕ) (ns : List ℕ) → drop (k * width) (bits_of width ns) ≡ bits_of width (drop k ns)
drop-bits_of zero width ns = let none : 0 * width ≡ 0 = omega arith in ap (λ m. drop m (bits_of width ns)) none
drop-bits_of (suc k) width [] = drop_all (suc k * width) [] (omega arith)
drop-bits_of (suc k) width (n ∷ ns) =
    ap (λ m. drop m (bits width n ++ bits_of width ns)) (sym (next k width))
    ∙ sym (drop-drop (k * width) width (bits width n ++ bits_of width ns))
    ∙ ap (drop (k * width)) (drop_at (bits width n) (bits_of width ns) width (length-bits width n))
    ∙ drop-bits_of k width ns

pub take-bits_of : (k width : ℕ) (ns : List ℕ) → take (k * width) (bits_of width ns) ≡ bits_of width (take k ns)
take-bits_of zero width ns = let none : 0 * width ≡ 0 = omega arith in ap (λ m. take m (bits_of width ns)) none
take-bits_of (suc k) width [] = take_all (suc k * width) [] (omega arith)
take-bits_of (suc k) width (n ∷ ns) =
    let all = bits width n ++ bits_of width ns in
    ap (λ m. take m all) (sym (next k width))
    ∙ take-add width (k * width) all
    ∙ ap (λ ds. ds ++ take (k * width) (drop width all)) (take_at (bits width n) (bits_of width ns) width (length-bits width n))
    ∙ ap (λ ds. bits width n ++ take (k * width) ds) (drop_at (bits width n) (bits_of width ns) width (length-bits width n))
    ∙ ap (λ ds. bits width n ++ ds) (take-bits_of k width ns)

-- the bits of one more number
pub bits_of-push : (width n : ℕ) (ns : List ℕ) → bits_of width (ns ++ n ∷ []) ≡ bits_of width ns ++ bits width n
bits_of-push width n ns = flat_map-append (bits width) ns (n ∷ []) ∙ ap (λ ds. bits_of width ns ++ ds) (append-nil (bits width n))
