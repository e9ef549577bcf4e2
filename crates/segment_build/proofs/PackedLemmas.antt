-- Packed ids are the forward index that has them.
use Rattle.std.proofs.Common.{◌≡◌, ◌∙◌, ◌<◌, ◌≤◌, ◌+◌, ◌-◌, ◌*◌, ◌/◌, ◌%◌, ◌^◌, ℕ, zero, suc, List, [], ◌∷◌, ◌++◌, length, take, drop, get_or, replicate, refl, sym, ap, arith, append_assoc, length-append, length-take, take-append-drop}
use Rattle.std.proofs.lemmas.List.{drop_all, drop_at, take_all, take_more}
use Rattle.std.proofs.Math.Pow.{pow_mono}
use Rattle.bit_column.specs.Bits.{bits, bits_of, pieces}
use Rattle.bit_column.specs.Column.{ids_between, spelled}
use Rattle.bit_column.proofs.BitLemmas.{AreBits-bits_of, bits-low, bits-none, bits-split, bits_of-push, length-bits, length-bits_of}
use Rattle.bit_column.proofs.Spelling.{bits-pieces, written}

-- the last bits of bytes are those of the last one
last_bits : (bytes : List ℕ) (n f : ℕ) → 0 < length bytes → n + f ≡ 8 * length bytes → f ≤ 8 → drop n (bits_of 8 bytes) ≡ bits f (get_or bytes (length bytes - 1) 0)
last_bits bytes n f some total at_most =
    let m = length bytes - 1 in
    let last = get_or bytes m 0 in
    let front = take m bytes in
    let lt : m < length bytes = omega (arith, some) in
    let whole : bytes ≡ front ++ last ∷ [] = sym (take_all (m + 1) bytes (omega (arith, some))) ∙ take_more bytes m 0 lt in
    let size : length front ≡ m = omega (arith, length-take m bytes, lt) in
    let first = bits (8 - f) (last / 2 ^ f) in
    let e : 8 ≡ (8 - f) + f = omega (arith, at_most) in
    let eight : bits 8 last ≡ first ++ bits f last = ap (λ k. bits k last) e ∙ bits-split (8 - f) f last in
    let all : bits_of 8 bytes ≡ (bits_of 8 front ++ first) ++ bits f last =
    ap (bits_of 8) whole ∙ bits_of-push 8 last front ∙ ap (λ ds. bits_of 8 front ++ ds) eight ∙ sym (append_assoc (bits_of 8 front) first (bits f last)) in
    let long : length (bits_of 8 front ++ first) ≡ n = omega (arith, length-append (bits_of 8 front) first, length-bits_of 8 front, length-bits (8 - f) (last / 2 ^ f), size, total, at_most, some) in
    ap (drop n) all ∙ drop_at (bits_of 8 front ++ first) (bits f last) n long

-- a number without a rest by a power has zeros for its last bits
zero_bits : (n f : ℕ) → n % 2 ^ f ≡ 0 → bits f n ≡ replicate f 0
zero_bits n f none = sym (bits-low f f n (omega arith)) ∙ ap (bits f) none ∙ bits-none f

shifted : (f : ℕ) → f < 8 → 1 * 2 ^ f % 256 ≡ 2 ^ f
shifted f lt =
    let most : 2 ^ f ≤ 2 ^ 7 = pow_mono {i = f} {j = 7} (omega (arith, lt)) in
    let seven : 2 ^ 7 ≡ 128 = refl in
    omega (arith, most, seven)

-- bytes with all bits of so many ids and less than eight zeros after them are these ids as they are
-- written
spelled_again : (bytes : List ℕ) (width rows zeros : ℕ) → ((i : ℕ) → i < length bytes → get_or bytes i 0 < 2 ^ 8) → rows * width ≤ 8 * length bytes → zeros < 8
    → drop (rows * width) (bits_of 8 bytes) ≡ replicate zeros 0 → bytes ≡ spelled width (ids_between width 0 rows bytes)
spelled_again bytes width rows zeros small held few ends =
    let digits = bits_of 8 bytes in
    let ids = ids_between width 0 rows bytes in
    let long : rows * width ≤ length digits = omega (arith, held, length-bits_of 8 bytes) in
    let none : 0 * width ≡ 0 = omega arith in
    let all : rows - 0 ≡ rows = omega arith in
    let front : bits_of width ids ≡ take (rows * width) digits = (λ i. bits_of width (pieces width (none i) (all i) digits)) ∙ bits-pieces width rows digits (AreBits-bits_of 8 bytes) long in
    let is : digits ≡ bits_of width ids ++ replicate zeros 0 = sym (take-append-drop (rows * width) digits) ∙ (λ i. sym front i ++ ends i) in
    written [] bytes ids width zeros refl small few is

pub spelled_whole : (bytes : List ℕ) (width rows : ℕ) → ((i : ℕ) → i < length bytes → get_or bytes i 0 < 2 ^ 8) → rows * width ≡ 8 * length bytes → bytes ≡ spelled width (ids_between width 0 rows bytes)
spelled_whole bytes width rows small is =
    spelled_again bytes width rows 0 small (omega (arith, is)) (omega arith) (drop_all (rows * width) (bits_of 8 bytes) (omega (arith, is, length-bits_of 8 bytes)))

pub spelled_low : (bytes : List ℕ) (width rows f : ℕ) → ((i : ℕ) → i < length bytes → get_or bytes i 0 < 2 ^ 8) → 0 < length bytes → rows * width + f ≡ 8 * length bytes → f < 8
    → get_or bytes (length bytes - 1) 0 % (1 * 2 ^ f % 256) ≡ 0 → bytes ≡ spelled width (ids_between width 0 rows bytes)
spelled_low bytes width rows f small some total lt none =
    let last = get_or bytes (length bytes - 1) 0 in
    spelled_again bytes width rows f small (omega (arith, total)) lt
    (last_bits bytes (rows * width) f some total (omega (arith, lt)) ∙ zero_bits last f (ap (λ p. last % p) (sym (shifted f lt)) ∙ none))

-- the item that is left first is the one at the place
pub left_first : {A : Type 0} (xs ys : List A) (y : A) (at : ℕ) → drop at xs ≡ y ∷ ys → y ≡ get_or xs at y
left_first [] ys y zero is = absurd cc
left_first [] ys y (suc at) is = absurd cc
left_first (x ∷ xs) ys y zero is = let e : y ≡ x = cc in e
left_first (x ∷ xs) ys y (suc at) is = left_first xs ys y at is
