-- Numbers read out of bytes.
use Rattle.std.proofs.Common.{◌≡◌, ◌≤◌, ◌<◌, All, ℕ, suc, zero, refl, ◌+◌, ◌-◌, ◌*◌, ◌/◌, ◌%◌, ◌^◌, List, [], ◌∷◌, ◌++◌, length, take, drop, get_or, sym, ap, ◌∙◌, subst, arith, append_assoc, append-nil, bit_or, length-take, length-drop}
use Rattle.std.proofs.lemmas.List.{take_more, drop_more, drop_all, drop-drop, drop-take, take-take, take_rest}
use Rattle.std.proofs.lemmas.List.FromFn.{map-range_with_len_more, length-map-range_with_len, get_or-map-range_with_len}
use Rattle.std.proofs.lemmas.List.Elements.{All-get_or}
use Rattle.std.proofs.lemmas.Nat.{mul-le}
use Rattle.bit_column.specs.Bits.{bits, bits_of, number, field, pieces}
use Rattle.bit_column.proofs.BitLemmas.{bits-join, bits_of-push, drop-bits_of, take-bits_of}
use Rattle.bit_column.proofs.Windows.{joined, field-window}

-- a window with one more byte
pub window-more : (bytes : List ℕ) (i window : ℕ) → i < length bytes → length bytes ≤ 8 → get_or bytes i 0 < 2 ^ 8 → bits_of 8 (take i bytes) ≡ bits (i * 8) window
    → bits_of 8 (take (i + 1) bytes) ≡ bits ((i + 1) * 8) (bit_or (window * 2 ^ 8 % 2 ^ 64) (get_or bytes i 0))
window-more bytes i window within at_most small is =
    let byte = get_or bytes i 0 in
    let e : i * 8 + 8 ≡ (i + 1) * 8 = omega arith in
    ap (bits_of 8) (take_more bytes i 0 within)
    ∙ bits_of-push 8 byte (take i bytes)
    ∙ ap (λ ds. ds ++ bits 8 byte) is
    ∙ sym (joined window (i * 8) byte 8 (omega arith) small)
    ∙ ap (λ k. bits k (bit_or (window * 2 ^ 8 % 2 ^ 64) byte)) e

-- bytes after a number, as one number in base 256
following : ℕ → List ℕ → ℕ
following n [] = n
following n (byte ∷ bytes) = following (n * 2 ^ 8 + byte) bytes

AreBytes : List ℕ → Type 0
AreBytes [] = Unit {0}
AreBytes (byte ∷ bytes) = (byte < 2 ^ 8) × AreBytes bytes

bits-following : (k n : ℕ) (bytes : List ℕ) → AreBytes bytes → bits (k * 8) n ++ bits_of 8 bytes ≡ bits ((k + length bytes) * 8) (following n bytes)
unfolding following AreBytes
bits-following k n [] h = append-nil (bits (k * 8) n) ∙ ap (λ j. bits j n) (omega arith)
bits-following k n (byte ∷ bytes) h =
    let e : k * 8 + 8 ≡ (k + 1) * 8 = omega arith in
    let more : (k + 1 + length bytes) * 8 ≡ (k + suc (length bytes)) * 8 = omega arith in
    sym (append_assoc (bits (k * 8) n) (bits 8 byte) (bits_of 8 bytes))
    ∙ ap (λ ds. ds ++ bits_of 8 bytes) (sym (bits-join (k * 8) 8 n byte h.0))
    ∙ ap (λ j. bits j (n * 2 ^ 8 + byte) ++ bits_of 8 bytes) e
    ∙ bits-following (k + 1) (n * 2 ^ 8 + byte) bytes h.1
    ∙ ap (λ j. bits j (following (n * 2 ^ 8 + byte) bytes)) more

-- a list of eight
eight_of : (xs : List ℕ) → length xs ≡ 8
    → xs ≡ get_or xs 0 0 ∷ get_or xs 1 0 ∷ get_or xs 2 0 ∷ get_or xs 3 0 ∷ get_or xs 4 0 ∷ get_or xs 5 0 ∷ get_or xs 6 0 ∷ get_or xs 7 0 ∷ []
eight_of xs e =
    drop_more xs 0 0 (omega arith) ∙ ap (λ r. get_or xs 0 0 ∷ r)
    (drop_more xs 1 0 (omega arith) ∙ ap (λ r. get_or xs 1 0 ∷ r)
    (drop_more xs 2 0 (omega arith) ∙ ap (λ r. get_or xs 2 0 ∷ r)
    (drop_more xs 3 0 (omega arith) ∙ ap (λ r. get_or xs 3 0 ∷ r)
    (drop_more xs 4 0 (omega arith) ∙ ap (λ r. get_or xs 4 0 ∷ r)
    (drop_more xs 5 0 (omega arith) ∙ ap (λ r. get_or xs 5 0 ∷ r)
    (drop_more xs 6 0 (omega arith) ∙ ap (λ r. get_or xs 6 0 ∷ r)
    (drop_more xs 7 0 (omega arith) ∙ ap (λ r. get_or xs 7 0 ∷ r) (drop_all 8 xs (omega arith)))))))))

-- the number of eight bytes has their bits
pub bits-eight : (n : ℕ) (xs : List ℕ) → length xs ≡ 8 → ((i : ℕ) → get_or xs i 0 < 2 ^ 8)
    → n ≡ get_or xs 0 0 * 256 ^ 7 + get_or xs 1 0 * 256 ^ 6 + get_or xs 2 0 * 256 ^ 5 + get_or xs 3 0 * 256 ^ 4 + get_or xs 4 0 * 256 ^ 3 + get_or xs 5 0 * 256 ^ 2 + get_or xs 6 0 * 256 + get_or xs 7 0
    → bits_of 8 xs ≡ bits 64 n
unfolding following AreBytes bits
bits-eight n xs e small is =
    let ys : List ℕ = get_or xs 0 0 ∷ get_or xs 1 0 ∷ get_or xs 2 0 ∷ get_or xs 3 0 ∷ get_or xs 4 0 ∷ get_or xs 5 0 ∷ get_or xs 6 0 ∷ get_or xs 7 0 ∷ [] in
    let bytes : AreBytes ys = (small 0, (small 1, (small 2, (small 3, (small 4, (small 5, (small 6, (small 7, tt)))))))) in
    let horner : following 0 ys ≡ n = omega arith in
    ap (bits_of 8) (eight_of xs e) ∙ bits-following 0 0 ys bytes ∙ ap (bits 64) horner

-- the byte after so many has its bits
pub bits-one : (at : ℕ) (xs : List ℕ) → at < length xs → bits 8 (get_or xs at 0) ≡ bits_of 8 (take 1 (drop at xs))
bits-one at xs within = sym (ap (λ ds. bits_of 8 (take 1 ds)) (drop_more xs at 0 within) ∙ append-nil (bits 8 (get_or xs at 0)))

-- four bytes after so many
pub four_at : (xs : List ℕ) (at : ℕ) → at + 4 ≤ length xs → take 4 (drop at xs) ≡ get_or xs at 0 ∷ get_or xs (at + 1) 0 ∷ get_or xs (at + 2) 0 ∷ get_or xs (at + 3) 0 ∷ []
four_at xs at within =
    let second : at + 1 + 1 ≡ at + 2 = omega arith in
    let third : at + 2 + 1 ≡ at + 3 = omega arith in
    ap (take 4) (drop_more xs at 0 (omega (arith, within)) ∙ ap (λ r. get_or xs at 0 ∷ r)
    (drop_more xs (at + 1) 0 (omega (arith, within)) ∙ ap (λ (k : ℕ). get_or xs (at + 1) 0 ∷ drop k xs) second ∙ ap (λ r. get_or xs (at + 1) 0 ∷ r)
    (drop_more xs (at + 2) 0 (omega (arith, within)) ∙ ap (λ (k : ℕ). get_or xs (at + 2) 0 ∷ drop k xs) third ∙ ap (λ r. get_or xs (at + 2) 0 ∷ r)
    (drop_more xs (at + 3) 0 (omega (arith, within))))))

-- the number of four bytes has their bits
pub bits-four : (n at : ℕ) (xs : List ℕ) → at + 4 ≤ length xs → ((i : ℕ) → get_or xs i 0 < 2 ^ 8)
    → n ≡ get_or xs at 0 * 256 ^ 3 + get_or xs (at + 1) 0 * 256 ^ 2 + get_or xs (at + 2) 0 * 256 + get_or xs (at + 3) 0
    → bits 32 n ≡ bits_of 8 (take 4 (drop at xs))
unfolding following AreBytes bits
bits-four n at xs within small is =
    let ys : List ℕ = get_or xs at 0 ∷ get_or xs (at + 1) 0 ∷ get_or xs (at + 2) 0 ∷ get_or xs (at + 3) 0 ∷ [] in
    let bytes : AreBytes ys = (small at, (small (at + 1), (small (at + 2), (small (at + 3), tt)))) in
    let horner : following 0 ys ≡ n = omega arith in
    sym (ap (bits_of 8) (four_at xs at within) ∙ bits-following 0 0 ys bytes ∙ ap (bits 32) horner)

-- three bytes after so many
three_at : (xs : List ℕ) (at : ℕ) → at + 3 ≤ length xs → take 3 (drop at xs) ≡ get_or xs at 0 ∷ get_or xs (at + 1) 0 ∷ get_or xs (at + 2) 0 ∷ []
three_at xs at within =
    let second : at + 1 + 1 ≡ at + 2 = omega arith in
    ap (take 3) (drop_more xs at 0 (omega (arith, within)) ∙ ap (λ r. get_or xs at 0 ∷ r)
    (drop_more xs (at + 1) 0 (omega (arith, within)) ∙ ap (λ (k : ℕ). get_or xs (at + 1) 0 ∷ drop k xs) second ∙ ap (λ r. get_or xs (at + 1) 0 ∷ r)
    (drop_more xs (at + 2) 0 (omega (arith, within)))))

-- the number of three bytes has their bits
pub bits-three : (n at : ℕ) (xs : List ℕ) → at + 3 ≤ length xs → ((i : ℕ) → get_or xs i 0 < 2 ^ 8)
    → n ≡ get_or xs at 0 * 256 ^ 2 + get_or xs (at + 1) 0 * 256 + get_or xs (at + 2) 0
    → bits 24 n ≡ bits_of 8 (take 3 (drop at xs))
unfolding following AreBytes bits
bits-three n at xs within small is =
    let ys : List ℕ = get_or xs at 0 ∷ get_or xs (at + 1) 0 ∷ get_or xs (at + 2) 0 ∷ [] in
    let bytes : AreBytes ys = (small at, (small (at + 1), (small (at + 2), tt))) in
    let horner : following 0 ys ≡ n = omega arith in
    sym (ap (bits_of 8) (three_at xs at within) ∙ bits-following 0 0 ys bytes ∙ ap (bits 24) horner)

-- eight bytes after so many
eight_at : (xs : List ℕ) (at : ℕ) → at + 8 ≤ length xs → take 8 (drop at xs) ≡ get_or xs at 0 ∷ get_or xs (at + 1) 0 ∷ get_or xs (at + 2) 0 ∷ get_or xs (at + 3) 0 ∷ get_or xs (at + 4) 0 ∷ get_or xs (at + 5) 0 ∷ get_or xs (at + 6) 0 ∷ get_or xs (at + 7) 0 ∷ []
eight_at xs at within =
    let e2 : at + 1 + 1 ≡ at + 2 = omega arith in
    let e3 : at + 2 + 1 ≡ at + 3 = omega arith in
    let e4 : at + 3 + 1 ≡ at + 4 = omega arith in
    let e5 : at + 4 + 1 ≡ at + 5 = omega arith in
    let e6 : at + 5 + 1 ≡ at + 6 = omega arith in
    let e7 : at + 6 + 1 ≡ at + 7 = omega arith in
    ap (take 8) (drop_more xs at 0 (omega (arith, within)) ∙ ap (λ r. get_or xs at 0 ∷ r)
    (drop_more xs (at + 1) 0 (omega (arith, within)) ∙ ap (λ (k : ℕ). get_or xs (at + 1) 0 ∷ drop k xs) e2 ∙ ap (λ r. get_or xs (at + 1) 0 ∷ r)
    (drop_more xs (at + 2) 0 (omega (arith, within)) ∙ ap (λ (k : ℕ). get_or xs (at + 2) 0 ∷ drop k xs) e3 ∙ ap (λ r. get_or xs (at + 2) 0 ∷ r)
    (drop_more xs (at + 3) 0 (omega (arith, within)) ∙ ap (λ (k : ℕ). get_or xs (at + 3) 0 ∷ drop k xs) e4 ∙ ap (λ r. get_or xs (at + 3) 0 ∷ r)
    (drop_more xs (at + 4) 0 (omega (arith, within)) ∙ ap (λ (k : ℕ). get_or xs (at + 4) 0 ∷ drop k xs) e5 ∙ ap (λ r. get_or xs (at + 4) 0 ∷ r)
    (drop_more xs (at + 5) 0 (omega (arith, within)) ∙ ap (λ (k : ℕ). get_or xs (at + 5) 0 ∷ drop k xs) e6 ∙ ap (λ r. get_or xs (at + 5) 0 ∷ r)
    (drop_more xs (at + 6) 0 (omega (arith, within)) ∙ ap (λ (k : ℕ). get_or xs (at + 6) 0 ∷ drop k xs) e7 ∙ ap (λ r. get_or xs (at + 6) 0 ∷ r)
    (drop_more xs (at + 7) 0 (omega (arith, within))))))))))

-- the number of eight bytes has their bits
pub bits-eight_at : (n at : ℕ) (xs : List ℕ) → at + 8 ≤ length xs → ((i : ℕ) → get_or xs i 0 < 2 ^ 8)
    → n ≡ get_or xs at 0 * 256 ^ 7 + get_or xs (at + 1) 0 * 256 ^ 6 + get_or xs (at + 2) 0 * 256 ^ 5 + get_or xs (at + 3) 0 * 256 ^ 4 + get_or xs (at + 4) 0 * 256 ^ 3 + get_or xs (at + 5) 0 * 256 ^ 2 + get_or xs (at + 6) 0 * 256 + get_or xs (at + 7) 0
    → bits_of 8 (take 8 (drop at xs)) ≡ bits 64 n
unfolding following AreBytes bits
bits-eight_at n at xs within small is =
    let ys : List ℕ = get_or xs at 0 ∷ get_or xs (at + 1) 0 ∷ get_or xs (at + 2) 0 ∷ get_or xs (at + 3) 0 ∷ get_or xs (at + 4) 0 ∷ get_or xs (at + 5) 0 ∷ get_or xs (at + 6) 0 ∷ get_or xs (at + 7) 0 ∷ [] in
    let bytes : AreBytes ys = (small at, (small (at + 1), (small (at + 2), (small (at + 3), (small (at + 4), (small (at + 5), (small (at + 6), (small (at + 7), tt)))))))) in
    let horner : following 0 ys ≡ n = omega arith in
    ap (bits_of 8) (eight_at xs at within) ∙ bits-following 0 0 ys bytes ∙ ap (bits 64) horner

-- the digits after a number's last one do not count
pub field-front : (width first n : ℕ) (digits : List ℕ) → first + width ≤ n → field width first (take n digits) ≡ field width first digits
unfolding field
field-front width first n digits h =
    let e : n ≡ first + (n - first) = omega arith in
    ap (λ k. number (take width (drop first (take k digits)))) e
    ∙ ap (λ ds. number (take width ds)) (drop-take first (n - first) digits)
    ∙ ap number (take-take width (n - first) (drop first digits) (omega arith))

pub field-following : (width first n : ℕ) (digits : List ℕ) → field width first (drop n digits) ≡ field width (n + first) digits
unfolding field
field-following width first n digits = ap (λ ds. number (take width ds)) (drop-drop first n digits)

-- a number stands in the bytes that have its digits
pub field-bytes : (width bit first count : ℕ) (bytes : List ℕ) → first * 8 ≤ bit → bit + width ≤ (first + count) * 8
    → field width (bit - first * 8) (bits_of 8 (take count (drop first bytes))) ≡ field width bit (bits_of 8 bytes)
field-bytes width bit first count bytes begins ends =
    let at = bit - first * 8 in
    let e : first * 8 + at ≡ bit = omega arith in
    ap (field width at) (sym (take-bits_of count 8 (drop first bytes)))
    ∙ field-front width at (count * 8) (bits_of 8 (drop first bytes)) (omega arith)
    ∙ ap (field width at) (sym (drop-bits_of first 8 bytes))
    ∙ field-following width at (first * 8) (bits_of 8 bytes)
    ∙ ap (λ b. field width b (bits_of 8 bytes)) e

-- how many of the eight bytes there are
pub head-long : (bytes : List ℕ) (bit width : ℕ) → width ≤ 32 → bit + width ≤ 8 * length bytes → bit % 8 + width ≤ 8 * length (take 8 (drop (bit / 8) bytes))
head-long bytes bit width small held = omega (arith, length-take 8 (drop (bit / 8) bytes), length-drop (bit / 8) bytes)

pub head-short : (bytes : List ℕ) → length (take 8 bytes) ≤ 8
head-short bytes = omega (arith, length-take 8 bytes)

-- a number in the window of the bytes from the one where it begins
pub field-in : (bytes : List ℕ) (bit width window : ℕ) → width ≤ 32 → bit + width ≤ 8 * length bytes
    → bits_of 8 (take 8 (drop (bit / 8) bytes)) ≡ bits (length (take 8 (drop (bit / 8) bytes)) * 8) window
    → window / 2 ^ (8 * length (take 8 (drop (bit / 8) bytes)) - bit % 8 - width) % 2 ^ width ≡ field width bit (bits_of 8 bytes)
field-in bytes bit width window small held is =
    let head = take 8 (drop (bit / 8) bytes) in
    let lengths : bit % 8 + width ≤ 8 * length head = head-long bytes bit width small held in
    let rest = 8 * length head - bit % 8 - width in
    let e : length head * 8 ≡ bit % 8 + width + rest = omega (arith, lengths) in
    let first : bit - bit / 8 * 8 ≡ bit % 8 = omega arith in
    sym (field-window width (bit % 8) rest window (bits_of 8 head) (is ∙ ap (λ k. bits k window) e))
    ∙ ap (λ b. field width b (bits_of 8 head)) (sym first)
    ∙ field-bytes width bit (bit / 8) 8 bytes (omega arith) (omega arith)

pub field-found : (bytes head : List ℕ) (bit width window result : ℕ) → width ≤ 32 → bit + width ≤ 8 * length bytes
    → head ≡ take 8 (take (length bytes - bit / 8) (drop (bit / 8) bytes))
    → bits_of 8 head ≡ bits (length head * 8) window
    → result ≡ window / 2 ^ (8 * length head - bit % 8 - width) % 2 ^ width
    → result ≡ field width bit (bits_of 8 bytes)
field-found bytes head bit width window result small held front is value =
    let e : head ≡ take 8 (drop (bit / 8) bytes) = front ∙ ap (take 8) (take_rest bytes (bit / 8)) in
    let there : bits_of 8 (take 8 (drop (bit / 8) bytes)) ≡ bits (length (take 8 (drop (bit / 8) bytes)) * 8) window = subst (λ xs. bits_of 8 xs ≡ bits (length xs * 8) window) e is in
    value
    ∙ ap (λ xs. window / 2 ^ (8 * length xs - bit % 8 - width) % 2 ^ width) e
    ∙ field-in bytes bit width window small held there

-- the number of four bytes is a field of 32 digits
pub field-word : (bytes : List ℕ) (i word : ℕ) → word < 2 ^ 32 → 4 * i + 4 ≤ length bytes → bits 32 word ≡ bits_of 8 (take 4 (drop (4 * i) bytes)) → word ≡ field 32 (0 + i * 32) (bits_of 8 bytes)
field-word bytes i word small held is =
    let whole : word ≡ word / 2 ^ 0 % 2 ^ 32 = omega arith in
    let at : i * 32 - 4 * i * 8 ≡ 0 = omega arith in
    let start : i * 32 ≡ 0 + i * 32 = omega arith in
    whole ∙ sym (field-window 32 0 0 word (bits_of 8 (take 4 (drop (4 * i) bytes))) (sym is))
    ∙ ap (λ b. field 32 b (bits_of 8 (take 4 (drop (4 * i) bytes)))) (sym at)
    ∙ field-bytes 32 (i * 32) (4 * i) 4 bytes (omega arith) (omega arith)
    ∙ ap (λ b. field 32 b (bits_of 8 bytes)) start

pub field-far : (i width number : ℕ) → i < number → number < 2 ^ 32 → width ≤ 32 → i * width ≤ 2 ^ 37
field-far i width number within at_most small = omega (arith, mul-le i width (2 ^ 32) 32 (omega arith) small)

-- one more piece
pub pieces-more : (width first i : ℕ) (digits : List ℕ) → pieces width first (i + 1) digits ≡ pieces width first i digits ++ field width (first + i * width) digits ∷ []
pieces-more width first i digits = map-range_with_len_more (λ piece. field width (first + piece * width) digits) 0 i i (omega arith)

pub pieces-below : (width first count i limit : ℕ) (digits : List ℕ) → i < count → All (λ id. id < limit) (pieces width first count digits) → field width (first + i * width) digits < limit
pieces-below width first count i limit digits within all =
    let f : ℕ → ℕ = λ piece. field width (first + piece * width) digits in
    let lengths : length (pieces width first count digits) ≡ count = length-map-range_with_len f 0 count in
    subst (λ n. n < limit) (get_or-map-range_with_len f 0 count i i 0 within (omega arith)) (All-get_or (λ id. id < limit) (pieces width first count digits) i 0 (omega arith) all)

-- ---- a field in the first bytes

front-field : (width bit count : ℕ) (bytes : List ℕ) → bit + width ≤ 8 * count → field width bit (bits_of 8 (take count bytes)) ≡ field width bit (bits_of 8 bytes)
front-field width bit count bytes held =
    let start : bit ≡ bit - 0 * 8 = omega arith in
    ap (λ b. field width b (bits_of 8 (take count bytes))) start ∙ field-bytes width bit 0 count bytes (omega arith) (omega arith)

same-front : (width bit count : ℕ) (some bytes : List ℕ) → bit + width ≤ 8 * count → take count some ≡ take count bytes → field width bit (bits_of 8 some) ≡ field width bit (bits_of 8 bytes)
same-front width bit count some bytes held same =
    sym (front-field width bit count some held) ∙ ap (λ part. field width bit (bits_of 8 part)) same ∙ front-field width bit count bytes held

first-end : (width bit last : ℕ) (bytes : List ℕ) → 2 ≤ length bytes → bit + width ≤ 8 * 1 → field width bit (bits_of 8 (get_or bytes 0 0 ∷ last ∷ [])) ≡ field width bit (bits_of 8 bytes)
first-end width bit last [] lengths held = absurd (omega (arith, lengths))
first-end width bit last (a ∷ bytes) lengths held = same-front width bit 1 (a ∷ last ∷ []) (a ∷ bytes) held refl

both-ends : (width bit : ℕ) (bytes : List ℕ) → 2 ≤ length bytes → bit + width ≤ 8 * 2 → field width bit (bits_of 8 (get_or bytes 0 0 ∷ get_or bytes 1 0 ∷ [])) ≡ field width bit (bits_of 8 bytes)
both-ends width bit [] lengths held = absurd (omega (arith, lengths))
both-ends width bit (a ∷ []) lengths held = absurd (omega (arith, lengths))
both-ends width bit (a ∷ b ∷ bytes) lengths held = same-front width bit 2 (a ∷ b ∷ []) (a ∷ b ∷ bytes) held refl

-- a field in the first byte or in two is found by the first and the last of them
pub ends_found : (width bit size : ℕ) (bytes : List ℕ) → 1 ≤ width → size ≤ 2 → 2 ≤ length bytes → bit + width ≤ 8 * size
    → field width bit (bits_of 8 (get_or bytes 0 0 ∷ get_or bytes (size - 1) 0 ∷ [])) ≡ field width bit (bits_of 8 bytes)
ends_found width bit zero bytes wide at_most lengths held = absurd (omega (arith, wide, held))
ends_found width bit (suc zero) bytes wide at_most lengths held = first-end width bit (get_or bytes (suc zero - 1) 0) bytes lengths held
ends_found width bit (suc (suc zero)) bytes wide at_most lengths held =
    let last : suc (suc zero) - 1 ≡ 1 = omega arith in
    ap (λ i. field width bit (bits_of 8 (get_or bytes 0 0 ∷ get_or bytes i 0 ∷ []))) last ∙ both-ends width bit bytes lengths held
ends_found width bit (suc (suc (suc n))) bytes wide at_most lengths held = absurd (omega (arith, at_most))
