-- What is written is read back.
use Rattle.std.proofs.Common.{◌≡◌, ◌≤◌, ◌<◌, ℕ, zero, suc, ◌+◌, ◌-◌, ◌*◌, ◌^◌, List, ◌∷◌, ◌++◌, All, length, take, drop, get_or, map, replicate, refl, sym, ap, ◌∙◌, subst, arith, append_assoc, length-append, length-take, length-drop, take-append-drop, mod-eq_of_lt}
use Rattle.std.proofs.Math.Seq.{take-add, take-append-add}
use Rattle.std.proofs.lemmas.List.{take_at, take_all, drop_more, drop-drop, drop-append-le, get_or-drop, take-replicate, replicate-append-replicate, append_cancel_left, length-replicate}
use Rattle.std.proofs.lemmas.List.FromFn.{length-map-range_with_len}
use Rattle.std.proofs.lemmas.List.Concat.{flat_map-append}
use Rattle.std.proofs.lemmas.List.Elements.{All-get_or, All-take, All-drop, All-same}
use Rattle.std.proofs.lemmas.Nat.{mul-le}
use Rattle.std.specs.List.{range_with_len}
use Rattle.bit_column.specs.Bits.{bits, bits_of, number, field, pieces}
use Rattle.bit_column.specs.Column.{bytes_for, spelled, id_at, ids_between}
use Rattle.bit_column.specs.Sections.{Readable}
use Rattle.bit_column.proofs.BitLemmas.{next, length-bits, length-bits_of, drop-bits_of, number-bits, AreBits, AreBits-append, AreBits-bits_of, AreBits-zeros, AreBits-take, AreBits-drop, bits-number}

pub below-all : (width : ℕ) (ns : List ℕ) → All (λ n. n < 2 ^ width) ns → (i : ℕ) → i < length ns → get_or ns i 0 < 2 ^ width
below-all width ns h i within = All-get_or (λ n. n < 2 ^ width) ns i 0 within h

-- the number of a piece is the number whose bits are there
pub field-of : (width i : ℕ) (ns tail : List ℕ) → i < length ns → get_or ns i 0 < 2 ^ width → field width (i * width) (bits_of width ns ++ tail) ≡ get_or ns i 0
unfolding field
field-of width i ns tail within small =
    let n = get_or ns i 0 in
    let rest = bits_of width (drop (i + 1) ns) in
    let fits : i * width ≤ length (bits_of width ns) = omega (arith, length-bits_of width ns, mul-le i width (length ns) width (omega arith) (omega arith)) in
    ap (λ ds. number (take width ds)) (drop-append-le (i * width) (bits_of width ns) tail fits)
    ∙ ap (λ ds. number (take width (ds ++ tail))) (drop-bits_of i width ns ∙ ap (bits_of width) (drop_more ns i 0 within))
    ∙ ap (λ ds. number (take width ds)) (append_assoc (bits width n) rest tail)
    ∙ ap number (take_at (bits width n) (rest ++ tail) width (length-bits width n))
    ∙ number-bits width n
    ∙ mod-eq_of_lt small

pieces-of-from : (width first a count : ℕ) (ns tail : List ℕ) → first + a + count ≤ length ns → ((i : ℕ) → i < length ns → get_or ns i 0 < 2 ^ width)
    → map (λ piece. field width (first * width + piece * width) (bits_of width ns ++ tail)) (range_with_len a count) ≡ take count (drop (first + a) ns)
pieces-of-from width first a zero ns tail within small = refl
pieces-of-from width first a (suc count) ns tail within small =
    let f : ℕ → ℕ = λ piece. field width (first * width + piece * width) (bits_of width ns ++ tail) in
    let at : first * width + a * width ≡ (first + a) * width = grind arith in
    let here : f a ≡ get_or ns (first + a) 0 = ap (λ b. field width b (bits_of width ns ++ tail)) at ∙ field-of width (first + a) ns tail (omega arith) (small (first + a) (omega arith)) in
    let on : first + (a + 1) ≡ first + a + 1 = omega arith in
    ap (λ n. n ∷ map f (range_with_len (a + 1) count)) here
    ∙ ap (λ rest. get_or ns (first + a) 0 ∷ rest) (pieces-of-from width first (a + 1) count ns tail (omega arith) small ∙ ap (λ k. take count (drop k ns)) on)
    ∙ ap (take (suc count)) (sym (drop_more ns (first + a) 0 (omega arith)))

-- the numbers of pieces are the numbers whose bits are there
pub pieces-of : (width first count : ℕ) (ns tail : List ℕ) → first + count ≤ length ns → ((i : ℕ) → i < length ns → get_or ns i 0 < 2 ^ width)
    → pieces width (first * width) count (bits_of width ns ++ tail) ≡ take count (drop first ns)
pieces-of width first count ns tail within small =
    let e : first + 0 ≡ first = omega arith in
    pieces-of-from width first 0 count ns tail (omega arith) small ∙ ap (λ k. take count (drop k ns)) e

bits-pieces-from : (width a count : ℕ) (digits : List ℕ) → AreBits digits → (a + count) * width ≤ length digits
    → bits_of width (map (λ piece. field width (0 + piece * width) digits) (range_with_len a count)) ≡ take (count * width) (drop (a * width) digits)
unfolding field
bits-pieces-from width a zero digits h lengths = let none : 0 ≡ 0 * width = omega arith in ap (λ k. take k (drop (a * width) digits)) none
bits-pieces-from width a (suc count) digits h lengths =
    let rest = drop (a * width) digits in
    let more = map (λ piece. field width (0 + piece * width) digits) (range_with_len (a + 1) count) in
    let here = take width rest in
    let e : 0 + a * width ≡ a * width = omega arith in
    let all : (a + suc count) * width ≡ a * width + (width + count * width) = grind arith in
    let full : length here ≡ width = omega (arith, length-take width rest, length-drop (a * width) digits) in
    let one : bits width (number here) ≡ here = ap (λ k. bits k (number here)) (sym full) ∙ bits-number here (AreBits-take width rest (AreBits-drop (a * width) digits h)) in
    let following : a * width + width ≡ (a + 1) * width = grind arith in
    let same : (a + 1 + count) * width ≡ (a + suc count) * width = grind arith in
    ap (λ b. bits width (number (take width (drop b digits))) ++ bits_of width more) e
    ∙ ap (λ ds. ds ++ bits_of width more) one
    ∙ ap (λ ds. here ++ ds) (bits-pieces-from width (a + 1) count digits h (omega (arith, same)))
    ∙ ap (λ k. here ++ take (count * width) (drop k digits)) (sym following)
    ∙ ap (λ ds. here ++ take (count * width) ds) (sym (drop-drop width (a * width) digits))
    ∙ sym (take-add width (count * width) rest)
    ∙ ap (λ k. take k rest) (next count width)

-- the bits of the numbers of pieces are the digits
pub bits-pieces : (width count : ℕ) (digits : List ℕ) → AreBits digits → count * width ≤ length digits → bits_of width (pieces width 0 count digits) ≡ take (count * width) digits
bits-pieces width count digits h lengths =
    let e : (0 + count) * width ≡ count * width = grind arith in
    let none : 0 * width ≡ 0 = omega arith in
    bits-pieces-from width 0 count digits h (omega (arith, e)) ∙ ap (λ k. take (count * width) (drop k digits)) none

-- how many zero bits stand after the ids
abbrev pub zeros_following : ℕ → ℕ
zeros_following count = 8 * bytes_for count - count

pub length-spelled : (width : ℕ) (ids : List ℕ) → length (spelled width ids) ≡ bytes_for (length ids * width)
unfolding spelled
length-spelled width ids = length-map-range_with_len _ 0 (bytes_for (length ids * width))

-- the bits that are written are those of the ids and less than eight zeros
pub spelled-bits : (width : ℕ) (ids : List ℕ) → bits_of 8 (spelled width ids) ≡ bits_of width ids ++ replicate (zeros_following (length ids * width)) 0
unfolding spelled
spelled-bits width ids =
    let ones = bits_of width ids in
    let all : List ℕ = ones ++ replicate 7 0 in
    let n = length ids * width in
    let count : length ones ≡ n = length-bits_of width ids in
    let lengths : length all ≡ n + 7 = omega (arith, length-append ones (replicate 7 0), count) in
    let e : bytes_for n * 8 ≡ length ones + zeros_following n = omega (arith, count) in
    bits-pieces 8 (bytes_for n) all (AreBits-append ones (replicate 7 0) (AreBits-bits_of width ids) (AreBits-zeros 7)) (omega arith)
    ∙ ap (λ k. take k all) e
    ∙ take-append-add ones (replicate 7 0) (zeros_following n)
    ∙ ap (λ ds. ones ++ ds) (take-replicate (zeros_following n) 7 0 (omega arith))

-- bytes with those bits are the ones that are written
pub written : (old new ids : List ℕ) (width zeros : ℕ) → take (length old) new ≡ old → ((i : ℕ) → i < length new → get_or new i 0 < 2 ^ 8) → zeros < 8
    → bits_of 8 new ≡ bits_of 8 old ++ (bits_of width ids ++ replicate zeros 0) → new ≡ old ++ spelled width ids
unfolding spelled
written old new ids width zeros begins small at_most is =
    let rest = drop (length old) new in
    let whole : new ≡ old ++ rest = sym (take-append-drop (length old) new) ∙ ap (λ xs. xs ++ rest) begins in
    let ones = bits_of width ids in
    let same : bits_of 8 rest ≡ ones ++ replicate zeros 0 = append_cancel_left (bits_of 8 old) (bits_of 8 rest) (ones ++ replicate zeros 0) (sym (flat_map-append (bits 8) old rest) ∙ ap (bits_of 8) (sym whole) ∙ is) in
    let tail : List ℕ = replicate (7 - zeros) 0 in
    let seven : zeros + (7 - zeros) ≡ 7 = omega arith in
    let all : bits_of 8 rest ++ tail ≡ ones ++ replicate 7 0 = ap (λ ds. ds ++ tail) same ∙ append_assoc ones (replicate zeros 0) tail ∙ ap (λ ds. ones ++ ds) (replicate-append-replicate zeros (7 - zeros) 0 ∙ ap (λ k. replicate k 0) seven) in
    let following : List ℕ = replicate zeros 0 in
    let count : length rest * 8 ≡ length ids * width + zeros =
    sym (length-bits_of 8 rest) ∙ ap length same ∙ length-append ones following ∙ ap (λ k. k + length following) (length-bits_of width ids) ∙ ap (λ k. length ids * width + k) (length-replicate zeros 0) in
    let bytes : bytes_for (length ids * width) ≡ length rest = omega (arith, count) in
    let below : (i : ℕ) → i < length rest → get_or rest i 0 < 2 ^ 8 = λ i within. subst (λ n. n < 2 ^ 8) (sym (get_or-drop (length old) new i 0)) (small (length old + i) (omega (arith, length-drop (length old) new))) in
    whole ∙ ap (λ xs. old ++ xs) (sym (
    ap (λ k. pieces 8 0 k (ones ++ replicate 7 0)) bytes
    ∙ ap (pieces 8 0 (length rest)) (sym all)
    ∙ pieces-of 8 0 (length rest) rest tail (omega arith) below
    ∙ take_all (length rest) rest (omega arith)))

pub id-written : (width index : ℕ) (ids : List ℕ) → All (λ id. id < 2 ^ width) ids → index < length ids → id_at width index (spelled width ids) ≡ get_or ids index 0
id-written width index ids small within =
    ap (field width (index * width)) (spelled-bits width ids) ∙ field-of width index ids (replicate (zeros_following (length ids * width)) 0) within (below-all width ids small index within)

pub ids-written : (width from to : ℕ) (ids : List ℕ) → All (λ id. id < 2 ^ width) ids → from ≤ to → to ≤ length ids → ids_between width from to (spelled width ids) ≡ take (to - from) (drop from ids)
ids-written width from to ids small order within =
    ap (pieces width (from * width) (to - from)) (spelled-bits width ids) ∙ pieces-of width from (to - from) ids (replicate (zeros_following (length ids * width)) 0) (omega arith) (below-all width ids small)

pub readable-written : (width count from to : ℕ) (ids : List ℕ) → All (λ id. id < 2 ^ width) ids → All (λ id. id < count) ids → from ≤ to → to ≤ length ids → Readable width count from to (spelled width ids)
readable-written width count from to ids small below order within =
    let held : to * width ≤ length ids * width = mul-le to width (length ids) width within (omega arith) in (
      λ _. omega (arith, length-spelled width ids, held),
      All-same (λ id. id < count) (ids_between width from to (spelled width ids)) (take (to - from) (drop from ids)) (ids-written width from to ids small order within)
          (All-take (λ id. id < count) (to - from) (drop from ids) (All-drop (λ id. id < count) from ids below)),
    )
