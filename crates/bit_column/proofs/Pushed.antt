-- Bytes that are pushed after others.
use Rattle.std.proofs.Common.{◌≡◌, ◌≤◌, ◌<◌, ℕ, ◌+◌, ◌-◌, List, [], ◌∷◌, ◌++◌, length, take, get_or, replicate, sym, ap, ◌∙◌, arith, append_assoc, append-nil, length-take}
use Rattle.std.proofs.lemmas.List.{take-append-le, take-take, take_all, take_more}
use Rattle.std.proofs.lemmas.List.Concat.{flat_map-append}
use Rattle.bit_column.specs.Bits.{bits, bits_of}
use Rattle.bit_column.proofs.BitLemmas.{bits_of-push}

-- a list that begins with another is as long
begins-long : (old new : List ℕ) → take (length old) new ≡ old → length old ≤ length new
begins-long old new e = omega (arith, length-take (length old) new, ap length e)

pub begins-itself : (old new : List ℕ) → new ≡ old → take (length old) new ≡ old
begins-itself old new e = ap (take (length old)) e ∙ take_all (length old) old (omega arith)

pub begins-push : (old out : List ℕ) (byte : ℕ) → take (length old) out ≡ old → take (length old) (out ++ byte ∷ []) ≡ old
begins-push old out byte e = take-append-le (length old) out (byte ∷ []) (begins-long old out e) ∙ e

pub begins-more : (old mid new : List ℕ) → take (length old) mid ≡ old → take (length mid) new ≡ mid → take (length old) new ≡ old
begins-more old mid new e f = sym (take-take (length old) (length mid) new (begins-long old mid e)) ∙ ap (take (length old)) f ∙ e

-- the first bits of a window become a byte
pub byte-pushed : (out first : List ℕ) (byte left window : ℕ) → 8 ≤ left → bits (8 + (left - 8)) window ≡ bits 8 byte ++ bits (left - 8) window → bits_of 8 out ++ bits left window ≡ first
    → bits_of 8 (out ++ byte ∷ []) ++ bits (left - 8) window ≡ first
byte-pushed out first byte left window full parts is =
    let e : 8 + (left - 8) ≡ left = omega arith in
    ap (λ ds. ds ++ bits (left - 8) window) (bits_of-push 8 byte out)
    ∙ append_assoc (bits_of 8 out) (bits 8 byte) (bits (left - 8) window)
    ∙ ap (λ ds. bits_of 8 out ++ ds) (sym parts)
    ∙ ap (λ k. bits_of 8 out ++ bits k window) e
    ∙ is

-- an id goes into the window, whose whole bytes go after the others
pub id-pushed : (old out new ids : List ℕ) (width have left window joined i : ℕ) → i < length ids
    → bits_of 8 out ++ bits have window ≡ bits_of 8 old ++ bits_of width (take i ids)
    → bits (have + width) joined ≡ bits have window ++ bits width (get_or ids i 0)
    → bits_of 8 new ++ bits left joined ≡ bits_of 8 out ++ bits (have + width) joined
    → bits_of 8 new ++ bits left joined ≡ bits_of 8 old ++ bits_of width (take (i + 1) ids)
id-pushed old out new ids width have left window joined i within is both pushed =
    let id = get_or ids i 0 in
    pushed
    ∙ ap (λ ds. bits_of 8 out ++ ds) both
    ∙ sym (append_assoc (bits_of 8 out) (bits have window) (bits width id))
    ∙ ap (λ ds. ds ++ bits width id) is
    ∙ append_assoc (bits_of 8 old) (bits_of width (take i ids)) (bits width id)
    ∙ ap (λ ds. bits_of 8 old ++ ds) (sym (bits_of-push width id (take i ids)) ∙ ap (bits_of width) (sym (take_more ids i 0 within)))

-- the last bits become a byte with zero bits after them
pub last-pushed : (old out ids : List ℕ) (width have window byte : ℕ) → bits_of 8 out ++ bits have window ≡ bits_of 8 old ++ bits_of width ids
    → bits 8 byte ≡ bits have window ++ replicate (8 - have) 0
    → bits_of 8 (out ++ byte ∷ []) ≡ bits_of 8 old ++ (bits_of width ids ++ replicate (8 - have) 0)
last-pushed old out ids width have window byte is last =
    let zeros : List ℕ = replicate (8 - have) 0 in
    bits_of-push 8 byte out
    ∙ ap (λ ds. bits_of 8 out ++ ds) last
    ∙ sym (append_assoc (bits_of 8 out) (bits have window) zeros)
    ∙ ap (λ ds. ds ++ zeros) is
    ∙ append_assoc (bits_of 8 old) (bits_of width ids) zeros

-- where no bits are left
pub none-pushed : (old out ids : List ℕ) (width have window : ℕ) → have ≡ 0 → bits_of 8 out ++ bits have window ≡ bits_of 8 old ++ bits_of width ids
    → bits_of 8 out ≡ bits_of 8 old ++ (bits_of width ids ++ replicate 0 0)
unfolding bits
none-pushed old out ids width have window none is =
    sym (append-nil (bits_of 8 out)) ∙ ap (λ k. bits_of 8 out ++ bits k window) (sym none) ∙ is ∙ ap (λ ds. bits_of 8 old ++ ds) (sym (append-nil (bits_of width ids)))

-- four whole bytes of a window
pub four-whole : (a b c d f window : ℕ) → bits (8 + (f + 24)) window ≡ bits 8 a ++ bits (f + 24) window → bits (8 + (f + 16)) window ≡ bits 8 b ++ bits (f + 16) window
    → bits (8 + (f + 8)) window ≡ bits 8 c ++ bits (f + 8) window → bits (8 + f) window ≡ bits 8 d ++ bits f window
    → bits (32 + f) window ≡ bits_of 8 (a ∷ b ∷ c ∷ d ∷ []) ++ bits f window
four-whole a b c d f window is_a is_b is_c is_d =
    let e : bits (32 + f) window ≡ bits (8 + (f + 24)) window = ap (λ k. bits k window) (omega arith) in
    let e2 : bits (f + 24) window ≡ bits (8 + (f + 16)) window = ap (λ k. bits k window) (omega arith) in
    let e3 : bits (f + 16) window ≡ bits (8 + (f + 8)) window = ap (λ k. bits k window) (omega arith) in
    let e4 : bits (f + 8) window ≡ bits (8 + f) window = ap (λ k. bits k window) (omega arith) in
    let apart : bits_of 8 (a ∷ b ∷ c ∷ d ∷ []) ++ bits f window ≡ bits 8 a ++ (bits 8 b ++ (bits 8 c ++ (bits 8 d ++ bits f window))) =
    append_assoc (bits 8 a) (bits 8 b ++ (bits 8 c ++ (bits 8 d ++ []))) (bits f window)
    ∙ ap (λ ds. bits 8 a ++ ds) (append_assoc (bits 8 b) (bits 8 c ++ (bits 8 d ++ [])) (bits f window)
    ∙ ap (λ ds. bits 8 b ++ ds) (append_assoc (bits 8 c) (bits 8 d ++ []) (bits f window)
    ∙ ap (λ ds. bits 8 c ++ ds) (append_assoc (bits 8 d) [] (bits f window)))) in
    e ∙ is_a ∙ ap (λ ds. bits 8 a ++ ds) (e2 ∙ is_b ∙ ap (λ ds. bits 8 b ++ ds) (e3 ∙ is_c ∙ ap (λ ds. bits 8 c ++ ds) (e4 ∙ is_d))) ∙ sym apart

-- they go after the others
pub four-pushed : (out new four : List ℕ) (have left window : ℕ) → new ≡ out ++ four → have ≡ 32 + left → bits (32 + left) window ≡ bits_of 8 four ++ bits left window
    → bits_of 8 new ++ bits left window ≡ bits_of 8 out ++ bits have window
four-pushed out new four have left window grown all is =
    ap (λ xs. bits_of 8 xs ++ bits left window) grown
    ∙ ap (λ ds. ds ++ bits left window) (flat_map-append (bits 8) out four)
    ∙ append_assoc (bits_of 8 out) (bits_of 8 four) (bits left window)
    ∙ ap (λ ds. bits_of 8 out ++ ds) (sym is)
    ∙ ap (λ k. bits_of 8 out ++ bits k window) (sym all)

pub begins-grown : (old new more : List ℕ) → new ≡ old ++ more → take (length old) new ≡ old
begins-grown old new more e = ap (take (length old)) e ∙ take-append-le (length old) old more (omega arith) ∙ take_all (length old) old (omega arith)
