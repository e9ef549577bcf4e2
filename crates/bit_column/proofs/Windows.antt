-- A window of 64 bits, and what shifts and masks leave of it.
use Rattle.std.proofs.Common.{◌≡◌, ◌≤◌, ◌<◌, ℕ, ◌+◌, ◌-◌, ◌*◌, ◌/◌, ◌%◌, ◌^◌, List, ◌++◌, take, drop, replicate, sym, ap, ◌∙◌, arith, append_assoc, bit_and, bit_or}
use Rattle.std.proofs.lemmas.Nat.{or_shifted, or_mod, and_mask, one_shl, pow_pos}
use Rattle.std.proofs.Math.Nat.{pow-le-pow_right}
use Rattle.std.proofs.lemmas.List.{take_at, drop_at}
use Rattle.bit_column.specs.Bits.{bits, number, field}
use Rattle.bit_column.proofs.BitLemmas.{length-bits, bits-split, bits-low, bits-join, bits-none, number-bits}

small : (id width : ℕ) → width ≤ 64 → id < 2 ^ width → id < 2 ^ 64
small id width h k = let e : 2 ^ width ≤ 2 ^ 64 = pow-le-pow_right (omega arith) h in omega arith

pub joined : (window have id width : ℕ) → have + width ≤ 64 → id < 2 ^ width → bits (have + width) (bit_or (window * 2 ^ width % 2 ^ 64) id) ≡ bits have window ++ bits width id
joined window have id width room h =
    let fits : id % 2 ^ 64 ≡ id = omega (arith, small id width (omega arith) h) in
    let whole : bit_or (window * 2 ^ width) id % 2 ^ 64 ≡ bit_or (window * 2 ^ width % 2 ^ 64) id = or_mod (window * 2 ^ width) id 64 ∙ ap (bit_or (window * 2 ^ width % 2 ^ 64)) fits in
    ap (bits (have + width)) (sym whole)
    ∙ bits-low (have + width) 64 (bit_or (window * 2 ^ width) id) room
    ∙ ap (bits (have + width)) (or_shifted window width id h)
    ∙ bits-join have width window id h

pub low_byte : (n : ℕ) → bits 8 (bit_and n 255) ≡ bits 8 n
low_byte n = ap (bits 8) (and_mask n 8) ∙ bits-low 8 8 n (omega arith)

pub whole_byte : (window following : ℕ) → bits (8 + following) window ≡ bits 8 (bit_and (window / 2 ^ following) 255) ++ bits following window
whole_byte window following = bits-split 8 following window ∙ ap (λ ds. ds ++ bits following window) (sym (low_byte (window / 2 ^ following)))

pub last_byte : (window have : ℕ) → have ≤ 8 → bits 8 (bit_and (window * 2 ^ (8 - have) % 2 ^ 64) 255) ≡ bits have window ++ replicate (8 - have) 0
last_byte window have h =
    let k = 8 - have in
    let parts : bits (have + k) (window * 2 ^ k + 0) ≡ bits have window ++ bits k 0 = bits-join have k window 0 (pow_pos k) in
    low_byte (window * 2 ^ k % 2 ^ 64)
    ∙ bits-low 8 64 (window * 2 ^ k) (omega arith)
    ∙ ap (λ m. bits m (window * 2 ^ k)) (omega arith)
    ∙ ap (bits (have + k)) (omega arith)
    ∙ parts
    ∙ ap (λ ds. bits have window ++ ds) (bits-none k)

pub taken : (x width : ℕ) → width ≤ 32 → bit_and x (1 * 2 ^ width % 2 ^ 64 - 1) ≡ x % 2 ^ width
taken x width h = ap (λ m. bit_and x (m - 1)) (one_shl width 64 (omega arith)) ∙ and_mask x width

-- the number of some digits of a window
pub field-window : (width first following window : ℕ) (digits : List ℕ) → digits ≡ bits (first + width + following) window → field width first digits ≡ window / 2 ^ following % 2 ^ width
unfolding field
field-window width first following window digits e =
    let high = window / 2 ^ following in
    let front = bits first (high / 2 ^ width) in
    let parts : digits ≡ front ++ (bits width high ++ bits following window) =
    e ∙ bits-split (first + width) following window ∙ ap (λ ds. ds ++ bits following window) (bits-split first width high) ∙ append_assoc front (bits width high) (bits following window) in
    ap (λ ds. number (take width (drop first ds))) parts
    ∙ ap (λ ds. number (take width ds)) (drop_at front (bits width high ++ bits following window) first (length-bits first (high / 2 ^ width)))
    ∙ ap number (take_at (bits width high) (bits following window) width (length-bits width high))
    ∙ number-bits width high
