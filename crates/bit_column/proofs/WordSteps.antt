-- Numbers in words of 64 bits, and ids that are read one by one.
use Rattle.std.proofs.Common.{◌≡◌, ◌≤◌, ◌<◌, ℕ, ◌+◌, ◌-◌, ◌*◌, ◌/◌, ◌%◌, ◌^◌, List, ◌++◌, ◌∷◌, [], take, drop, length, sym, ap, ◌∙◌, arith, set}
use Rattle.std.proofs.lemmas.List.{take_more_set, take_rest}
use Rattle.bit_column.specs.Bits.{bits, bits_of, field, pieces}
use Rattle.bit_column.specs.Unpacked.{HasWord, IsFilled}
use Rattle.bit_column.proofs.BitLemmas.{drop-bits_of}
use Rattle.bit_column.proofs.Windows.{field-window}
use Rattle.bit_column.proofs.Fields.{field-bytes, field-following, pieces-more}

pub in_word : (word bit width result : ℕ) → bit + width ≤ 64 → result ≡ word / 2 ^ (64 - bit - width) % 2 ^ width → result ≡ field width bit (bits 64 word)
in_word word bit width result within is =
    let e : 64 ≡ bit + width + (64 - bit - width) = omega (arith, within) in
    is ∙ sym (field-window width bit (64 - bit - width) word (bits 64 word) (ap (λ n. bits n word) e))

of_word : (bytes : List ℕ) (at word bit width : ℕ) → bits_of 8 (take 8 (drop at bytes)) ≡ bits 64 word → bit + width ≤ 64 → field width bit (bits 64 word) ≡ field width (8 * at + bit) (bits_of 8 bytes)
of_word bytes at word bit width is within =
    let first : bit ≡ 8 * at + bit - at * 8 = omega arith in
    ap (field width bit) (sym is)
    ∙ ap (λ b. field width b (bits_of 8 (take 8 (drop at bytes)))) first
    ∙ field-bytes width (8 * at + bit) at 8 bytes (omega arith) (omega (arith, within))

-- the numbers of a word are those of the bytes that the word has
pub words : (bytes : List ℕ) (at word : ℕ) → bits_of 8 (take 8 (drop at bytes)) ≡ bits 64 word → HasWord (8 * at) word (bits_of 8 bytes)
words bytes at word is = record { each = λ width bit within. of_word bytes at word bit width is within }

-- the number in a word is that of the bytes
pub of_bytes : (digits : List ℕ) (byte bit width word x : ℕ) → bit + width ≤ 64 → HasWord (8 * byte) word digits → x ≡ field width bit (bits 64 word) → x ≡ field width (8 * byte + bit) digits
of_bytes digits byte bit width word x within has is = is ∙ has.each width bit within

-- the number in the bytes from one on is that of all bytes
pub of_rest : (bytes : List ℕ) (byte bit width x : ℕ) → x ≡ field width bit (bits_of 8 (take (length bytes - byte) (drop byte bytes))) → x ≡ field width (8 * byte + bit) (bits_of 8 bytes)
of_rest bytes byte bit width x is =
    let place : byte * 8 + bit ≡ 8 * byte + bit = omega arith in
    is
    ∙ ap (λ xs. field width bit (bits_of 8 xs)) (take_rest bytes byte)
    ∙ ap (field width bit) (sym (drop-bits_of byte 8 bytes))
    ∙ field-following width bit (byte * 8) (bits_of 8 bytes)
    ∙ ap (λ b. field width b (bits_of 8 bytes)) place

-- one id more
pub one_more : (first width to place x : ℕ) (digits ids : List ℕ) → to < length ids → x ≡ field width place digits → place ≡ first + to * width → IsFilled first width to digits ids → IsFilled first width (to + 1) digits (set ids to x)
one_more first width to place x digits ids there is at so_far = record {
  filled =
      take_more_set ids to x there
      ∙ ap (λ xs. xs ++ x ∷ []) so_far.filled
      ∙ ap (λ y. pieces width first to digits ++ y ∷ []) (is ∙ ap (λ b. field width b digits) at)
      ∙ sym (pieces-more width first to digits);
}
