-- Numbers of 32 bits as four bytes each.
use Rattle.std.proofs.Common.{◌≡◌, ◌∙◌, ◌<◌, ◌+◌, ◌/◌, ◌%◌, ◌^◌, ◌++◌, ◌∷◌, [], ℕ, List, length, take, get_or, refl, sym, ap, ap₂, arith, append-nil, append_assoc}
use Rattle.std.proofs.lemmas.List.{take_more}
use Rattle.std.proofs.lemmas.List.Concat.{flat_map-append}
use Rattle.std.proofs.lemmas.List.Elements.{All-append, All-cons, All-get_or, All-nil}
use Rattle.std.specs.Int.{to_be_bytes, w32}
use Rattle.std.specs.List.{All}
use Rattle.std.specs.List.{flat_map}
use Rattle.bit_column.specs.Bits.{bits, bits_of}
use Rattle.bit_column.specs.Column.{spelled}
use Rattle.bit_column.proofs.BitLemmas.{bits-low, bits-split}
use Rattle.bit_column.proofs.Spelling.{written}

abbrev pub words_bytes : List ℕ → List ℕ
words_bytes words = flat_map (to_be_bytes w32) words

-- the bits of the four bytes are those of the number
word-bits : (n : ℕ) → bits_of 8 (to_be_bytes w32 n) ≡ bits 32 n
word-bits n =
    ap₂ ◌++◌ (low (n / 2 ^ 24)) (ap₂ ◌++◌ (low (n / 2 ^ 16)) (ap₂ ◌++◌ (low (n / 2 ^ 8)) (append-nil (bits 8 (n % 256)) ∙ low n)))
    ∙ sym (bits-split 8 24 n ∙ ap (λ ds. bits 8 (n / 2 ^ 24) ++ ds) (bits-split 8 16 n ∙ ap (λ ds. bits 8 (n / 2 ^ 16) ++ ds) (bits-split 8 8 n)))
  where
    low : (m : ℕ) → bits 8 (m % 256) ≡ bits 8 m
    low m = bits-low 8 8 m (omega arith)

bits-words : (words : List ℕ) → bits_of 8 (words_bytes words) ≡ bits_of 32 words
bits-words [] = refl
bits-words (n ∷ words) = flat_map-append (bits 8) (to_be_bytes w32 n) (words_bytes words) ∙ ap₂ ◌++◌ (word-bits n) (bits-words words)

abbrev IsByte : ℕ → Type 0
IsByte byte = byte < 256

-- each is a byte
word-small : (n : ℕ) → All (λ byte. byte < 256) (to_be_bytes w32 n)
word-small n =
    All-cons IsByte (n / 256 ^ 3 % 256) (n / 256 ^ 2 % 256 ∷ n / 256 ^ 1 % 256 ∷ n % 256 ∷ []) (omega arith)
    (All-cons IsByte (n / 256 ^ 2 % 256) (n / 256 ^ 1 % 256 ∷ n % 256 ∷ []) (omega arith)
    (All-cons IsByte (n / 256 ^ 1 % 256) (n % 256 ∷ []) (omega arith) (All-cons IsByte (n % 256) [] (omega arith) (All-nil IsByte))))

words-small : (words : List ℕ) → All (λ byte. byte < 256) (words_bytes words)
words-small [] = All-nil IsByte
words-small (n ∷ words) = All-append IsByte (to_be_bytes w32 n) (words_bytes words) (word-small n) (words-small words)

pub spelled-words : (words : List ℕ) → words_bytes words ≡ spelled 32 words
spelled-words words =
    written [] (words_bytes words) words 32 0 refl (λ i lt. All-get_or IsByte (words_bytes words) i 0 lt (words-small words)) (omega arith)
    (bits-words words ∙ sym (append-nil (bits_of 32 words)))

-- one more number
pub words-more : (words old new : List ℕ) (out : List ℕ) (i : ℕ) → i < length words → old ≡ out ++ words_bytes (take i words) → new ≡ old ++ to_be_bytes w32 (get_or words i 0) → new ≡ out ++ words_bytes (take (i + 1) words)
words-more words old new out i lt so_far is =
    is ∙ ap (λ xs. xs ++ to_be_bytes w32 (get_or words i 0)) so_far ∙ append_assoc out (words_bytes (take i words)) (to_be_bytes w32 (get_or words i 0))
    ∙ ap (λ xs. out ++ xs) (
    ap (λ xs. words_bytes (take i words) ++ xs) (sym (append-nil (to_be_bytes w32 (get_or words i 0))))
    ∙ sym (flat_map-append (to_be_bytes w32) (take i words) (get_or words i 0 ∷ [])) ∙ ap words_bytes (sym (take_more words i 0 lt)))
