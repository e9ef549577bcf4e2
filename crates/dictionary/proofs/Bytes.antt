-- Numbers as bytes: how many, read back, and equal only of equal numbers.
use Rattle.std.proofs.Common.{◌≡◌, ◌∙◌, ◌<◌, ◌≤◌, ◌^◌, ℕ, List, ◌++◌, length, take, drop, get_or, refl, sym, ap, arith, inl, inr}
use Rattle.std.proofs.Math.Seq.{take-append_seam, drop-append_seam}
use Rattle.std.proofs.lemmas.Bool.{cases_lt}
use Rattle.std.proofs.lemmas.List.{length-take, get_or-take, get_or_past, take-append-drop}
use Rattle.std.proofs.lemmas.Nat.{be_bytes_4, from_be_bytes-to_be_bytes_4}
use Rattle.std.specs.Int.{w32, from_be_bytes}
use Rattle.dictionary.specs.Spelling.{counted}

abbrev pub AreBytes : List ℕ → Type 0
AreBytes bytes = (i : ℕ) → get_or bytes i 0 < 256

pub take_small : (n : ℕ) (bytes : List ℕ) → AreBytes bytes → AreBytes (take n bytes)
take_small n bytes small i =
    elim (cases_lt i n) [
      | inl lt ↦ rw (get_or-take n bytes i 0 lt) (small i)
      | inr le ↦ rw (get_or_past (take n bytes) i 0 (omega (arith, length-take n bytes))) (omega arith)
    ]

pub length-counted : (n : ℕ) → length (counted n) ≡ 4
unfolding counted
length-counted n = refl

pub counted_back : (n : ℕ) → n < 2 ^ 32 → from_be_bytes w32 (counted n) ≡ n
unfolding counted
counted_back n lt = from_be_bytes-to_be_bytes_4 n lt

-- four bytes, read, are the spelling of the number
pub counted_read : (bytes : List ℕ) (n : ℕ) → AreBytes bytes → 4 ≤ length bytes → n ≡ from_be_bytes w32 (take 4 bytes) → counted n ≡ take 4 bytes
unfolding counted
counted_read bytes n small lengths is = be_bytes_4 (take 4 bytes) n (omega (arith, length-take 4 bytes)) (take_small 4 bytes small) is

pub same_fronts : (a b x y : List ℕ) → length a ≡ length b → a ++ x ≡ b ++ y → a ≡ b
same_fronts a b x y len e = sym (take-append_seam a x) ∙ ap (take (length a)) e ∙ ap (λ n. take n (b ++ y)) len ∙ take-append_seam b y

pub same_rests : (a b x y : List ℕ) → length a ≡ length b → a ++ x ≡ b ++ y → x ≡ y
same_rests a b x y len e = sym (drop-append_seam a x) ∙ ap (drop (length a)) e ∙ ap (λ n. drop n (b ++ y)) len ∙ drop-append_seam b y

same_length : (m n : ℕ) → length (counted m) ≡ length (counted n)
same_length m n = length-counted m ∙ sym (length-counted n)

pub counted_once : (m n : ℕ) (x y : List ℕ) → m < 2 ^ 32 → n < 2 ^ 32 → counted m ++ x ≡ counted n ++ y → m ≡ n
counted_once m n x y lm ln e =
    let same : counted m ≡ counted n = same_fronts (counted m) (counted n) x y (same_length m n) e in
    sym (counted_back m lm) ∙ ap (from_be_bytes w32) same ∙ counted_back n ln

pub counted_following : (m n : ℕ) (x y : List ℕ) → counted m ++ x ≡ counted n ++ y → x ≡ y
counted_following m n x y e = same_rests (counted m) (counted n) x y (same_length m n) e

-- bytes, put together again from the number that was read and what is after it
pub counted_whole : (bytes rest : List ℕ) (n : ℕ) → AreBytes bytes → 4 ≤ length bytes → n ≡ from_be_bytes w32 (take 4 bytes) → rest ≡ drop 4 bytes → bytes ≡ counted n ++ rest
counted_whole bytes rest n small lengths is following = sym (take-append-drop 4 bytes) ∙ (λ i. sym (counted_read bytes n small lengths is) i ++ sym following i)
