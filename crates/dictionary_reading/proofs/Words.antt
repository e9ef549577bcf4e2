-- Numbers among bytes.
use Rattle.std.proofs.Common.{◌≡◌, ◌∙◌, ◌<◌, ◌≤◌, ◌+◌, ℕ, ℤ, List, length, take, drop, sym, ap, subst, arith}
use Rattle.std.proofs.lemmas.List.{get_or-drop, length-drop}
use Rattle.std.specs.Int.{w32, from_be_bytes}
use Rattle.dictionary.specs.Spelling.{counted, number_bytes}
use Rattle.values.specs.declared.value.Value.TheVariants as value
use Rattle.dictionary.proofs.Bytes.{AreBytes, counted_read}
use Rattle.dictionary_reading.specs.InFile.{part}

drop_small : (n : ℕ) (bytes : List ℕ) → AreBytes bytes → AreBytes (drop n bytes)
drop_small n bytes small i = subst (λ k. k < 256) (sym (get_or-drop n bytes i 0)) (small (n + i))

pub four_read : (bytes rest chunk : List ℕ) (at n : ℕ) → AreBytes bytes → at + 4 ≤ length bytes → rest ≡ drop at bytes → chunk ≡ take 4 rest → n ≡ from_be_bytes w32 chunk → counted n ≡ part at 4 bytes
four_read bytes rest chunk at n small long tail front is =
    counted_read (drop at bytes) n (drop_small at bytes small) (omega (arith, long, length-drop at bytes)) (is ∙ ap (from_be_bytes w32) (front ∙ ap (take 4) tail))

pub eight_read : (bytes rest chunk : List ℕ) (at : ℕ) (z : ℤ) → rest ≡ drop at bytes → chunk ≡ take 8 rest → number_bytes (value.Whole z) ≡ chunk → number_bytes (value.Whole z) ≡ part at 8 bytes
eight_read bytes rest chunk at z tail front is = is ∙ front ∙ ap (take 8) tail
