-- The laws of sums.
use Rattle.std.proofs.Common.{◌≡◌, ℕ, ◌+◌, ◌^◌, ◌<◌, ◌≤◌, List, [], ◌∷◌, ◌++◌, length, get_or, refl}
use Rattle.std.proofs.Common.{sym, ap, ◌∙◌, arith}
use Rattle.std.specs.Prelude.{ℤ, pos, negsuc, ◌+ℤ◌}
use Rattle.std.proofs.lemmas.Int.{ints, to_z-of_z, of_z-to_z}
use Rattle.std.specs.Int.{w128, to_be_bytes, from_be_bytes, cast_signed, cast_unsigned}
use Rattle.std.specs.Int.RustNames.{FitsSigned}
use Rattle.std.specs.List.Sorted.{IsPermutation}
use Rattle.agg_laws.specs.Aggregates.{IsAggregate, IsStoredAs}
use Rattle.agg_laws.specs.Numbers.{sum_of, AreWhole, SumFits, SumStored, most_stored, sum_bytes}
use Rattle.agg_laws.specs.laws.Permuted.{permuted}
use Rattle.agg_laws.specs.laws.Bytes.{from_be_bytes-to_be_bytes_16, be_bytes_16, below_16}

pub nothing_added : (v : ℤ) → v +ℤ pos 0 ≡ v
nothing_added v = omega (arith, ints)

pub any_grouping : (u v w : ℤ) → (u +ℤ v) +ℤ w ≡ u +ℤ (v +ℤ w)
any_grouping u v w = omega (arith, ints)

pub any_order : (v w : ℤ) → v +ℤ w ≡ w +ℤ v
any_order v w = omega (arith, ints)

pub of_both : (xs ys : List ℤ) → sum_of (xs ++ ys) ≡ sum_of xs +ℤ sum_of ys
of_both [] ys = omega (arith, ints)
of_both (x ∷ xs) ys = ap (λ s. x +ℤ s) (of_both xs ys)
    ∙ sym (any_grouping x (sum_of xs) (sum_of ys))

pub of_more : (x : ℤ) (xs : List ℤ) → sum_of (x ∷ xs) ≡ sum_of (x ∷ []) +ℤ sum_of xs
of_more x xs = ap (λ s. s +ℤ sum_of xs) (sym (nothing_added x))

pub same_permuted : (xs ys : List ℤ) → IsPermutation xs ys → sum_of ys ≡ sum_of xs
same_permuted xs ys h = permuted (λ a b. a +ℤ b) any_grouping any_order sum_of of_more xs ys h

pub fits_both : (v w : ℤ) (n m : ℕ) → SumFits v n → SumFits w m → SumFits (v +ℤ w) (n + m)
fits_both v w n m p q = (omega (arith, ints), omega (arith, ints))

pub fits_of : (xs : List ℤ) → AreWhole xs → SumFits (sum_of xs) (length xs)
fits_of [] h = (omega (arith, ints), omega (arith, ints))
fits_of (x ∷ xs) h = let more = fits_of xs h.1 in let own = h.0
    in (omega (arith, ints), omega (arith, ints))

pub fits_more : (v : ℤ) (n m : ℕ) → SumFits v n → n ≤ m → SumFits v m
fits_more v n m h le = (omega (arith, ints), omega (arith, ints))

-- a stored sum is a number of 128 bits
pub fits_128 : (v : ℤ) (n : ℕ) → n ≤ most_stored → SumFits v n → FitsSigned w128 v
fits_128 v n lt h = omega (arith, ints)

pub spelled : (v : ℤ) → SumStored v → length (sum_bytes v) ≡ 16
unfolding sum_bytes
spelled v h = refl

unsigned : (v : ℤ) → FitsSigned w128 v → cast_unsigned w128 v < 2 ^ 128
unsigned (pos n) h = omega (arith, h.sfits)
unsigned (negsuc n) h = omega (arith, h.sfits)

-- what was written is read
pub read : (v : ℤ) → FitsSigned w128 v → cast_signed w128 (from_be_bytes w128 (sum_bytes v)) ≡ v
unfolding sum_bytes
read v h = ap (cast_signed w128)
    (from_be_bytes-to_be_bytes_16 (cast_unsigned w128 v) (unsigned v h)) ∙ to_z-of_z w128 v h

pub same_sum : (v w : ℤ) → FitsSigned w128 v → FitsSigned w128 w → sum_bytes v ≡ sum_bytes w → v ≡ w
same_sum v w h k is = sym (read v h) ∙ ap (λ bs. cast_signed w128 (from_be_bytes w128 bs)) is
    ∙ read w k

pub one_spelling : (v w : ℤ) → SumStored v → SumStored w → sum_bytes v ≡ sum_bytes w → v ≡ w
one_spelling v w h k is =
    same_sum v w (fits_128 v most_stored (omega arith) h)
    (fits_128 w most_stored (omega arith) k) is

-- what was read is written
pub written : (bs : List ℕ) → length bs ≡ 16 → ((i : ℕ) → get_or bs i 0 < 256)
    → sum_bytes (cast_signed w128 (from_be_bytes w128 bs)) ≡ bs
unfolding sum_bytes
written bs l small = ap (to_be_bytes w128)
    (of_z-to_z w128 (from_be_bytes w128 bs) (below_16 bs small)) ∙ be_bytes_16 bs l small

-- sums are an aggregate
pub aggregate : IsAggregate ℤ sum_of (pos 0) (λ a b. a +ℤ b) SumFits
aggregate = record {
  of_none = refl;
  nothing_added = nothing_added;
  of_both = of_both;
  any_grouping = any_grouping;
  any_order = any_order;
  permuted = same_permuted;
  fits_of = fits_of;
  fits_both = fits_both;
  fits_more = fits_more;
}

-- and are stored so
pub storage : IsStoredAs ℤ SumFits SumStored sum_bytes 16
storage = record {
  stored_fits = λ v h. h;
  spelled = spelled;
  one_spelling = one_spelling;
}
