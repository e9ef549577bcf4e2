-- The laws of counts.
use Rattle.std.proofs.Common.{◌≡◌, ℕ, ◌+◌, ◌<◌, ◌≤◌, ◌^◌, get_or, List, ◌++◌, length, refl, sym, ap}
use Rattle.std.proofs.Common.{◌∙◌, arith, add_assoc, add_comm, length-append}
use Rattle.std.proofs.lemmas.Nat.{from_be_bytes-to_be_bytes_8, be_bytes_8}
use Rattle.std.specs.Prelude.{ℤ}
use Rattle.std.specs.Int.{w64, from_be_bytes}
use Rattle.std.specs.List.Sorted.{IsPermutation}
use Rattle.agg_laws.specs.Aggregates.{IsAggregate, IsStoredAs}
use Rattle.agg_laws.specs.Numbers.{AreWhole, CountStored, most_stored, count_bytes}
use Rattle.agg_laws.specs.laws.Permuted.{permuted}

pub nothing_added : (v : ℕ) → v + 0 ≡ v
nothing_added v = omega arith

pub of_both : (xs ys : List ℤ) → length (xs ++ ys) ≡ length xs + length ys
of_both xs ys = length-append xs ys

pub any_grouping : (u v w : ℕ) → (u + v) + w ≡ u + (v + w)
any_grouping u v w = add_assoc u v w

pub any_order : (v w : ℕ) → v + w ≡ w + v
any_order v w = add_comm v w

pub same_permuted : (xs ys : List ℤ) → IsPermutation xs ys → length ys ≡ length xs
same_permuted xs ys h =
    permuted (λ a b. a + b) add_assoc add_comm length (λ x xs. omega arith) xs ys h

pub fits_both : (v w n m : ℕ) → v ≤ n → w ≤ m → v + w ≤ n + m
fits_both v w n m p q = omega arith

pub fits_more : (v n m : ℕ) → v ≤ n → n ≤ m → v ≤ m
fits_more v n m h le = omega (arith, h, le)

pub spelled : (v : ℕ) → CountStored v → length (count_bytes v) ≡ 8
unfolding count_bytes
spelled v h = refl

-- what was written is read
pub read : (v : ℕ) → v < 2 ^ 64 → from_be_bytes w64 (count_bytes v) ≡ v
unfolding count_bytes
read v h = from_be_bytes-to_be_bytes_8 v h

pub one_spelling : (v w : ℕ) → CountStored v → CountStored w → count_bytes v ≡ count_bytes w → v ≡ w
one_spelling v w h k is = sym (read v (omega arith)) ∙ ap (from_be_bytes w64) is
    ∙ read w (omega arith)

-- what was read is written
pub written : (bs : List ℕ) → length bs ≡ 8 → ((i : ℕ) → get_or bs i 0 < 256)
    → count_bytes (from_be_bytes w64 bs) ≡ bs
unfolding count_bytes
written bs l small = be_bytes_8 bs _ l small refl

pub fits_of : (xs : List ℤ) → AreWhole xs → length xs ≤ length xs
fits_of xs h = omega arith

pub stored_fits : (v : ℕ) → CountStored v → v ≤ most_stored
stored_fits v h = h.1

-- counts are an aggregate
pub aggregate : IsAggregate ℕ (λ xs. length xs) 0 (λ a b. a + b) (λ c n. c ≤ n)
aggregate = record {
  of_none = refl;
  nothing_added = nothing_added;
  of_both = of_both;
  any_grouping = any_grouping;
  any_order = any_order;
  permuted = same_permuted;
  fits_of = fits_of;
  fits_both = fits_both;
  fits_more = fits_more;
}

-- and are stored so
pub storage : IsStoredAs ℕ (λ c n. c ≤ n) CountStored count_bytes 8
storage = record {
  stored_fits = stored_fits;
  spelled = spelled;
  one_spelling = one_spelling;
}
