-- The laws of averages.
use Rattle.std.proofs.Common.{◌≡◌, ℕ, ◌+◌, ◌<◌, ◌≤◌, List, [], ◌∷◌, ◌++◌, length, take, drop}
use Rattle.std.proofs.Common.{get_or, subst, refl, sym, ap, ◌∙◌, arith}
use Rattle.std.specs.Prelude.{ℤ, pos, ◌+ℤ◌}
use Rattle.std.specs.List.Sorted.{IsPermutation}
use Rattle.agg_laws.specs.declared.averages.AverageState.{AverageState}
use Rattle.agg_laws.specs.Aggregates.{IsAggregate, IsStoredAs}
use Rattle.agg_laws.specs.Numbers.{average_of, both_averages, AreWhole, AverageFits, AverageStored}
use Rattle.agg_laws.specs.Numbers.{most_stored, sum_bytes, count_bytes, average_bytes}
use Rattle.agg_laws.specs.laws.Permuted.{permuted}
use Rattle.std.proofs.lemmas.List.{get_or-drop, length-take-le, length-drop, take-append-drop}
use Rattle.std.specs.Int.{w64, w128, from_be_bytes, cast_signed}
use Rattle.agg_laws.specs.laws.Bytes.{small_take}
use Rattle.agg_laws.specs.laws.Counts as counts
use Rattle.agg_laws.specs.laws.Sums as sums

same : (s t : ℤ) (c d : ℕ) → s ≡ t → c ≡ d → let a : AverageState = record { sum = s; count = c }
    in let b : AverageState = record { sum = t; count = d } in a ≡ b
same s t c d p q = λ i. record { sum = p i; count = q i }

pub nothing_added : (v : AverageState) → both_averages v (record { sum = pos 0; count = 0 }) ≡ v
nothing_added v = same (v.sum +ℤ pos 0) v.sum (v.count + 0) v.count (sums.nothing_added v.sum)
    (counts.nothing_added v.count)

pub any_grouping : (u v w : AverageState) → both_averages (both_averages u v) w
    ≡ both_averages u (both_averages v w)
any_grouping u v w = same _ _ _ _ (sums.any_grouping u.sum v.sum w.sum)
    (counts.any_grouping u.count v.count w.count)

pub any_order : (v w : AverageState) → both_averages v w ≡ both_averages w v
any_order v w = same _ _ _ _ (sums.any_order v.sum w.sum) (counts.any_order v.count w.count)

pub of_both : (xs ys : List ℤ) → average_of (xs ++ ys)
    ≡ both_averages (average_of xs) (average_of ys)
of_both xs ys = same _ _ _ _ (sums.of_both xs ys) (counts.of_both xs ys)

pub of_more : (x : ℤ) (xs : List ℤ) → average_of (x ∷ xs)
    ≡ both_averages (average_of (x ∷ [])) (average_of xs)
of_more x xs = same _ _ _ _ (sums.of_more x xs) (omega arith)

pub same_permuted : (xs ys : List ℤ) → IsPermutation xs ys → average_of ys ≡ average_of xs
same_permuted xs ys h = permuted both_averages any_grouping any_order average_of of_more xs ys h

pub fits_both : (v w : AverageState) (n m : ℕ) → AverageFits v n → AverageFits w m
    → AverageFits (both_averages v w) (n + m)
fits_both v w n m p q =
    (omega (arith, p.0, q.0), sums.fits_both v.sum w.sum v.count w.count p.1 q.1)

pub fits_more : (v : AverageState) (n m : ℕ) → AverageFits v n → n ≤ m → AverageFits v m
fits_more v n m h le = (omega (arith, h.0, le), h.1)

pub fits_of : (xs : List ℤ) → AreWhole xs → AverageFits (average_of xs) (length xs)
fits_of xs h = (counts.fits_of xs h, sums.fits_of xs h)

pub stored_fits : (v : AverageState) → AverageStored v → AverageFits v most_stored
stored_fits v h = (h.0.1, h.1)

pub spelled : (v : AverageState) → AverageStored v → length (average_bytes v) ≡ 24
unfolding average_bytes sum_bytes count_bytes
spelled v h = refl

pub one_spelling : (v w : AverageState) → AverageStored v → AverageStored w → average_bytes v
    ≡ average_bytes w → v ≡ w
unfolding average_bytes sum_bytes count_bytes
one_spelling v w h k is =
    same v.sum w.sum v.count w.count
    (sums.same_sum v.sum w.sum (sums.fits_128 v.sum v.count h.0.1 h.1)
    (sums.fits_128 w.sum w.count k.0.1 k.1) (ap (take 16) is))
    (counts.one_spelling v.count w.count h.0 k.0 (ap (drop 16) is))

-- a state that was read is the one that has these bytes
pub written : (bs : List ℕ) (s : ℤ) (c : ℕ) → length bs ≡ 24 → ((i : ℕ) → get_or bs i 0 < 256)
    → s ≡ cast_signed w128 (from_be_bytes w128 (take 16 bs)) → c ≡ from_be_bytes w64 (drop 16 bs)
    → average_bytes (record { sum = s; count = c }) ≡ bs
unfolding average_bytes
written bs s c l small sum count =
    (λ i. sum_bytes (sum i) ++ count_bytes (count i))
    ∙ (λ i. sums.written (take 16 bs) (length-take-le 16 bs (omega arith))
    (small_take 16 bs small) i
    ++ counts.written (drop 16 bs) (omega (arith, length-drop 16 bs))
    (λ k. subst (λ b. b < 256) (sym (get_or-drop 16 bs k 0)) (small (16 + k))) i)
    ∙ take-append-drop 16 bs

pub read : (bs : List ℕ) (s : ℤ) (c : ℕ) → s ≡ cast_signed w128 (from_be_bytes w128 (take 16 bs))
    → c ≡ from_be_bytes w64 (drop 16 bs)
    → (v : AverageState) → AverageStored v → average_bytes v ≡ bs
    → let a : AverageState = record { sum = s; count = c } in a ≡ v
unfolding average_bytes sum_bytes count_bytes
read bs s c sum count v stored is =
    same s v.sum c v.count
    (sum ∙ ap (λ b. cast_signed w128 (from_be_bytes w128 (take 16 b))) (sym is)
    ∙ sums.read v.sum (sums.fits_128 v.sum v.count stored.0.1 stored.1))
    (count ∙ ap (λ b. from_be_bytes w64 (drop 16 b)) (sym is)
    ∙ counts.read v.count (omega (arith, stored.0.1)))

-- averages are an aggregate
pub aggregate : IsAggregate AverageState average_of (record { sum = pos 0; count = 0 })
    both_averages AverageFits
aggregate = record {
  of_none = refl;
  nothing_added = nothing_added;
  of_both = of_both;
  any_grouping = any_grouping;
  any_order = any_order;
  permuted = same_permuted;
  fits_of = fits_of;
  fits_both = fits_both;
  fits_more = fits_more;
}

-- and are stored so
pub storage : IsStoredAs AverageState AverageFits AverageStored average_bytes 24
storage = record {
  stored_fits = stored_fits;
  spelled = spelled;
  one_spelling = one_spelling;
}
