-- The laws of least numbers.
use Rattle.std.proofs.Common.{◌≡◌, Option, Some, None, List, [], ◌∷◌, ◌++◌, refl, sym, ap, ◌∙◌}
use Rattle.std.proofs.Common.{arith}
use Rattle.std.specs.Prelude.{ℤ}
use Rattle.std.proofs.lemmas.Int.{ints, clamps}
use Rattle.std.specs.Int.{int_min}
use Rattle.std.specs.List.Sorted.{IsPermutation}
use Rattle.agg_laws.specs.Aggregates.{IsAggregate, IsStoredAs}
use Rattle.agg_laws.specs.Numbers.{lesser, least_of, IsWhole, AreWhole, NumberFits, NumberStored, number_bytes}
use Rattle.agg_laws.specs.laws.NumberBytes as bytes
use Rattle.agg_laws.specs.laws.Permuted.{permuted}

pub nothing_added : (v : Option ℤ) → lesser v None ≡ v
nothing_added None = refl
nothing_added (Some x) = refl

pub any_grouping : (u v w : Option ℤ) → lesser (lesser u v) w ≡ lesser u (lesser v w)
any_grouping None v w = refl
any_grouping (Some x) None w = refl
any_grouping (Some x) (Some y) None = refl
any_grouping (Some x) (Some y) (Some z) = ap Some (min_assoc x y z)
  where
    min_assoc : (x y z : ℤ) → int_min (int_min x y) z ≡ int_min x (int_min y z)
    min_assoc x y z = omega (arith, ints, clamps)

pub any_order : (v w : Option ℤ) → lesser v w ≡ lesser w v
any_order None None = refl
any_order None (Some y) = refl
any_order (Some x) None = refl
any_order (Some x) (Some y) = ap Some (min_comm x y)
  where
    min_comm : (x y : ℤ) → int_min x y ≡ int_min y x
    min_comm x y = omega (arith, ints, clamps)

pub of_both : (xs ys : List ℤ) → least_of (xs ++ ys) ≡ lesser (least_of xs) (least_of ys)
of_both [] ys = refl
of_both (x ∷ xs) ys = ap (lesser (Some x)) (of_both xs ys)
    ∙ sym (any_grouping (Some x) (least_of xs) (least_of ys))

pub same_permuted : (xs ys : List ℤ) → IsPermutation xs ys → least_of ys ≡ least_of xs
same_permuted xs ys h = permuted lesser any_grouping any_order least_of (λ x xs. refl) xs ys h

whole_min : (x y : ℤ) → IsWhole x → IsWhole y → IsWhole (int_min x y)
whole_min x y h k = (omega (arith, ints, clamps), omega (arith, ints, clamps))

pub fits_both : (v w : Option ℤ) → NumberFits v → NumberFits w → NumberFits (lesser v w)
fits_both None w h k = k
fits_both (Some x) None h k = h
fits_both (Some x) (Some y) h k = whole_min x y h k

pub fits_of : (xs : List ℤ) → AreWhole xs → NumberFits (least_of xs)
fits_of [] h = tt
fits_of (x ∷ xs) h = fits_both (Some x) (least_of xs) h.0 (fits_of xs h.1)

pub stored_fits : (v : Option ℤ) → NumberStored v → NumberFits v
stored_fits None h = tt
stored_fits (Some x) h = h

-- least numbers are an aggregate
pub aggregate : IsAggregate (Option ℤ) least_of None lesser (λ v _. NumberFits v)
aggregate = record {
  of_none = refl;
  nothing_added = nothing_added;
  of_both = of_both;
  any_grouping = any_grouping;
  any_order = any_order;
  permuted = same_permuted;
  fits_of = fits_of;
  fits_both = λ v w n m. fits_both v w;
  fits_more = λ v n m h le. h;
}

-- and are stored so
pub storage : IsStoredAs (Option ℤ) (λ v _. NumberFits v) NumberStored number_bytes 8
storage = record {
  stored_fits = stored_fits;
  spelled = bytes.spelled;
  one_spelling = bytes.one_spelling;
}
