-- The laws of greatest numbers.
use Rattle.std.proofs.Common.{◌≡◌, Option, Some, None, List, [], ◌∷◌, ◌++◌, refl, sym, ap, ◌∙◌}
use Rattle.std.proofs.Common.{arith}
use Rattle.std.specs.Prelude.{ℤ}
use Rattle.std.proofs.lemmas.Int.{ints, clamps}
use Rattle.std.specs.Int.{int_max}
use Rattle.std.specs.List.Sorted.{IsPermutation}
use Rattle.agg_laws.specs.Aggregates.{IsAggregate, IsStoredAs}
use Rattle.agg_laws.specs.Numbers.{greater, greatest_of, IsWhole, AreWhole, NumberFits}
use Rattle.agg_laws.specs.Numbers.{NumberStored, number_bytes}
use Rattle.agg_laws.specs.laws.NumberBytes as bytes
use Rattle.agg_laws.specs.laws.Permuted.{permuted}

pub nothing_added : (v : Option ℤ) → greater v None ≡ v
nothing_added None = refl
nothing_added (Some x) = refl

pub any_grouping : (u v w : Option ℤ) → greater (greater u v) w ≡ greater u (greater v w)
any_grouping None v w = refl
any_grouping (Some x) None w = refl
any_grouping (Some x) (Some y) None = refl
any_grouping (Some x) (Some y) (Some z) = ap Some (max_assoc x y z)
  where
    max_assoc : (x y z : ℤ) → int_max (int_max x y) z ≡ int_max x (int_max y z)
    max_assoc x y z = omega (arith, ints, clamps)

pub any_order : (v w : Option ℤ) → greater v w ≡ greater w v
any_order None None = refl
any_order None (Some y) = refl
any_order (Some x) None = refl
any_order (Some x) (Some y) = ap Some (max_comm x y)
  where
    max_comm : (x y : ℤ) → int_max x y ≡ int_max y x
    max_comm x y = omega (arith, ints, clamps)

pub of_both : (xs ys : List ℤ) → greatest_of (xs ++ ys) ≡ greater (greatest_of xs) (greatest_of ys)
of_both [] ys = refl
of_both (x ∷ xs) ys = ap (greater (Some x)) (of_both xs ys)
    ∙ sym (any_grouping (Some x) (greatest_of xs) (greatest_of ys))

pub same_permuted : (xs ys : List ℤ) → IsPermutation xs ys → greatest_of ys ≡ greatest_of xs
same_permuted xs ys h = permuted greater any_grouping any_order greatest_of (λ x xs. refl) xs ys h

whole_max : (x y : ℤ) → IsWhole x → IsWhole y → IsWhole (int_max x y)
whole_max x y h k = (omega (arith, ints, clamps), omega (arith, ints, clamps))

pub fits_both : (v w : Option ℤ) → NumberFits v → NumberFits w → NumberFits (greater v w)
fits_both None w h k = k
fits_both (Some x) None h k = h
fits_both (Some x) (Some y) h k = whole_max x y h k

pub fits_of : (xs : List ℤ) → AreWhole xs → NumberFits (greatest_of xs)
fits_of [] h = tt
fits_of (x ∷ xs) h = fits_both (Some x) (greatest_of xs) h.0 (fits_of xs h.1)

pub stored_fits : (v : Option ℤ) → NumberStored v → NumberFits v
stored_fits None h = tt
stored_fits (Some x) h = h

-- greatest numbers are an aggregate
pub aggregate : IsAggregate (Option ℤ) greatest_of None greater (λ v _. NumberFits v)
aggregate = record {
  of_none = refl;
  nothing_added = nothing_added;
  of_both = of_both;
  any_grouping = any_grouping;
  any_order = any_order;
  permuted = same_permuted;
  fits_of = fits_of;
  fits_both = λ v w n m. fits_both v w;
  fits_more = λ v n m h le. h;
}

-- and are stored so
pub storage : IsStoredAs (Option ℤ) (λ v _. NumberFits v) NumberStored number_bytes 8
storage = record {
  stored_fits = stored_fits;
  spelled = bytes.spelled;
  one_spelling = bytes.one_spelling;
}
