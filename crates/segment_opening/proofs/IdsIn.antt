-- Dictionaries with ids in place of the values of some columns.
use Rattle.std.proofs.Common.{◌≡◌, ◌≢◌, ◌∙◌, ◌<◌, ◌+◌, ℕ, zero, suc, pos, Option, Some, None, List, [], ◌∷◌, length, map, get_or, slice_get, refl, sym, ap, subst, arith}
use Rattle.std.specs.List.{AllZip, range_with_len}
use Rattle.std.proofs.lemmas.List.{length-map}
use Rattle.std.proofs.lemmas.List.FromFn.{length-range_with_len}
use Rattle.values.specs.declared.value.Value.TheVariants.{Whole}
use Rattle.value_ids.specs.Dictionary.{Distinct}
use Rattle.segment_head.specs.ColumnIds.{ids_below, numbers_below}
use Rattle.segment_head.specs.Heads.{IsSlotOf}
use Rattle.segment_plan.specs.Matched.{values_of}
use Rattle.segment_opening.specs.Found.{count_of, ids_in, values_from}

pub numbers_long : (count : ℕ) → length (numbers_below count) ≡ count
numbers_long count = length-map (range_with_len 0 count) (λ n. Whole (pos n)) ∙ length-range_with_len 0 count

pub ids_long : (counts : List (Option ℕ)) (ds : List (Option Distinct)) → length (ids_in counts ds) ≡ length ds
ids_long [] ds = refl
ids_long (None ∷ counts) [] = refl
ids_long (Some n ∷ counts) [] = refl
ids_long (None ∷ counts) (d ∷ ds) = ap (λ n. suc n) (ids_long counts ds)
ids_long (Some n ∷ counts) (d ∷ ds) = ap (λ n. suc n) (ids_long counts ds)

-- a column without a count has what it had
pub ids_kept : (counts : List (Option ℕ)) (ds : List (Option Distinct)) (c : ℕ) → count_of counts c ≡ None → slice_get (ids_in counts ds) c ≡ slice_get ds c
ids_kept [] ds c none = refl
ids_kept (None ∷ counts) [] c none = refl
ids_kept (Some n ∷ counts) [] c none = refl
ids_kept (None ∷ counts) (d ∷ ds) zero none = refl
ids_kept (Some n ∷ counts) (d ∷ ds) zero none = absurd cc
ids_kept (None ∷ counts) (d ∷ ds) (suc c) none = ids_kept counts ds c none
ids_kept (Some n ∷ counts) (d ∷ ds) (suc c) none = ids_kept counts ds c none

-- one with a count has so many ids
pub ids_there : (counts : List (Option ℕ)) (ds : List (Option Distinct)) (c n : ℕ) → count_of counts c ≡ Some n → c < length ds → slice_get (ids_in counts ds) c ≡ Some (Some (ids_below n))
ids_there [] ds c n is lt = absurd cc
ids_there (x ∷ counts) [] c n is lt = absurd (omega (arith, lt))
ids_there (None ∷ counts) (d ∷ ds) zero n is lt = absurd cc
ids_there (Some m ∷ counts) (d ∷ ds) zero n is lt = let same : m ≡ n = cc in ap (λ k. Some (Some (ids_below k))) same
ids_there (None ∷ counts) (d ∷ ds) (suc c) n is lt = ids_there counts ds c n is (omega (arith, lt))
ids_there (Some m ∷ counts) (d ∷ ds) (suc c) n is lt = ids_there counts ds c n is (omega (arith, lt))

pub kept_values : (counts : List (Option ℕ)) (ds : List (Option Distinct)) (c : ℕ) → count_of counts c ≡ None → values_from (ids_in counts ds) c ≡ values_from ds c
kept_values counts ds c none = ap values_of (ids_kept counts ds c none)

pub given_values : (counts : List (Option ℕ)) (ds : List (Option Distinct)) (c n : ℕ) → count_of counts c ≡ Some n → c < length ds → values_from (ids_in counts ds) c ≡ numbers_below n
given_values counts ds c n is lt = ap values_of (ids_there counts ds c n is lt)

-- a column that has a count is one of so many
pub counted_within : (counts : List (Option ℕ)) (c n : ℕ) → count_of counts c ≡ Some n → c < length counts
counted_within [] c n is = absurd cc
counted_within (x ∷ counts) zero n is = omega arith
counted_within (x ∷ counts) (suc c) n is = omega (arith, counted_within counts c n is)
