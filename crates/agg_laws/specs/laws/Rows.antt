-- The laws of the aggregates, place by place.
use Rattle.std.proofs.Common.{◌≡◌, Bool, true, false, nat_le, if◌then◌else◌, ℕ, ◌+◌, ◌≤◌, Some}
use Rattle.std.proofs.Common.{None, List, [], ◌∷◌, ◌++◌, map, refl, ◌∙◌, arith}
use Rattle.std.specs.Prelude.{ℤ, pos, negsuc, ◌+ℤ◌}
use Rattle.std.proofs.lemmas.Int.{ints}
use Rattle.std.proofs.lemmas.List.{map-append}
use Rattle.agg_laws.specs.declared.aggregate_kind.AggKind.{AggKind}
use Rattle.agg_laws.specs.declared.states.AggState.{AggState}
use Rattle.agg_laws.specs.declared.states.AggState.TheVariants.{Count, Sum, Least, Greatest}
use Rattle.agg_laws.specs.declared.states.AggState.TheVariants.{Average}
use Rattle.agg_laws.specs.Numbers.{SumFits, most_stored}
use Rattle.agg_laws.specs.States.{kind_of, rank_of, state_of, merged, Fits, IsStored}
use Rattle.agg_laws.specs.Rows.{head_of, tail_of, row_of, units_of, kinds_of, merged_rows, RowFits}
use Rattle.agg_laws.specs.Rows.{RowStored, sum_weight, weight_of, row_weight}
use Rattle.std.specs.List.Sorted.{IsPermutation}
use Rattle.agg_laws.specs.laws.Permuted.{permuted}
use Rattle.agg_laws.specs.laws.Sums as sums
use Rattle.agg_laws.specs.laws.Leasts as leasts
use Rattle.agg_laws.specs.laws.Greatests as greatests
use Rattle.agg_laws.specs.laws.States as states

pub of_none : (ks : List AggKind) → row_of ks [] ≡ units_of ks
of_none [] = refl
of_none (k ∷ ks) = λ i. states.of_none k i ∷ of_none ks i

pub nothing_added : (vs : List AggState) → merged_rows vs (units_of (kinds_of vs)) ≡ vs
nothing_added [] = refl
nothing_added (v ∷ vs) = λ i. states.nothing_added v i ∷ nothing_added vs i

pub of_both : (ks : List AggKind) (xs ys : List (List ℤ)) → row_of ks (xs ++ ys)
    ≡ merged_rows (row_of ks xs) (row_of ks ys)
of_both [] xs ys = refl
of_both (k ∷ ks) xs ys =
    (λ i. state_of k (map-append head_of xs ys i) ∷ row_of ks (map-append tail_of xs ys i))
    ∙ (λ i. states.of_both k (map head_of xs) (map head_of ys) i
    ∷ of_both ks (map tail_of xs) (map tail_of ys) i)

pub any_grouping : (us vs ws : List AggState) → merged_rows (merged_rows us vs) ws
    ≡ merged_rows us (merged_rows vs ws)
any_grouping [] vs ws = refl
any_grouping (u ∷ us) [] ws = refl
any_grouping (u ∷ us) (v ∷ vs) [] = refl
any_grouping (u ∷ us) (v ∷ vs) (w ∷ ws) = λ i. states.any_grouping u v w i ∷ any_grouping us vs ws i

pub any_order : (vs ws : List AggState) → merged_rows vs ws ≡ merged_rows ws vs
any_order [] [] = refl
any_order [] (w ∷ ws) = refl
any_order (v ∷ vs) [] = refl
any_order (v ∷ vs) (w ∷ ws) = λ i. states.any_order v w i ∷ any_order vs ws i

of_more : (ks : List AggKind) (x : List ℤ) (xs : List (List ℤ)) → row_of ks (x ∷ xs)
    ≡ merged_rows (row_of ks (x ∷ [])) (row_of ks xs)
of_more ks x xs = of_both ks (x ∷ []) xs

pub same_permuted : (ks : List AggKind) (xs ys : List (List ℤ)) → IsPermutation xs ys → row_of ks ys
    ≡ row_of ks xs
same_permuted ks xs ys h =
    permuted merged_rows any_grouping any_order (row_of ks) (of_more ks) xs ys h

pub fits_both : (vs ws : List AggState) (n m : ℕ) → RowFits vs n → RowFits ws m
    → RowFits (merged_rows vs ws) (n + m)
fits_both [] ws n m p q = tt
fits_both (v ∷ vs) [] n m p q = tt
fits_both (v ∷ vs) (w ∷ ws) n m p q =
    (states.fits_both v w n m p.0 q.0, fits_both vs ws n m p.1 q.1)

pub fits_more : (vs : List AggState) (n m : ℕ) → RowFits vs n → n ≤ m → RowFits vs m
fits_more [] n m h le = tt
fits_more (v ∷ vs) n m h le = (states.fits_more v n m h.0 le, fits_more vs n m h.1 le)

-- a sum that fits n values weighs at most n, and fits its own weight
pub sum_weight_least : (s : ℤ) (n : ℕ) → SumFits s n → sum_weight s ≤ n
sum_weight_least (pos s) n h = omega (arith, ints)
sum_weight_least (negsuc s) n h = omega (arith, ints)

pub sum_fits_weight : (s : ℤ) → SumFits s (sum_weight s)
sum_fits_weight (pos s) = (omega (arith, ints), omega (arith, ints))
sum_fits_weight (negsuc s) = (omega (arith, ints), omega (arith, ints))

pub weight_least : (v : AggState) (n : ℕ) → Fits v n → weight_of v ≤ n
weight_least (Count c) n h = h
weight_least (Sum s) n h = sum_weight_least s n h
weight_least (Least m) n h = omega arith
weight_least (Greatest m) n h = omega arith
weight_least (Average a) n h = h.0

-- a state that fits some number of values fits its weight
pub fits_weight : (v : AggState) (n : ℕ) → Fits v n → Fits v (weight_of v)
fits_weight (Count c) n h = omega arith
fits_weight (Sum s) n h = sum_fits_weight s
fits_weight (Least m) n h = h
fits_weight (Greatest m) n h = h
fits_weight (Average a) n h = (omega arith, h.1)

-- states of both weigh at most what both weigh
sum_weight_both : (s t : ℤ) → sum_weight (s +ℤ t) ≤ sum_weight s + sum_weight t
sum_weight_both s t = sum_weight_least (s +ℤ t) (sum_weight s + sum_weight t)
    (sums.fits_both s t (sum_weight s) (sum_weight t) (sum_fits_weight s) (sum_fits_weight t))

-- either of two states
either_weight : (b : Bool) (v w : AggState) → weight_of (if b then v else w) ≤ weight_of v
    + weight_of w
either_weight true v w = omega arith
either_weight false v w = omega arith

pub weight_both : (v w : AggState) → weight_of (merged v w) ≤ weight_of v + weight_of w
weight_both (Count v) (Count w) = omega arith
weight_both (Sum v) (Sum w) = sum_weight_both v w
weight_both (Least v) (Least w) = omega arith
weight_both (Greatest v) (Greatest w) = omega arith
weight_both (Average v) (Average w) = omega arith
weight_both v w = either_weight (nat_le (rank_of (kind_of v)) (rank_of (kind_of w))) v w

pub row_weight_both : (vs ws : List AggState) → row_weight (merged_rows vs ws) ≤ row_weight vs
    + row_weight ws
row_weight_both [] ws = omega arith
row_weight_both (v ∷ vs) [] = omega arith
row_weight_both (v ∷ vs) (w ∷ ws) = let own = weight_both v w in let more = row_weight_both vs ws
    in omega (arith, own, more)

pub row_weight_least : (vs : List AggState) (n : ℕ) → RowFits vs n → row_weight vs ≤ n
row_weight_least [] n h = omega arith
row_weight_least (v ∷ vs) n h = let own = weight_least v n h.0
    in let more = row_weight_least vs n h.1 in omega (arith, own, more)

pub row_fits_weight : (vs : List AggState) (n : ℕ) → RowFits vs n → RowFits vs (row_weight vs)
row_fits_weight [] n h = tt
row_fits_weight (v ∷ vs) n h = (
  states.fits_more v (weight_of v) (row_weight (v ∷ vs)) (fits_weight v n h.0) (omega arith),
  fits_more vs (row_weight vs) (row_weight (v ∷ vs)) (row_fits_weight vs n h.1) (omega arith),
)

-- either of two states
either_stored : (b : Bool) (v w : AggState) → IsStored v → IsStored w
    → IsStored (if b then v else w)
either_stored true v w p q = p
either_stored false v w p q = q

-- states of no more values than a segment has are stored when they are merged
pub stored_both : (v w : AggState) → IsStored v → IsStored w → weight_of v
    + weight_of w ≤ most_stored → IsStored (merged v w)
stored_both (Count v) (Count w) p q at_most = (omega (arith, p.0), at_most)
stored_both (Sum v) (Sum w) p q at_most =
    sums.fits_more (v +ℤ w) (sum_weight v + sum_weight w) most_stored
    (sums.fits_both v w (sum_weight v) (sum_weight w) (sum_fits_weight v)
    (sum_fits_weight w)) at_most
stored_both (Least None) (Least w) p q at_most = absurd p
stored_both (Least (Some v)) (Least None) p q at_most = absurd q
stored_both (Least (Some v)) (Least (Some w)) p q at_most = leasts.fits_both (Some v) (Some w) p q
stored_both (Greatest None) (Greatest w) p q at_most = absurd p
stored_both (Greatest (Some v)) (Greatest None) p q at_most = absurd q
stored_both (Greatest (Some v)) (Greatest (Some w)) p q at_most =
    greatests.fits_both (Some v) (Some w) p q
stored_both (Average v) (Average w) p q at_most =
    ((omega (arith, p.0.0), at_most), sums.fits_both v.sum w.sum v.count w.count p.1 q.1)
stored_both v w p q at_most =
    either_stored (nat_le (rank_of (kind_of v)) (rank_of (kind_of w))) v w p q

pub row_stored_both : (vs ws : List AggState) → RowStored vs → RowStored ws → row_weight vs
    + row_weight ws ≤ most_stored → RowStored (merged_rows vs ws)
row_stored_both [] ws p q at_most = tt
row_stored_both (v ∷ vs) [] p q at_most = tt
row_stored_both (v ∷ vs) (w ∷ ws) p q at_most = (
  stored_both v w p.0 q.0 (omega (arith, at_most)),
  row_stored_both vs ws p.1 q.1
      (omega (arith, at_most)),
)
