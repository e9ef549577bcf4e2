-- The laws of the aggregates, for states of any kind and rows of them.
use Rattle.std.proofs.Common.{◌≡◌, Bool, true, false, nat_le, if◌then◌else◌, ℕ, ◌+◌, ◌≤◌, List, []}
use Rattle.std.proofs.Common.{◌++◌, length, refl, ap, arith}
use Rattle.std.specs.Prelude.{ℤ}
use Rattle.std.specs.List.Sorted.{IsPermutation}
use Rattle.agg_laws.specs.declared.aggregate_kind.AggKind.{AggKind}
use Rattle.agg_laws.specs.declared.aggregate_kind.AggKind.TheVariants as kinds
use Rattle.agg_laws.specs.declared.states.AggState.{AggState}
use Rattle.agg_laws.specs.declared.states.AggState.TheVariants.{Count, Sum, Least, Greatest}
use Rattle.agg_laws.specs.declared.states.AggState.TheVariants.{Average}
use Rattle.agg_laws.specs.Numbers.{AreWhole, most_stored}
use Rattle.agg_laws.specs.States.{kind_of, rank_of, state_of, unit_of, merged, Fits, IsStored}
use Rattle.agg_laws.specs.States.{spelling}
use Rattle.agg_laws.specs.Kind.{width_of}
use Rattle.agg_laws.specs.laws.Counts as counts
use Rattle.agg_laws.specs.laws.Sums as sums
use Rattle.agg_laws.specs.laws.Leasts as leasts
use Rattle.agg_laws.specs.laws.Greatests as greatests
use Rattle.agg_laws.specs.laws.NumberBytes as numbers
use Rattle.agg_laws.specs.laws.Averages as averages

pub of_none : (k : AggKind) → state_of k [] ≡ unit_of k
of_none kinds.Count = refl
of_none kinds.Sum = refl
of_none kinds.Least = refl
of_none kinds.Greatest = refl
of_none kinds.Average = refl

pub nothing_added : (v : AggState) → merged v (unit_of (kind_of v)) ≡ v
nothing_added (Count c) = ap Count (counts.nothing_added c)
nothing_added (Sum s) = ap Sum (sums.nothing_added s)
nothing_added (Least m) = ap Least (leasts.nothing_added m)
nothing_added (Greatest m) = ap Greatest (greatests.nothing_added m)
nothing_added (Average a) = ap Average (averages.nothing_added a)

pub of_both : (k : AggKind) (xs ys : List ℤ) → state_of k (xs ++ ys)
    ≡ merged (state_of k xs) (state_of k ys)
of_both kinds.Count xs ys = ap Count (counts.of_both xs ys)
of_both kinds.Sum xs ys = ap Sum (sums.of_both xs ys)
of_both kinds.Least xs ys = ap Least (leasts.of_both xs ys)
of_both kinds.Greatest xs ys = ap Greatest (greatests.of_both xs ys)
of_both kinds.Average xs ys = ap Average (averages.of_both xs ys)

pub any_grouping : (u v w : AggState) → merged (merged u v) w ≡ merged u (merged v w)
any_grouping (Count u) (Count v) (Count w) = ap Count (counts.any_grouping u v w)
any_grouping (Sum u) (Sum v) (Sum w) = ap Sum (sums.any_grouping u v w)
any_grouping (Least u) (Least v) (Least w) = ap Least (leasts.any_grouping u v w)
any_grouping (Greatest u) (Greatest v) (Greatest w) = ap Greatest (greatests.any_grouping u v w)
any_grouping (Average u) (Average v) (Average w) = ap Average (averages.any_grouping u v w)
any_grouping u (Count v) (Count w) = refl
any_grouping u (Sum v) (Sum w) = refl
any_grouping u (Least v) (Least w) = refl
any_grouping u (Greatest v) (Greatest w) = refl
any_grouping u (Average v) (Average w) = refl
any_grouping u v w = refl

pub any_order : (v w : AggState) → merged v w ≡ merged w v
any_order (Count v) (Count w) = ap Count (counts.any_order v w)
any_order (Sum v) (Sum w) = ap Sum (sums.any_order v w)
any_order (Least v) (Least w) = ap Least (leasts.any_order v w)
any_order (Greatest v) (Greatest w) = ap Greatest (greatests.any_order v w)
any_order (Average v) (Average w) = ap Average (averages.any_order v w)
any_order v w = refl

pub same_permuted : (k : AggKind) (xs ys : List ℤ) → IsPermutation xs ys → state_of k ys
    ≡ state_of k xs
same_permuted kinds.Count xs ys h = ap Count (counts.same_permuted xs ys h)
same_permuted kinds.Sum xs ys h = ap Sum (sums.same_permuted xs ys h)
same_permuted kinds.Least xs ys h = ap Least (leasts.same_permuted xs ys h)
same_permuted kinds.Greatest xs ys h = ap Greatest (greatests.same_permuted xs ys h)
same_permuted kinds.Average xs ys h = ap Average (averages.same_permuted xs ys h)

pub fits_of : (k : AggKind) (xs : List ℤ) → AreWhole xs → Fits (state_of k xs) (length xs)
fits_of kinds.Count xs h = counts.fits_of xs h
fits_of kinds.Sum xs h = sums.fits_of xs h
fits_of kinds.Least xs h = leasts.fits_of xs h
fits_of kinds.Greatest xs h = greatests.fits_of xs h
fits_of kinds.Average xs h = averages.fits_of xs h

pub fits_more : (v : AggState) (n m : ℕ) → Fits v n → n ≤ m → Fits v m
fits_more (Count c) n m h le = counts.fits_more c n m h le
fits_more (Sum s) n m h le = sums.fits_more s n m h le
fits_more (Least x) n m h le = h
fits_more (Greatest x) n m h le = h
fits_more (Average a) n m h le = averages.fits_more a n m h le

-- either of two states
either_fits : (b : Bool) (v w : AggState) (n m : ℕ) → Fits v n → Fits w m
    → Fits (if b then v else w) (n + m)
either_fits true v w n m p q = fits_more v n (n + m) p (omega arith)
either_fits false v w n m p q = fits_more w m (n + m) q (omega arith)

pub fits_both : (v w : AggState) (n m : ℕ) → Fits v n → Fits w m → Fits (merged v w) (n + m)
fits_both (Count v) (Count w) n m p q = counts.fits_both v w n m p q
fits_both (Sum v) (Sum w) n m p q = sums.fits_both v w n m p q
fits_both (Least v) (Least w) n m p q = leasts.fits_both v w p q
fits_both (Greatest v) (Greatest w) n m p q = greatests.fits_both v w p q
fits_both (Average v) (Average w) n m p q = averages.fits_both v w n m p q
fits_both v w n m p q = either_fits (nat_le (rank_of (kind_of v)) (rank_of (kind_of w))) v w n m p q

pub stored_fits : (v : AggState) → IsStored v → Fits v most_stored
stored_fits (Count c) h = counts.stored_fits c h
stored_fits (Sum s) h = h
stored_fits (Least m) h = leasts.stored_fits m h
stored_fits (Greatest m) h = greatests.stored_fits m h
stored_fits (Average a) h = averages.stored_fits a h

pub spelled : (v : AggState) → IsStored v → length (spelling v) ≡ width_of (kind_of v)
spelled (Count c) h = counts.spelled c h
spelled (Sum s) h = sums.spelled s h
spelled (Least m) h = numbers.spelled m h
spelled (Greatest m) h = numbers.spelled m h
spelled (Average a) h = averages.spelled a h

pub one_spelling : (v w : AggState) → kind_of v ≡ kind_of w → IsStored v → IsStored w → spelling v
    ≡ spelling w → v ≡ w
one_spelling (Count v) (Count w) same h k is = ap Count (counts.one_spelling v w h k is)
one_spelling (Sum v) (Sum w) same h k is = ap Sum (sums.one_spelling v w h k is)
one_spelling (Least v) (Least w) same h k is = ap Least (numbers.one_spelling v w h k is)
one_spelling (Greatest v) (Greatest w) same h k is = ap Greatest (numbers.one_spelling v w h k is)
one_spelling (Average v) (Average w) same h k is = ap Average (averages.one_spelling v w h k is)
one_spelling v w same h k is = cc
