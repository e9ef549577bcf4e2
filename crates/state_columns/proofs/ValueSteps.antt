-- The states of a row of values.
use Rattle.std.proofs.Common.{◌≡◌, ℕ, zero, suc, ◌<◌, List, [], ◌∷◌, map}
use Rattle.std.proofs.Common.{length, take, get_or, refl, arith, ℤ, pos}
use Rattle.std.proofs.Common.{FitsSigned, w64}
use Rattle.agg_laws.specs.declared.aggregate_kind.AggKind.{AggKind}
use Rattle.agg_laws.specs.declared.aggregate_kind.AggKind.TheVariants as kinds
use Rattle.agg_laws.specs.Numbers.{most_stored, AreWhole, IsWhole}
use Rattle.agg_laws.specs.States.{kind_of, state_of, IsStored}
use Rattle.agg_laws.specs.Rows.{head_of, tail_of, row_of, kinds_of, RowFits, RowStored}
use Rattle.agg_laws.specs.laws.States as laws
use Rattle.agg_laws.specs.laws.NumberBytes.{whole_64}

-- one more number of 64 bits
pub whole_more : (i : ℕ) (xs : List ℤ) → i < length xs → FitsSigned w64 (get_or xs i (pos 0))
    → AreWhole (take i xs) → AreWhole (take (suc i) xs)
whole_more i [] lt f h = absurd (omega arith)
whole_more zero (x ∷ xs) lt f h = (whole_64 x f, tt)
whole_more (suc i) (x ∷ xs) lt f h = (h.0, whole_more i xs (omega arith) f h.1)

pub kind_one : (k : AggKind) (xs : List ℤ) → kind_of (state_of k xs) ≡ k
kind_one kinds.Count xs = refl
kind_one kinds.Sum xs = refl
kind_one kinds.Least xs = refl
kind_one kinds.Greatest xs = refl
kind_one kinds.Average xs = refl

pub kinds_row : (ks : List AggKind) (xs : List (List ℤ)) → kinds_of (row_of ks xs) ≡ ks
kinds_row [] xs = refl
kinds_row (k ∷ ks) xs = λ i. kind_one k (map head_of xs) i ∷ kinds_row ks (map tail_of xs) i

-- the state of one value can be stored
stored_one : (k : AggKind) (x : ℤ) → IsWhole x → IsStored (state_of k (x ∷ []))
stored_one kinds.Count x h = (omega arith, omega arith)
stored_one kinds.Sum x h = laws.fits_more (state_of kinds.Sum (x ∷ [])) 1 most_stored
    (laws.fits_of kinds.Sum (x ∷ []) (h, tt)) (omega arith)
stored_one kinds.Least x h = h
stored_one kinds.Greatest x h = h
stored_one kinds.Average x h =
    ((omega arith, omega arith), (laws.fits_of kinds.Average (x ∷ []) (h, tt)).1)

pub stored_row : (ks : List AggKind) (xs : List ℤ) → length xs ≡ length ks → AreWhole xs
    → RowStored (row_of ks (xs ∷ []))
stored_row [] xs l h = tt
stored_row (k ∷ ks) [] l h = absurd (omega (arith, l))
stored_row (k ∷ ks) (x ∷ xs) l h = (stored_one k x h.0, stored_row ks xs (omega (arith, l)) h.1)

pub fits_row : (ks : List AggKind) (xs : List ℤ) → length xs ≡ length ks → AreWhole xs
    → RowFits (row_of ks (xs ∷ [])) 1
fits_row [] xs l h = tt
fits_row (k ∷ ks) [] l h = absurd (omega (arith, l))
fits_row (k ∷ ks) (x ∷ xs) l h =
    (laws.fits_of k (x ∷ []) (h.0, tt), fits_row ks xs (omega (arith, l)) h.1)
