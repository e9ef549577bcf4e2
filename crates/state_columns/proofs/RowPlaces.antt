-- A loop that changes the states of a row in their order.
use Rattle.std.proofs.Common.{◌≡◌, ℕ, zero, suc, ◌+◌, ◌<◌, ◌≤◌, List, [], ◌∷◌, map, length, get_or}
use Rattle.std.proofs.Common.{set, refl, ap, ◌∙◌, arith, ℤ}
use Rattle.agg_laws.specs.declared.states.AggState.{AggState}
use Rattle.agg_laws.specs.declared.aggregate_kind.AggKind.{AggKind}
use Rattle.agg_laws.specs.States.{kind_of, state_of, merged, Fits}
use Rattle.agg_laws.specs.Rows.{tail_of, row_of, kinds_of, merged_rows, RowFits}

-- the states of a row, of which the first n are merged with those of another
abbrev pub mixed : ℕ → List AggState → List AggState → List AggState
mixed zero vs ws = vs
mixed (suc n) [] ws = []
mixed (suc n) (v ∷ vs) [] = v ∷ vs
mixed (suc n) (v ∷ vs) (w ∷ ws) = merged v w ∷ mixed n vs ws

front : (a b : AggKind) (ks ls : List AggKind) → a ∷ ks ≡ b ∷ ls → a ≡ b
front a b ks ls e = cc

rest : (a b : AggKind) (ks ls : List AggKind) → a ∷ ks ≡ b ∷ ls → ks ≡ ls
rest a b ks ls e = cc

pub same_length : (vs ws : List AggState) → kinds_of vs ≡ kinds_of ws → length vs ≡ length ws
same_length [] [] h = refl
same_length [] (w ∷ ws) h = cc
same_length (v ∷ vs) [] h = cc
same_length (v ∷ vs) (w ∷ ws) h =
    ap suc (same_length vs ws (rest (kind_of v) (kind_of w) (kinds_of vs) (kinds_of ws) h))

-- a place that is not reached yet
pub mixed_at : (n : ℕ) (vs ws : List AggState) (i : ℕ) (d : AggState) → n ≤ i
    → get_or (mixed n vs ws) i d ≡ get_or vs i d
mixed_at zero vs ws i d h = refl
mixed_at (suc n) [] ws i d h = refl
mixed_at (suc n) (v ∷ vs) [] i d h = refl
mixed_at (suc n) (v ∷ vs) (w ∷ ws) zero d h = absurd (omega arith)
mixed_at (suc n) (v ∷ vs) (w ∷ ws) (suc i) d h = mixed_at n vs ws i d (omega arith)

-- one more place
pub mixed_more : (n : ℕ) (vs ws : List AggState) (d e : AggState) → n < length vs → length vs
    ≡ length ws
    → set (mixed n vs ws) n (merged (get_or vs n d) (get_or ws n e)) ≡ mixed (n + 1) vs ws
mixed_more zero [] ws d e h l = absurd (omega arith)
mixed_more zero (v ∷ vs) [] d e h l = absurd (omega arith)
mixed_more zero (v ∷ vs) (w ∷ ws) d e h l = refl
mixed_more (suc n) [] ws d e h l = absurd (omega arith)
mixed_more (suc n) (v ∷ vs) [] d e h l = absurd (omega arith)
mixed_more (suc n) (v ∷ vs) (w ∷ ws) d e h l =
    ap (λ t. merged v w ∷ t) (mixed_more n vs ws d e (omega arith) (omega arith))
    ∙ step (n + 1) (suc n + 1) (omega arith)
  where
    step : (k m : ℕ) → suc k ≡ m → merged v w ∷ mixed k vs ws ≡ mixed m (v ∷ vs) (w ∷ ws)
    step k m e = ap (λ j. mixed j (v ∷ vs) (w ∷ ws)) e

-- all of them
pub mixed_all : (vs ws : List AggState) → length vs ≡ length ws → mixed (length vs) vs ws
    ≡ merged_rows vs ws
mixed_all [] ws l = refl
mixed_all (v ∷ vs) [] l = absurd (omega arith)
mixed_all (v ∷ vs) (w ∷ ws) l = ap (λ t. merged v w ∷ t) (mixed_all vs ws (omega arith))

-- what holds in each place
pub kind_at : (vs ws : List AggState) (i : ℕ) (d e : AggState) → kinds_of vs ≡ kinds_of ws
    → i < length vs → kind_of (get_or vs i d) ≡ kind_of (get_or ws i e)
kind_at [] ws i d e h lt = absurd (omega arith)
kind_at (v ∷ vs) [] i d e h lt = cc
kind_at (v ∷ vs) (w ∷ ws) zero d e h lt =
    front (kind_of v) (kind_of w) (kinds_of vs) (kinds_of ws) h
kind_at (v ∷ vs) (w ∷ ws) (suc i) d e h lt =
    kind_at vs ws i d e (rest (kind_of v) (kind_of w) (kinds_of vs) (kinds_of ws) h) (omega arith)

pub fits_at : (vs ws : List AggState) (n i : ℕ) (d e : AggState) → RowFits (merged_rows vs ws) n
    → length vs ≡ length ws → i < length vs → Fits (merged (get_or vs i d) (get_or ws i e)) n
fits_at [] ws n i d e h l lt = absurd (omega arith)
fits_at (v ∷ vs) [] n i d e h l lt = absurd (omega arith)
fits_at (v ∷ vs) (w ∷ ws) n zero d e h l lt = h.0
fits_at (v ∷ vs) (w ∷ ws) n (suc i) d e h l lt =
    fits_at vs ws n i d e h.1 (omega arith) (omega arith)

-- the states of one row of numbers
pub length-row_of : (ks : List AggKind) (rows : List (List ℤ)) → length (row_of ks rows) ≡ length ks
length-row_of [] rows = refl
length-row_of (k ∷ ks) rows = ap suc (length-row_of ks (map tail_of rows))

pub length-kinds_of : (vs : List AggState) → length (kinds_of vs) ≡ length vs
length-kinds_of [] = refl
length-kinds_of (v ∷ vs) = ap suc (length-kinds_of vs)

pub row_at : (vs : List AggState) (xs : List ℤ) (i : ℕ) (d e : AggState) (z : ℤ) → length xs
    ≡ length vs → i < length vs
    → get_or (row_of (kinds_of vs) (xs ∷ [])) i e
    ≡ state_of (kind_of (get_or vs i d)) (get_or xs i z ∷ [])
row_at [] xs i d e z l lt = absurd (omega arith)
row_at (v ∷ vs) [] i d e z l lt = absurd (omega arith)
row_at (v ∷ vs) (x ∷ xs) zero d e z l lt = refl
row_at (v ∷ vs) (x ∷ xs) (suc i) d e z l lt = row_at vs xs i d e z (omega arith) (omega arith)
