-- Ids are kept column by column.
use Rattle.std.proofs.Common.{◌≡◌, ◌∙◌, ◌<◌, ◌≤◌, ◌+◌, ℕ, zero, suc, Option, Some, None, IfSome, List, [], ◌∷◌, length, get_or, slice_get, take, refl, sym, ap, arith}
use Rattle.std.specs.Prelude.{set}
use Rattle.value_ids.specs.Dictionary.{Distinct, most_values}
use Rattle.segment_head.specs.ColumnIds.{ids_below, with_ids}
use Rattle.segment_head.specs.Heads.{Seen}
use Rattle.segment_opening.specs.Found.{count_of, ids_in, keeping, with_counts}
use Rattle.segment_opening.proofs.IdsIn.{ids_long}
use Rattle.query_executor.specs.ByIds.{kept_if}

same_none : (counts : List (Option ℕ)) (ds : List (Option Distinct)) (k : ℕ) → slice_get counts k ≡ Some None → ids_in (take (suc k) counts) ds ≡ ids_in (take k counts) ds
same_none [] ds k at = absurd cc
same_none (None ∷ counts) [] zero at = refl
same_none (None ∷ counts) (d ∷ ds) zero at = refl
same_none (Some n ∷ counts) ds zero at = absurd cc
same_none (None ∷ counts) [] (suc k) at = refl
same_none (Some n ∷ counts) [] (suc k) at = refl
same_none (None ∷ counts) (d ∷ ds) (suc k) at = ap (λ xs. d ∷ xs) (same_none counts ds k at)
same_none (Some n ∷ counts) (d ∷ ds) (suc k) at = ap (λ xs. Some (ids_below n) ∷ xs) (same_none counts ds k at)

set_some : (counts : List (Option ℕ)) (ds : List (Option Distinct)) (k n : ℕ) → slice_get counts k ≡ Some (Some n) → ids_in (take (suc k) counts) ds ≡ set (ids_in (take k counts) ds) k (Some (ids_below n))
set_some [] ds k n at = absurd cc
set_some (None ∷ counts) ds zero n at = absurd cc
set_some (Some m ∷ counts) [] zero n at = refl
set_some (Some m ∷ counts) (d ∷ ds) zero n at = let same : m ≡ n = cc in ap (λ j. Some (ids_below j) ∷ ds) same
set_some (None ∷ counts) [] (suc k) n at = refl
set_some (Some m ∷ counts) [] (suc k) n at = refl
set_some (None ∷ counts) (d ∷ ds) (suc k) n at = ap (λ xs. d ∷ xs) (set_some counts ds k n at)
set_some (Some m ∷ counts) (d ∷ ds) (suc k) n at = ap (λ xs. Some (ids_below m) ∷ xs) (set_some counts ds k n at)

pub kept_more : (counts : List (Option ℕ)) (first head : Seen) (k : ℕ) (o : Option ℕ) → head ≡ with_counts (take k counts) first → slice_get counts k ≡ Some o → kept_if k o head ≡ with_counts (take (k + 1) counts) first
kept_more counts first head k None is at =
    let next : suc k ≡ k + 1 = omega arith in
    is ∙ ap (λ ds. keeping ds first) (sym (same_none counts first.dictionaries k at) ∙ ap (λ j. ids_in (take j counts) first.dictionaries) next)
kept_more counts first head k (Some n) is at =
    let next : suc k ≡ k + 1 = omega arith in
    ap (with_ids k n) is ∙ ap (λ ds. keeping ds first) (sym (set_some counts first.dictionaries k n at) ∙ ap (λ j. ids_in (take j counts) first.dictionaries) next)

-- as many dictionaries stay
pub kept_long : (counts : List (Option ℕ)) (first head : Seen) (k : ℕ) → head ≡ with_counts (take k counts) first → length head.dictionaries ≡ length first.dictionaries
kept_long counts first head k is = ap (λ (h : Seen). length h.dictionaries) is ∙ ids_long (take k counts) first.dictionaries

pub few_at : (counts : List (Option ℕ)) (k : ℕ) (o : Option ℕ) → ((c n : ℕ) → count_of counts c ≡ Some n → n ≤ most_values) → slice_get counts k ≡ Some o → IfSome o (λ n. n ≤ most_values)
few_at counts k None few at = tt
few_at counts k (Some n) few at = few k n (found counts k at)
  where
    found : (xs : List (Option ℕ)) (k : ℕ) → slice_get xs k ≡ Some (Some n) → get_or xs k None ≡ Some n
    found [] k at = absurd cc
    found (x ∷ xs) zero at = cc
    found (x ∷ xs) (suc k) at = found xs k at
