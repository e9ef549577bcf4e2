-- Whether some column has a property, column by column.
use Rattle.std.proofs.Common.{◌≡◌, ◌∙◌, ◌<◌, ◌+◌, ℕ, zero, suc, Bool, true, false, ◌||◌, get_or, refl, sym, ap, subst, arith}
use Rattle.std.proofs.lemmas.Bool.{false≢true}
use Rattle.std.proofs.lemmas.List.Folds.{list_any_at}
use Rattle.std.proofs.lemmas.List.FromFn.{length-range_with_len, get_or-range_with_len}
use Rattle.std.specs.List.{list_any, range_with_len}

neither : (a b : Bool) → a || b ≡ false → (a ≡ false) × (b ≡ false)
neither true b e = absurd (false≢true (sym e))
neither false b e = (refl, e)

-- a column below the count has it
pub some_column : (p : ℕ → Bool) (count column : ℕ) → column < count → p column ≡ true → list_any p (range_with_len 0 count) ≡ true
some_column p count column lt is =
    let plain : 0 + column ≡ column = omega arith in
    let at : get_or (range_with_len 0 count) column 0 ≡ column = get_or-range_with_len 0 count column 0 lt ∙ plain in
    list_any_at p (range_with_len 0 count) column 0 (subst (λ n. column < n) (sym (length-range_with_len 0 count)) lt) (ap p at ∙ is)

none_more : (p : ℕ → Bool) (from count : ℕ) → list_any p (range_with_len from count) ≡ false → p (from + count) ≡ false → list_any p (range_with_len from (suc count)) ≡ false
none_more p from zero none is = let here : from + 0 ≡ from = omega arith in (λ i. subst (λ n. p n ≡ false) here is i || false)
none_more p from (suc count) none is =
    let parts = neither (p from) (list_any p (range_with_len (from + 1) count)) none in
    let next : from + suc count ≡ from + 1 + count = omega arith in
    (λ i. parts.0 i || none_more p (from + 1) count parts.1 (subst (λ n. p n ≡ false) next is) i)

-- neither the columns before nor this one has it
pub no_column : (p : ℕ → Bool) (column : ℕ) → list_any p (range_with_len 0 column) ≡ false → p column ≡ false → list_any p (range_with_len 0 (column + 1)) ≡ false
no_column p column none is =
    let plain : 0 + column ≡ column = omega arith in
    let more : suc column ≡ column + 1 = omega arith in
    subst (λ n. list_any p (range_with_len 0 n) ≡ false) more (none_more p 0 column none (ap p plain ∙ is))
