-- The least width that tells so many ids apart.
use Rattle.std.proofs.Common.{max, ap, ◌∙◌, ◌≡◌, ◌≤◌, ◌<◌, inl, inr, ℕ, suc, ◌-◌, ◌^◌, refl, subst, arith}
use Rattle.std.proofs.Math.Nat.{pow-le-pow_right}
use Rattle.std.proofs.lemmas.Nat.{leading_top}
use Rattle.std.specs.Int.Count.{count_leading_zeros, leading_of_zero}
use Rattle.std.proofs.lemmas.Bool.{cases_lt}
use Rattle.bit_column.specs.Column.{IsWidth, width_of}

at_least : (count j other : ℕ) → 0 < count → 2 ^ j ≤ count - 1 → count ≤ 2 ^ other → suc j ≤ other
at_least count j other some low fits =
    elim (cases_lt j other) as (λ _. suc j ≤ other) [
      | inl h ↦ omega arith
      | inr h ↦ let e : 2 ^ other ≤ 2 ^ j = pow-le-pow_right (omega arith) h in omega arith
    ]

least-of : (count zeros : ℕ) → count < 2 ^ 32 → zeros ≡ count_leading_zeros 32 (count - 1) → IsWidth count (max 1 (32 - zeros))
least-of count zeros fits is =
    elim (cases_lt 1 count) as (λ _. IsWidth count (max 1 (32 - zeros))) [
      | inl some ↦
          let top = leading_top 32 (count - 1) (omega arith) (omega arith) in
          let width : suc top.0 ≡ max 1 (32 - zeros) = omega (arith, top.1, is) in
          subst (IsWidth count) width (omega arith, omega (arith, top.3), λ other one fits. at_least count top.0 other (omega arith) top.2 fits)
      | inr none ↦
          let nothing : count - 1 ≡ 0 = omega arith in
          let all : zeros ≡ 32 = is ∙ ap (count_leading_zeros 32) nothing ∙ leading_of_zero 32 in
          let width : 1 ≡ max 1 (32 - zeros) = omega arith in
          subst (IsWidth count) width (omega arith, omega arith, λ other one fits. one)
    ]

pub width-least : (count : ℕ) → count < 2 ^ 32 → IsWidth count (width_of count)
width-least count fits = least-of count (count_leading_zeros 32 (count - 1)) fits refl
