-- Counts that rise over calls.
use Rattle.std.proofs.Common.{◌≡◌, ◌≤◌, ◌-◌, ◌^◌, ℕ, inl, inr, sym, ◌∙◌, arith}
use Rattle.std.proofs.Math.Nat.{eq-or-lt_of_le}
use Rattle.outside.specs.Counts.{Rose}

-- where the count stood at the end before, it stands there still or is greater
last_after : (before between after : ℕ) → before ≤ between → between ≤ after → between ≡ 2 ^ 64 - 1 → before ≡ between → Rose before after
last_after before between after p q last same = elim (eq-or-lt_of_le q) [ inl unchanged ↦ inr (sym unchanged ∙ last) | inr less ↦ inl (omega arith) ]

-- a count that rose in the first of two calls rose in both
pub Rose-first : (before between after : ℕ) → before ≤ between → between ≤ after → Rose before between → Rose before after
Rose-first before between after p q (inl less) = inl (omega arith)
Rose-first before between after p q (inr last) = elim (eq-or-lt_of_le p) [ inl same ↦ last_after before between after p q last same | inr less ↦ inl (omega arith) ]

-- and so did one that rose in the second
pub Rose-second : (before between after : ℕ) → before ≤ between → Rose between after → Rose before after
Rose-second before between after p (inl less) = inl (omega arith)
Rose-second before between after p (inr last) = inr last

-- a count that did not rise is what it was
pub unchanged : (before after : ℕ) → before ≤ after → ¬ Rose before after → after ≡ before
unchanged before after p none = elim (eq-or-lt_of_le p) [ inl same ↦ sym same | inr less ↦ absurd (none (inl less)) ]
