-- The columns of the rows that the program generates, while they grow.
use Rattle.std.specs.Prelude.{◌≡◌, ◌/◌, ◌*◌, ◌%◌, ◌+◌, ℕ, true, false, pos, [], ◌∷◌}
use Rattle.values.specs.Columns.{pushed}
use Rattle.values.specs.declared.value.Value.TheVariants as value
use Rattle.command_model.specs.Generated.{less_half}
use Rattle.commands.specs.declared.generated.Generated.{Generated}

-- the first is of texts, and the others are of numbers
pub record HasSorts (made : Generated) : Type 0 where
  pub a : made.a.are_texts ≡ true
  pub b : made.b.are_texts ≡ false
  pub c : made.c.are_texts ≡ false
  pub m : made.m.are_texts ≡ false

-- a row was added to them
pub record AddsRow (row : ℕ) (old new : Generated) : Type 0 where
  pub a : new.a ≡ pushed old.a (value.Text (97 ∷ (48 + row % 7) ∷ []))
  pub b : new.b ≡ pushed old.b (value.Whole (pos (row * row % 11)))
  pub c : new.c ≡ pushed old.c (value.Whole (pos (row / 3 % 50)))
  pub m : new.m ≡ pushed old.m (value.Whole (less_half (31 * row % 1000)))
