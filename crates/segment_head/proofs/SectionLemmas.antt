-- The sections of a head by their numbers, and how many rows it may say.
use Rattle.std.proofs.Common.{◌≡◌, ◌<◌, ◌≤◌, ◌&&◌, ℕ, zero, suc, Bool, true, false, List, [], ◌∷◌, length, slice_get, Option, Some, None, IfSome, refl, subst, arith}
use Rattle.std.proofs.lemmas.Bool.{false≢true}
use Rattle.table_schema.specs.declared.table.Table.{Table}
use Rattle.segment_file.specs.declared.section.Section.{Section}
use Rattle.segment_head.specs.Heads.{IsHeadOf, Seen}

pub rows_few : (table : Table) (head : Seen) → IsHeadOf table head → head.rows ≤ 1048576
rows_few table head of = let at_most = of.at_most in let rows = of.has.rows_are in omega (arith, at_most, rows)

pub section_at : (xs : List Section) (k : ℕ) → k < length xs → (s : Section) × (slice_get xs k ≡ Some s)
section_at [] k lt = absurd (omega (arith, lt))
section_at (x ∷ xs) zero lt = (x, refl)
section_at (x ∷ xs) (suc k) lt = section_at xs k (omega (arith, lt))

pub if_some : {X : Type 0} (o : Option X) (x : X) (P : X → Type 0) → o ≡ Some x → IfSome o P → P x
if_some None x P is h = absurd cc
if_some (Some y) x P is h = subst (λ o. IfSome o P) is h

-- ---- both of two

pub first_true : (a b : Bool) → a && b ≡ true → a ≡ true
first_true true b is = refl
first_true false b is = is

pub rest_true : (a b : Bool) → a && b ≡ true → b ≡ true
rest_true true b is = is
rest_true false b is = absurd (false≢true is)
