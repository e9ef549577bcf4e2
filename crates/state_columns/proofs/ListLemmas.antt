-- Lists of documents: their order, how long they are when they are merged, and their ranges.
use Rattle.std.proofs.Common.{◌≡◌, ℕ, suc, ◌-◌, ◌<◌, ◌≤◌, Bool, true, false, T, List, [], ◌∷◌, ◌++◌}
use Rattle.std.proofs.Common.{length, drop, refl, ap, arith, length-drop}
use Rattle.std.specs.declared.cmp.Ordering.TheVariants.{Less, Equal, Greater}
use Rattle.std.specs.Ordering.{nat_cmp}
use Rattle.std.specs.FinMap.{IsAntisymmetric, nat_cmp-IsAntisymmetric, slice_cmp-IsAntisymmetric}
use Rattle.std.specs.FinMap.Entries.{by_order}
use Rattle.std.proofs.lemmas.Bool.Decides.{nat_tests}
use Rattle.std.proofs.lemmas.List.{length-take-le}
use Rattle.agg_laws.specs.Merged.{add, rekey}
use Rattle.agg_laws.specs.Tree.{dims_order, merged_docs}
use Rattle.state_columns.specs.Region.{range}

pub same_dims : IsAntisymmetric dims_order
same_dims = slice_cmp-IsAntisymmetric nat_cmp-IsAntisymmetric

pub as_true : (b : Bool) → T b → b ≡ true
as_true true h = refl
as_true false h = absurd h

pub less_is : (v w : ℕ) → v < w → nat_cmp v w ≡ Less
less_is v w h = grind (arith, nat_tests)

pub append_none : {X : Type 0} (xs : List X) → xs ++ [] ≡ xs
append_none [] = refl
append_none (x ∷ xs) = ap (λ t. x ∷ t) (append_none xs)

module _ {S : Type 0} (join : S → S → S) where
  pub range_length : {X : Type 0} (from to : ℕ) (xs : List X) → from ≤ to → to ≤ length xs
      → length (range from to xs) ≡ to - from
  range_length from to xs le in' =
      length-take-le (to - from) (drop from xs) (omega (arith, length-drop from xs))

  length-add : (x : List ℕ) (s : S) (es : List (List ℕ × S))
      → (length es ≤ length (add dims_order join x s es))
      × (length (add dims_order join x s es) ≤ suc (length es))
      × (0 < length (add dims_order join x s es))
  length-add x s [] = (omega arith, omega arith, omega arith)
  length-add x s (e ∷ es) =
      let more = length-add x s es in
      elim (dims_order x e.0) as
      (λ r. (length (e ∷ es) ≤ length
      (by_order r ((x, s) ∷ e ∷ es) ((e.0, join s e.1) ∷ es) (e ∷ add dims_order join x s es)))
      × (length (by_order r ((x, s) ∷ e ∷ es) ((e.0, join s e.1) ∷ es)
      (e ∷ add dims_order join x s es)) ≤ suc (length (e ∷ es)))
      × (0 < length (by_order r ((x, s) ∷ e ∷ es) ((e.0, join s e.1) ∷ es)
      (e ∷ add dims_order join x s es)))) [
        | Less ↦ (omega arith, omega arith, omega arith)
        | Equal ↦ (omega arith, omega arith, omega arith)
        | Greater ↦ (omega (arith, more.0), omega (arith, more.1), omega arith)
      ]

  pub merged_fewer : (es : List (List ℕ × S)) → length (merged_docs join es) ≤ length es
  merged_fewer [] = omega arith
  merged_fewer (e ∷ es) = let one = length-add e.0 e.1 (merged_docs join es)
      in let more = merged_fewer es in omega (arith, one.1, more)

  pub merged_some : (es : List (List ℕ × S)) → 0 < length es → 0 < length (merged_docs join es)
  merged_some [] h = absurd (omega arith)
  merged_some (e ∷ es) h = (length-add e.0 e.1 (merged_docs join es)).2

  pub length-rekey : (f : List ℕ → List ℕ) (es : List (List ℕ × S)) → length (rekey f es)
      ≡ length es
  length-rekey f [] = refl
  length-rekey f (e ∷ es) = ap suc (length-rekey f es)
