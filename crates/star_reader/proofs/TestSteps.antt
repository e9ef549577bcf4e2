-- The tests of a document, dimension by dimension.
use Rattle.std.proofs.Common.{◌≡◌, ℕ, suc, ◌+◌, ◌-◌, ◌<◌, Bool, true, false, cond, ◌&&◌}
use Rattle.std.proofs.Common.{List, get_or, Option, None, Some, refl, ap, ◌∙◌, arith}
use Rattle.agg_laws.specs.Tree.{dim}
use Rattle.star_tree.specs.Picks.{holds_from}
use Rattle.star_walk.specs.Walking.{task_of, some_ids, is_among, passes}

as_tested : (o : Option (List ℕ)) (id : ℕ) → cond (some_ids o) (is_among o id) true ≡ is_among o id
as_tested None id = refl
as_tested (Some ids) id = refl

module _ (matched : List (Option (List ℕ))) (grouped : List Bool) (k d : ℕ) (x : List ℕ) where
  one_more : d < k → holds_from (task_of matched grouped) (k - d) d x
      ≡ (passes matched d (dim d x) && holds_from (task_of matched grouped) (k - (d + 1)) (d + 1) x)
  one_more h =
      let m : k - d ≡ suc (k - (d + 1)) = omega arith in
      let n : suc d ≡ d + 1 = omega arith in
      ap (λ j. holds_from (task_of matched grouped) j d x) m
      ∙ (λ i. as_tested (get_or matched d None) (dim d x) i
      && holds_from (task_of matched grouped) (k - (d + 1)) (n i) x)

  -- a test that holds is passed over, and one that fails decides
  pub test_passed : d < k → passes matched d (dim d x) ≡ true
      → holds_from (task_of matched grouped) (k - d) d x
      ≡ holds_from (task_of matched grouped) (k - (d + 1)) (d + 1) x
  test_passed h holds =
      one_more h
      ∙ ap (λ b. b && holds_from (task_of matched grouped) (k - (d + 1)) (d + 1) x) holds

  pub test_failed : d < k → passes matched d (dim d x) ≡ false
      → holds_from (task_of matched grouped) (k - d) d x ≡ false
  test_failed h fails =
      one_more h
      ∙ ap (λ b. b && holds_from (task_of matched grouped) (k - (d + 1)) (d + 1) x) fails

-- no test is left
pub tests_done : (matched : List (Option (List ℕ))) (grouped : List Bool) (k : ℕ) (x : List ℕ)
    → holds_from (task_of matched grouped) (k - k) k x ≡ true
tests_done matched grouped k x =
    let z : k - k ≡ 0 = omega arith in ap (λ j. holds_from (task_of matched grouped) j k x) z
