-- The ids of the values that satisfy a test.
use Rattle.std.proofs.Common.{◌≡◌, ◌∙◌, ◌<◌, ◌+◌, ℕ, true, false, ◌||◌, cond, List, [], ◌∷◌, refl, ap, arith, eq-eqb, zero, suc}
use Rattle.std.proofs.lemmas.Bool.{ne_eqb}
use Rattle.std.specs.List.{slice_get}
use Rattle.values.specs.declared.test.Test.{Test}
use Rattle.values.specs.declared.value.Value.{Value}
use Rattle.values.specs.Tests.{holds}
use Rattle.value_ids.specs.Ids.{has_id, matching, matching_from, satisfies}

below_first : (first k : ℕ) (test : Test) (vs : List Value) → k < first → has_id (matching_from first test vs) k ≡ false
below_first first k test [] lt = refl
below_first first k test (v ∷ vs) lt =
    elim (holds v test) as (λ b. has_id (cond b (first ∷ matching_from (first + 1) test vs) (matching_from (first + 1) test vs)) k ≡ false) [
      | true ↦ (λ i. ne_eqb k first (λ e. omega arith) i || below_first (first + 1) k test vs (omega arith) i)
      | false ↦ below_first (first + 1) k test vs (omega arith)
    ]

each_from : (first k n : ℕ) (test : Test) (vs : List Value) → n ≡ first + k → has_id (matching_from first test vs) n ≡ satisfies test (slice_get vs k)
each_from first k n test [] is = refl
each_from first zero n test (v ∷ vs) is =
    elim (holds v test) as (λ b. has_id (cond b (first ∷ matching_from (first + 1) test vs) (matching_from (first + 1) test vs)) n ≡ b) [
      | true ↦ ap (λ b. b || has_id (matching_from (first + 1) test vs) n) (eq-eqb n first (omega arith))
      | false ↦ below_first (first + 1) n test vs (omega arith)
    ]
each_from first (suc k) n test (v ∷ vs) is =
    let ih = each_from (first + 1) k n test vs (omega arith) in
    elim (holds v test) as (λ b. has_id (cond b (first ∷ matching_from (first + 1) test vs) (matching_from (first + 1) test vs)) n ≡ satisfies test (slice_get vs k)) [
      | true ↦ ap (λ b. b || has_id (matching_from (first + 1) test vs) n) (ne_eqb n first (λ e. omega arith)) ∙ ih
      | false ↦ ih
    ]

pub each_matching : (values : List Value) (test : Test) (ids : List ℕ) → ids ≡ matching test values → (id : ℕ) → has_id ids id ≡ satisfies test (slice_get values id)
each_matching values test ids same id = ap (λ x. has_id x id) same ∙ each_from 0 id id test values (omega arith)
