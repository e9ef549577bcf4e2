-- Ids as runs.
use Rattle.std.proofs.Common.{◌≡◌, ◌∙◌, ℕ, zero, suc, ◌+◌, ◌-◌, ◌<◌, ◌≤◌, List, [], ◌∷◌, ◌++◌, All, length, take, get_or, sym, subst, arith, length-append, length-take}
use Rattle.std.specs.List.{range_with_len}
use Rattle.std.specs.List.Sorted.{IsStrictlyIncreasing, IsStrictlySortedBy}
use Rattle.std.specs.Ordering.{nat_cmp}
use Rattle.std.proofs.lemmas.List.{get_or-take, get_or_append_left}
use Rattle.std.proofs.lemmas.List.Elements.{All-nil, All-cons, All-from_get_or}
use Rattle.std.proofs.lemmas.List.FromFn.{length-range_with_len, get_or-range_with_len}
use Rattle.std.proofs.lemmas.Map.Keys.{IsStrictlyIncreasing-from_sorted}
use Rattle.doc_lists.specs.Docs.{Apart, docs_of, docs_of_run}
use Rattle.doc_lists.specs.declared.run.Run.{Run}
use Rattle.doc_lists.proofs.Runs.{all_after}

rise : (ids : List ℕ) → IsStrictlyIncreasing ids → (j n : ℕ) → j + n + 1 < length ids → get_or ids j 0 < get_or ids (j + n + 1) 0
rise ids up j zero lt =
    let same : j + 0 + 1 ≡ j + 1 = omega arith in
    subst (λ i. get_or ids j 0 < get_or ids i 0) (sym same) (up j (omega (arith, lt)))
rise ids up j (suc n) lt =
    let before = rise ids up j n (omega (arith, lt)) in
    let step = up (j + n + 1) (omega (arith, lt)) in
    let same : j + suc n + 1 ≡ j + n + 1 + 1 = omega arith in
    subst (λ i. get_or ids j 0 < get_or ids i 0) (sym same) (omega (arith, before, step))

-- in ascending ids each one is greater than those before it
pub above_taken : (ids : List ℕ) (i : ℕ) → IsStrictlySortedBy nat_cmp ids → i < length ids → All (λ other. other < get_or ids i 0) (take i ids)
above_taken ids i sorted lt = All-from_get_or (λ other. other < get_or ids i 0) (take i ids) 0 (λ j less.
    let inside : j < i = omega (arith, less, length-take i ids) in
    let whole : j + (i - j - 1) + 1 ≡ i = omega (arith, inside) in
    let own : get_or ids j 0 < get_or ids i 0 = subst (λ n. get_or ids j 0 < get_or ids n 0) whole (rise ids (IsStrictlyIncreasing-from_sorted ids sorted) j (i - j - 1) (omega (arith, whole, lt))) in
    subst (λ x. x < get_or ids i 0) (sym (get_or-take i ids j 0 inside)) own)

last_below : (run : Run) (rest : List ℕ) (limit : ℕ) → run.first ≤ run.last → All (λ x. x < limit) (docs_of_run run ++ rest) → run.last < limit
last_below run rest limit order all =
    let n = run.last + 1 - run.first in
    let k = run.last - run.first in
    let size : length (range_with_len run.first n) ≡ n = length-range_with_len run.first n in
    let own : k < length (range_with_len run.first n) = omega (arith, size, order) in
    let is : get_or (range_with_len run.first n ++ rest) k 0 ≡ run.first + k = get_or_append_left (range_with_len run.first n) rest 0 k own ∙ get_or-range_with_len run.first n k 0 (omega (arith, order)) in
    let within : k < length (range_with_len run.first n ++ rest) = omega (arith, length-append (range_with_len run.first n) rest, own) in
    let below : get_or (range_with_len run.first n ++ rest) k 0 < limit = all k 0 within in
    omega (arith, is, below, order)

-- where all ids are below a limit, the last of each run is
pub lasts_below : (key : ℕ) (runs : List Run) (limit : ℕ) → Apart key runs → All (λ id. id < limit) (docs_of runs) → All (λ run. run.last < limit) runs
lasts_below key [] limit apart all = All-nil (λ run. run.last < limit)
lasts_below key (run ∷ runs) limit apart all =
    All-cons (λ r. r.last < limit) run runs (last_below run (docs_of runs) limit apart.1 all)
    (lasts_below (run.last + 2) runs limit apart.3 (all_after (λ x. x < limit) (docs_of_run run) (docs_of runs) all))
