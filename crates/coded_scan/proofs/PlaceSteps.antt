-- The places of marked rows, one block after another.
use Rattle.std.proofs.Common.{◌≡◌, ◌∙◌, ◌<◌, ◌≤◌, ◌+◌, ◌++◌, ◌∷◌, [], ℕ, zero, suc, Bool, false, cond, List, length, take, drop, refl, ap, arith, append_assoc}
use Rattle.std.proofs.Math.Seq.{take-add}
use Rattle.std.proofs.lemmas.List.{take_all, take_at, drop_at, take-take, take-append-le}
use Rattle.coded_scan.specs.RowFilters.{passing}

-- where it holds of none there is no place
pub passing-none : (holds : ℕ → Bool) (from n : ℕ) → ((at : ℕ) → at < n → holds (from + at) ≡ false) → passing holds from n ≡ []
passing-none holds from zero none = refl
passing-none holds from (suc n) none =
    let front = passing-none holds from n (λ at lt. none at (omega (arith, lt))) in
    let last = none n (omega arith) in
    λ i. front i ++ cond (last i) ((from + n) ∷ []) []

-- what is left of a list to whose end others were put, of which some are kept
pub kept : (old long out post rest : List ℕ) (start count size : ℕ) → take start long ≡ old → length old ≡ start → count ≤ length out → start + count ≤ size
    → take (start + count) (take size ((take start long ++ (out ++ post)) ++ rest)) ≡ old ++ take count out
kept old long out post rest start count size front lengths few within =
    take-take (start + count) size ((take start long ++ (out ++ post)) ++ rest) within
    ∙ ap (λ l. take (start + count) ((l ++ (out ++ post)) ++ rest)) front
    ∙ ap (take (start + count)) (append_assoc old (out ++ post) rest)
    ∙ take-add start count (old ++ ((out ++ post) ++ rest))
    ∙ ap (λ l. l ++ take count (drop start (old ++ ((out ++ post) ++ rest)))) (take_at old ((out ++ post) ++ rest) start lengths)
    ∙ ap (λ l. old ++ take count l) (drop_at old ((out ++ post) ++ rest) start lengths ∙ append_assoc out post rest)
    ∙ ap (λ l. old ++ l) (take-append-le count out (post ++ rest) few)

-- the first items of a list that was made longer are those that it had
pub front_of : (old zeros long : List ℕ) (start more : ℕ) → long ≡ take (start + more) old ++ zeros → length old ≡ start → take start long ≡ old
front_of old zeros long start more is lengths =
    ap (take start) is
    ∙ ap (λ l. take start (l ++ zeros)) (take_all (start + more) old (omega (arith, lengths)))
    ∙ take_at old zeros start lengths

-- what is at the front of a part is at the front of the whole
pub front_kept : (part rest : List ℕ) (count : ℕ) (front : List ℕ) → count ≤ length part → take count part ≡ front → take count (part ++ rest) ≡ front
front_kept part rest count front few is = take-append-le count part rest few ∙ is
