use Rattle.csv_ingest.proofs.DigitLemmas.{in-lanes, less-zero, spells}
use Rattle.csv_ingest.proofs.digits.few_digits.Goals as goal
use Rattle.data_types.specs.Numbers.{place_value, unsigned_number}
use Rattle.std.proofs.Common.{◌≡◌, ◌<◌, ◌≤◌, ◌-◌, ◌+◌, ◌∙◌, ◌++◌, ℕ, List, Some, ap, ap₂, get_or, length, map, replicate, take, drop, subst, sym, arith}
use Rattle.std.proofs.lemmas.List.{length-drop, length-take-le}
use Rattle.std.proofs.lemmas.Simd.{get_or-chunk}

pub returns-clause-spells : goal.returns-clause-spells
returns-clause-spells c =
    let text : List ℕ = c.args.text.now in
    let end : ℕ = c.args.end in
    let len : ℕ = c.saturating_sub-len.result in
    let cell : List ℕ = take len (drop (end - len) text) in
    let long : length cell ≡ len = length-take-le len (drop (end - len) text) (omega (arith, length-drop (end - len) text)) in
    let At : List ℕ → Type 0 = λ xs. (k d : ℕ) → k < length xs → get_or xs k d ≤ 9 in
    let at : At (replicate (8 - len) 0 ++ map less-zero cell) = subst At c.digits_before-digits.ensures (c.are_digits.ensures c.if-not-are_digits.false) in
    let small : (k : ℕ) → k < length cell → get_or cell k 0 < 256 = λ k lt. rw (get_or-chunk (end - len) len text k 0 (omega (arith, long, lt))) (omega (arith, (c.type_inv.text (end - len + k)).fits)) in
    let counts : c.spelled.result ≡ place_value (map (λ (digit : ℕ). digit + 48) (replicate (8 - len) 0 ++ map less-zero cell)) = c.spelled.ensures.spells ∙ ap (λ (xs : List ℕ). place_value (map (λ (digit : ℕ). digit + 48) xs)) c.digits_before-digits.ensures in
    let is : unsigned_number cell ≡ Some c.spelled.result = spells (8 - len) cell (omega (arith, long)) (λ k lt. (small k lt, in-lanes (8 - len) cell at k lt)) ∙ ap Some (sym counts) in
    let same : end - c.args.start ≡ len = omega arith in
    let first : c.args.start ≡ end - len = omega arith in
    ap₂ (λ (n i : ℕ). unsigned_number (take n (drop i text))) same first ∙ is
