-- The bytes of a name, eight at a time.
use Rattle.std.proofs.Common.{◌≡◌, ◌∙◌, ◌≤◌, ◌+◌, ◌-◌, ℕ, List, ◌++◌, length, take, drop, sym, ap, arith, length-drop}
use Rattle.host_devices.specs.Names.{AreEnds}
use Rattle.std.proofs.lemmas.List.{drop-drop, take_all, take-append-drop}

-- what comes after so many, in two steps
drop_twice : (at more n : ℕ) (xs : List ℕ) → at + more ≡ n → drop n xs ≡ drop more (drop at xs)
drop_twice at more n xs is = ap (λ k. drop k xs) (sym is) ∙ sym (drop-drop more at xs)

-- lists of the same length, from eight to sixteen, are the same where their first eight are and their last eight
pub ends_same : (a b : List ℕ) → length a ≡ length b → 8 ≤ length a → length a ≤ 16 → take 8 (drop 0 a) ≡ take 8 (drop 0 b) → take 8 (drop (length a - 8) a) ≡ take 8 (drop (length a - 8) b) → a ≡ b
ends_same a b lengths most at_most first last =
    let at = length a - 8 in
    let more = 16 - length a in
    let all_a : take 8 (drop at a) ≡ drop at a = take_all 8 (drop at a) (omega (arith, length-drop at a)) in
    let all_b : take 8 (drop at b) ≡ drop at b = take_all 8 (drop at b) (omega (arith, length-drop at b, lengths)) in
    let ends : drop at a ≡ drop at b = sym all_a ∙ last ∙ all_b in
    let parts : at + more ≡ 8 = omega (arith, most, at_most) in
    let rest : drop 8 a ≡ drop 8 b = drop_twice at more 8 a parts ∙ ap (drop more) ends ∙ sym (drop_twice at more 8 b parts) in
    sym (take-append-drop 8 a) ∙ ap (λ (xs : List ℕ). xs ++ drop 8 a) first ∙ ap (λ (xs : List ℕ). take 8 b ++ xs) rest ∙ take-append-drop 8 b

-- names with the same ends are the same
pub same_ends : (a b : List ℕ) (size first last : ℕ) → 8 ≤ size → size ≤ 16 → AreEnds a size first last → AreEnds b size first last → a ≡ b
same_ends a b size first last lengths at_most ours theirs =
    let back_a : take 8 (drop (length a - 8) a) ≡ take 8 (drop (size - 8) a) = ap (λ n. take 8 (drop (n - 8) a)) ours.lengths in
    let back_b : take 8 (drop (size - 8) b) ≡ take 8 (drop (length b - 8) b) = ap (λ n. take 8 (drop (n - 8) b)) (sym theirs.lengths) in
    let back_c : take 8 (drop (length b - 8) b) ≡ take 8 (drop (length a - 8) b) = ap (λ n. take 8 (drop (n - 8) b)) (theirs.lengths ∙ sym ours.lengths) in
    ends_same a b (ours.lengths ∙ sym theirs.lengths) (omega (arith, ours.lengths, lengths)) (omega (arith, ours.lengths, at_most)) (sym ours.front ∙ theirs.front)
    (back_a ∙ sym ours.back ∙ theirs.back ∙ back_b ∙ back_c)
