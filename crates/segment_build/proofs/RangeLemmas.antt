-- The documents of a tree, a range after the other.
use Rattle.std.proofs.Common.{◌≡◌, ◌∙◌, ◌≤◌, ◌+◌, ◌-◌, ℕ, List, [], ◌∷◌, ◌++◌, length, length-drop, take, drop, append_assoc, sym, ap, arith, refl}
use Rattle.std.proofs.lemmas.List.{drop-drop, take-append-drop, take_all}
use Rattle.state_columns.specs.Docs.{Doc}
use Rattle.state_columns.specs.Region.{range}
use Rattle.star_file.specs.Bytes.{doc_bytes, state_bytes, words}

pub doc_bytes_append : (a b : List Doc) → doc_bytes (a ++ b) ≡ doc_bytes a ++ doc_bytes b
doc_bytes_append [] b = refl
doc_bytes_append (e ∷ a) b =
    ap (λ x. (words e.0 ++ state_bytes e.1) ++ x) (doc_bytes_append a b)
    ∙ sym (append_assoc (words e.0 ++ state_bytes e.1) (doc_bytes a) (doc_bytes b))

-- a range, and what comes after it
pub range_then : (docs : List Doc) (from to : ℕ) → from ≤ to → doc_bytes (range from to docs) ++ doc_bytes (drop to docs) ≡ doc_bytes (drop from docs)
range_then docs from to le =
    let n : ℕ = to - from in
    let place : from + n ≡ to = omega (arith, le) in
    ap (λ x. doc_bytes (range from to docs) ++ doc_bytes x) (sym (drop-drop n from docs ∙ ap (λ k. drop k docs) place))
    ∙ sym (doc_bytes_append (take n (drop from docs)) (drop n (drop from docs)))
    ∙ ap doc_bytes (take-append-drop n (drop from docs))

-- the last range
pub range_last : (docs : List Doc) (from to : ℕ) → to ≡ length docs → range from to docs ≡ drop from docs
range_last docs from to is = take_all (to - from) (drop from docs) (omega (arith, is, length-drop from docs))
