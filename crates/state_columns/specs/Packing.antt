-- Combinations of ids packed in numbers, so that the numbers ascend as the combinations do.
use Rattle.std.specs.Prelude.{◌≡◌, ℕ, suc, ◌+◌, ◌-◌, ◌*◌, ◌%◌, ◌^◌, ◌≤◌, List, [], ◌∷◌}
use Rattle.state_columns.specs.declared.packing.Span.{Span}
use Rattle.agg_laws.specs.Tree.{set_star}
use Rattle.state_columns.specs.Docs.{Doc, doc_at}

-- the ids after those that are packed in a number already: each is a digit, how far it is above the
-- least of its dimension
abbrev pub pack : ℕ → List Span → List ℕ → ℕ
pack key [] xs = key
pack key (s ∷ ss) [] = key
pack key (s ∷ ss) (x ∷ xs) = pack (key * suc s.above + (x - s.least)) ss xs

-- each id is within its dimension's span
abbrev pub AreWithin : List Span → List ℕ → Type 0
AreWithin [] [] = Unit {0}
AreWithin [] (x ∷ xs) = ⊥
AreWithin (s ∷ ss) [] = ⊥
AreWithin (s ∷ ss) (x ∷ xs) = (s.least ≤ x) × (x - s.least ≤ s.above) × AreWithin ss xs

-- the document whose place in a range is the low bits of a word
abbrev pub place : ℕ → ℕ → ℕ
place start word = (start + word % 2 ^ 20) % 2 ^ 32

-- a word has a document's combination, with a dimension starred, above its place in a range
pub record IsWord (spans : List Span) (level start : ℕ) (docs : List Doc) (word : ℕ) : Type 0 where
  pub within : AreWithin spans (set_star level (doc_at docs (place start word)).0)
  pub packs : word ≡ pack 0 spans (set_star level (doc_at docs (place start word)).0) * 2 ^ 20
      + word % 2 ^ 20
