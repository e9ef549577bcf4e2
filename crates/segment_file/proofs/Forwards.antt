-- Where the forward indexes are among the sections, and the bytes of a section of a file.
use Rattle.std.proofs.Common.{◌≡◌, ◌∙◌, ◌<◌, ◌+◌, ◌||◌, ◌++◌, ◌∷◌, [], ℕ, zero, suc, Bool, true, false, cond, Some, List, length, map, drop, take, refl, sym, ap, subst, eq-eqb, append_assoc, arith}
use Rattle.std.specs.List.{concat, find, list_any, range_with_len}
use Rattle.std.specs.Option.{option_map_or}
use Rattle.std.proofs.Math.Seq.{drop-append_seam, take-append_seam}
use Rattle.std.proofs.lemmas.Bool.{eqb-true, false≢true, or_left, or_right}
use Rattle.std.proofs.lemmas.List.{length-append}
use Rattle.std.proofs.lemmas.List.Folds.{list_any-append}
use Rattle.table_schema.specs.declared.table.Table.{Table}
use Rattle.segment_file.specs.declared.part.Part.{Part}
use Rattle.segment_file.specs.declared.part.Part.TheVariants as parts
use Rattle.segment_file.specs.Front.{Extent, extents_from}
use Rattle.segment_file.specs.Parts.{columns_of, head_sections, is_same, raw_sections, sections_of, tail_sections, trees_of}
use Rattle.segment_file.specs.Rules.{section_bytes}
use Rattle.segment_file.specs.Spelled.{part_in}

pub forward_only : (p : Part) (c : ℕ) → is_same p (parts.Forward c) ≡ true → p ≡ parts.Forward c
forward_only parts.Table c e = absurd (false≢true e)
forward_only parts.Head c e = absurd (false≢true e)
forward_only parts.Bounds c e = absurd (false≢true e)
forward_only (parts.Dictionary d) c e = absurd (false≢true e)
forward_only (parts.Nodes d) c e = absurd (false≢true e)
forward_only (parts.Forward d) c e = ap parts.Forward (eqb-true d c e)
forward_only (parts.Sorted d) c e = absurd (false≢true e)
forward_only (parts.Inverted d) c e = absurd (false≢true e)
forward_only (parts.Range d) c e = absurd (false≢true e)
forward_only (parts.Star d) c e = absurd (false≢true e)

forward_among : (from count k : ℕ) → k < count → list_any (λ p. is_same p (parts.Forward (from + k))) (map parts.Forward (range_with_len from count)) ≡ true
forward_among from zero k lt = absurd (omega (arith, lt))
forward_among from (suc n) zero lt =
    let same : from ≡ from + 0 = omega arith in
    ap (λ b. b || list_any (λ p. is_same p (parts.Forward (from + 0))) (map parts.Forward (range_with_len (from + 1) n))) (eq-eqb from (from + 0) same)
forward_among from (suc n) (suc k) lt =
    let same : from + 1 + k ≡ from + suc k = omega arith in
    or_right (is_same (parts.Forward from) (parts.Forward (from + suc k))) (list_any (λ p. is_same p (parts.Forward (from + suc k))) (map parts.Forward (range_with_len (from + 1) n)))
    (subst (λ m. list_any (λ p. is_same p (parts.Forward m)) (map parts.Forward (range_with_len (from + 1) n)) ≡ true) same (forward_among (from + 1) n k (omega (arith, lt))))

any_front : (p : Part → Bool) (xs ys : List Part) → list_any p xs ≡ true → list_any p (xs ++ ys) ≡ true
any_front p xs ys e = list_any-append p xs ys ∙ or_left (list_any p xs) (list_any p ys) e

any_back : (p : Part → Bool) (xs ys : List Part) → list_any p ys ≡ true → list_any p (xs ++ ys) ≡ true
any_back p xs ys e = list_any-append p xs ys ∙ or_right (list_any p xs) (list_any p ys) e

-- a table has a section for the forward index of each of its columns
pub has_forward : (table : Table) (c : ℕ) → c < length table.schema.fields → list_any (λ p. is_same p (parts.Forward c)) (sections_of table) ≡ true
has_forward table c lt =
    let plain : 0 + c ≡ c = omega arith in
    let own : list_any (λ p. is_same p (parts.Forward c)) (map parts.Forward (columns_of table)) ≡ true =
    subst (λ m. list_any (λ p. is_same p (parts.Forward m)) (map parts.Forward (columns_of table)) ≡ true) plain (forward_among 0 (length table.schema.fields) c lt) in
    any_back (λ p. is_same p (parts.Forward c)) (head_sections table) (tail_sections table)
    (any_front (λ p. is_same p (parts.Forward c)) (raw_sections table) (map parts.Star (trees_of table)) (any_front (λ p. is_same p (parts.Forward c)) (map parts.Forward (columns_of table)) _ own))

-- the bytes of a section of a file of such sections
pub cut_part : (bytes : List ℕ) (f : Part → List ℕ) (target : Part) → ((p : Part) → is_same p target ≡ true → p ≡ target) → (before : List ℕ) (offset : ℕ) (ps : List Part) → length before ≡ offset
    → bytes ≡ before ++ concat (map f ps) → list_any (λ p. is_same p target) ps ≡ true → part_in bytes (extents_from offset ps (map length (map f ps))) target ≡ f target
cut_part bytes f target only before offset [] at is found = absurd (false≢true found)
cut_part bytes f target only before offset (p ∷ ps) at is found =
    go (cut_part bytes f target only (before ++ f p) (offset + length (f p)) ps (omega (arith, at, length-append before (f p))) (is ∙ sym (append_assoc before (f p) (concat (map f ps))))) (is_same p target) refl found
  where
    go : (list_any (λ q. is_same q target) ps ≡ true → part_in bytes (extents_from (offset + length (f p)) ps (map length (map f ps))) target ≡ f target)
        → (b : Bool) → is_same p target ≡ b → b || list_any (λ q. is_same q target) ps ≡ true
        → option_map_or (section_bytes bytes) (cond b (Some (record { part = p; offset = offset; size = length (f p) })) (find (λ extent. is_same extent.part target) (extents_from (offset + length (f p)) ps (map length (map f ps))))) []
        ≡ f target
    go later true same found =
        (λ i. take (length (f p)) (drop (sym at i) (is i)))
        ∙ ap (take (length (f p))) (drop-append_seam before (f p ++ concat (map f ps)))
        ∙ take-append_seam (f p) (concat (map f ps))
        ∙ ap f (only p same)
    go later false same found = later found
