-- The bytes of a section of a file, and those of a section of an image.
use Rattle.std.proofs.Common.{◌≡◌, ◌∙◌, ◌<◌, ◌+◌, ◌||◌, ◌++◌, ◌∷◌, [], ℕ, zero, suc, Bool, true, false, cond, Some, List, length, map, drop, take, refl, sym, ap, subst, eq-eqb, append_assoc, arith}
use Rattle.std.specs.Prelude.{option_map}
use Rattle.std.specs.Option.{IsSome}
use Rattle.std.specs.List.{concat, find, list_any, range_with_len}
use Rattle.std.proofs.Math.Seq.{drop-append_seam, take-append_seam}
use Rattle.std.proofs.lemmas.Bool.{eqb-true, false≢true, or_left, or_right}
use Rattle.std.proofs.lemmas.List.{length-append, length-map}
use Rattle.std.proofs.lemmas.List.Folds.{list_any-append}
use Rattle.outside.specs.Files.{Files, bytes_of}
use Rattle.values.specs.declared.value.Value.{Value}
use Rattle.table_schema.specs.declared.table.Table.{Table}
use Rattle.table_schema.specs.ValidTable.{IsValidTable}
use Rattle.segment_file.specs.declared.part.Part.{Part}
use Rattle.segment_file.specs.declared.part.Part.TheVariants as parts
use Rattle.segment_file.specs.declared.section.Section.{Section}
use Rattle.segment_file.specs.Front.{Front, extents_from, extents_of, front_bytes, front_size}
use Rattle.segment_head.specs.Heads.{IsHeadOf, Seen, bytes_in, place_in, placed}
use Rattle.segment_file.specs.Image.{dictionary_of, front_of, image, section_of, sections_of_rows}
use Rattle.segment_file.specs.Ordered.{ordered}
use Rattle.segment_file.specs.Parts.{columns_of, head_sections, is_same, raw_sections, sections_of, tail_sections, trees_of}
use Rattle.segment_file.specs.Rules.{KeepsAll}
use Rattle.segment_head.specs.Stored.{IsOfImage}
use Rattle.segment_file.proofs.Fronts.{front_bytes_size}
use Rattle.segment_file.proofs.ImageKeeps.{image_keeps}
use Rattle.segment_file.proofs.RuleLaws.{fronts_one}

-- ---- parts among the sections

pub any_front : (p : Part → Bool) (xs ys : List Part) → list_any p xs ≡ true → list_any p (xs ++ ys) ≡ true
any_front p xs ys e = list_any-append p xs ys ∙ or_left (list_any p xs) (list_any p ys) e

pub any_back : (p : Part → Bool) (xs ys : List Part) → list_any p ys ≡ true → list_any p (xs ++ ys) ≡ true
any_back p xs ys e = list_any-append p xs ys ∙ or_right (list_any p xs) (list_any p ys) e

-- a part that is among the sections of the rows is among all
pub any_raw : (table : Table) (p : Part → Bool) → list_any p (raw_sections table) ≡ true → list_any p (sections_of table) ≡ true
any_raw table p e = any_back p (head_sections table) (tail_sections table) (any_front p (raw_sections table) (map parts.Star (trees_of table)) e)

-- a part that is among the sections has a place
pub some_place : (file : List ℕ) (p : Part) (offset : ℕ) (ps : List Part) (sizes : List ℕ) → length sizes ≡ length ps → list_any (λ q. is_same q p) ps ≡ true → IsSome (place_in (map (placed file) (extents_from offset ps sizes)) p)
some_place file p offset [] sizes each found = absurd (false≢true found)
some_place file p offset (q ∷ qs) [] each found = absurd (omega (arith, each))
some_place file p offset (q ∷ qs) (size ∷ sizes) each found = go (some_place file p (offset + size) qs sizes (omega (arith, each))) (is_same q p) found
  where
    go : (list_any (λ q. is_same q p) qs ≡ true → IsSome (place_in (map (placed file) (extents_from (offset + size) qs sizes)) p)) → (b : Bool) → b || list_any (λ q. is_same q p) qs ≡ true
        → IsSome (option_map (λ s. s.place) (cond b (Some (placed file (record { part = q; offset = offset; size = size }))) (find (λ s. is_same s.part p) (map (placed file) (extents_from (offset + size) qs sizes)))))
    go later true found = refl
    go later false found = later found

-- the bytes of a section are those that the file has for it
pub cut_section : (files : Files) (file : List ℕ) (f : Part → List ℕ) (target : Part) → ((p : Part) → is_same p target ≡ true → p ≡ target) → (before : List ℕ) (offset : ℕ) (ps : List Part) → length before ≡ offset
    → bytes_of (Some files) file ≡ before ++ concat (map f ps) → list_any (λ p. is_same p target) ps ≡ true
    → bytes_in files (place_in (map (placed file) (extents_from offset ps (map length (map f ps)))) target) ≡ f target
cut_section files file f target only before offset [] at is found = absurd (false≢true found)
cut_section files file f target only before offset (p ∷ ps) at is found =
    go (cut_section files file f target only (before ++ f p) (offset + length (f p)) ps (omega (arith, at, length-append before (f p))) (is ∙ sym (append_assoc before (f p) (concat (map f ps))))) (is_same p target) refl found
  where
    go : (list_any (λ q. is_same q target) ps ≡ true → bytes_in files (place_in (map (placed file) (extents_from (offset + length (f p)) ps (map length (map f ps)))) target) ≡ f target)
        → (b : Bool) → is_same p target ≡ b → b || list_any (λ q. is_same q target) ps ≡ true
        → bytes_in files (option_map (λ s. s.place) (cond b (Some (placed file (record { part = p; offset = offset; size = length (f p) }))) (find (λ s. is_same s.part target) (map (placed file) (extents_from (offset + length (f p)) ps (map length (map f ps)))))))
        ≡ f target
    go later true same found =
        (λ i. take (length (f p)) (drop (sym at i) (is i)))
        ∙ ap (take (length (f p))) (drop-append_seam before (f p ++ concat (map f ps)))
        ∙ take-append_seam (f p) (concat (map f ps))
        ∙ ap f (only p same)
    go later false same found = later found

-- the bytes of a section of an image are those of the rows in their order
pub image_section : (table : Table) (files : Files) (rows : List (List Value)) (head : Seen) (target : Part) → IsValidTable table → IsOfImage table files rows head → ((p : Part) → is_same p target ≡ true → p ≡ target)
    → list_any (λ p. is_same p target) (sections_of table) ≡ true → bytes_in files (place_in head.sections target) ≡ section_of table (ordered table.settings.sorted rows) target
image_section table files rows head target valid of only among =
    let os : List (List Value) = ordered table.settings.sorted rows in
    let front : Front = front_of 1 table os in
    let keeps : KeepsAll table of.name (image 1 table of.name rows) front (map (dictionary_of table os) (columns_of table)) = image_keeps table of.name rows valid of.named of.can in
    let same : of.is_head.front ≡ front = fronts_one table of.name (image 1 table of.name rows) front of.is_head.front keeps.front_is of.is_head.keeps.front_is in
    let sections : head.sections ≡ map (placed of.file) (extents_of table of.name front) = of.part.sections_same ∙ of.is_head.sections_are ∙ ap (λ (f : Front). map (placed of.file) (extents_of table of.name f)) same in
    let sizes : length front.sizes ≡ length (sections_of table) = length-map (sections_of_rows table os) length ∙ length-map (sections_of table) (section_of table os) in
    ap (λ (s : List Section). bytes_in files (place_in s target)) sections
    ∙ cut_section files of.file (section_of table os) target only (front_bytes table of.name front) (front_size table of.name) (sections_of table) (front_bytes_size table of.name front sizes) of.stored among

-- ---- the documents of a tree

pub star_only : (p : Part) (t : ℕ) → is_same p (parts.Star t) ≡ true → p ≡ parts.Star t
star_only parts.Table t e = absurd (false≢true e)
star_only parts.Head t e = absurd (false≢true e)
star_only parts.Bounds t e = absurd (false≢true e)
star_only (parts.Dictionary d) t e = absurd (false≢true e)
star_only (parts.Nodes d) t e = absurd (false≢true e)
star_only (parts.Forward d) t e = absurd (false≢true e)
star_only (parts.Sorted d) t e = absurd (false≢true e)
star_only (parts.Inverted d) t e = absurd (false≢true e)
star_only (parts.Range d) t e = absurd (false≢true e)
star_only (parts.Star d) t e = ap parts.Star (eqb-true d t e)

star_among : (from count k : ℕ) → k < count → list_any (λ p. is_same p (parts.Star (from + k))) (map parts.Star (range_with_len from count)) ≡ true
star_among from zero k lt = absurd (omega (arith, lt))
star_among from (suc n) zero lt =
    let same : from ≡ from + 0 = omega arith in
    ap (λ b. b || list_any (λ p. is_same p (parts.Star (from + 0))) (map parts.Star (range_with_len (from + 1) n))) (eq-eqb from (from + 0) same)
star_among from (suc n) (suc k) lt =
    let same : from + 1 + k ≡ from + suc k = omega arith in
    or_right (is_same (parts.Star from) (parts.Star (from + suc k))) (list_any (λ p. is_same p (parts.Star (from + suc k))) (map parts.Star (range_with_len (from + 1) n)))
    (subst (λ m. list_any (λ p. is_same p (parts.Star m)) (map parts.Star (range_with_len (from + 1) n)) ≡ true) same (star_among (from + 1) n k (omega (arith, lt))))

-- a table has a section for the documents of each of its trees
pub has_star : (table : Table) (t : ℕ) → t < length table.settings.trees → list_any (λ p. is_same p (parts.Star t)) (sections_of table) ≡ true
has_star table t lt =
    let plain : 0 + t ≡ t = omega arith in
    let own : list_any (λ p. is_same p (parts.Star t)) (map parts.Star (trees_of table)) ≡ true =
    subst (λ m. list_any (λ p. is_same p (parts.Star m)) (map parts.Star (trees_of table)) ≡ true) plain (star_among 0 (length table.settings.trees) t lt) in
    any_back (λ p. is_same p (parts.Star t)) (head_sections table) (tail_sections table) (any_back (λ p. is_same p (parts.Star t)) (raw_sections table) (map parts.Star (trees_of table)) own)

-- a head of such a table has a place for it
pub star_placed : (table : Table) (head : Seen) (t : ℕ) → IsHeadOf table head → t < length table.settings.trees → IsSome (place_in head.sections (parts.Star t))
star_placed table head t is lt =
    subst (λ sections. IsSome (place_in sections (parts.Star t))) (sym is.has.sections_are)
    (some_place is.file (parts.Star t) (front_size table is.name) (sections_of table) is.front.sizes is.each (has_star table t lt))
