-- The documents of a section in the bytes that were read for them.
use Rattle.std.proofs.Common.{◌≡◌, ◌≤◌, ◌<◌, ℕ, zero, suc, ◌+◌, ◌-◌, ◌*◌, List, [], ◌∷◌, length, take}
use Rattle.std.proofs.Common.{drop, min, refl}
use Rattle.std.proofs.Common.{Option, Some, None, IfSome, sym, ap, ◌∙◌, subst, arith}
use Rattle.std.proofs.Common.{length-take, length-drop}
use Rattle.std.proofs.lemmas.List.{drop-take, drop-drop, take-take}
use Rattle.outside.specs.Files.{Files, bytes_of}
use Rattle.outside.specs.declared.place.Place.{Place}
use Rattle.agg_laws.specs.declared.tree_shape.TreeShape.{TreeShape}
use Rattle.state_columns.specs.Docs.{Doc}
use Rattle.star_file.specs.Reading.{doc_width, section, SpellDocs, HasDocuments, IsPart}
use Rattle.star_file.proofs.DocSteps.{in_part, of_part}

-- the bytes of a range follow those before it
pub span : (width from to : ℕ) → from ≤ to → to * width ≡ from * width + (to - from) * width
span width from to h =
    let e : to ≡ from + (to - from) = omega arith in
    let products : (from + (to - from)) * width ≡ from * width + (to - from) * width = grind arith
    in
    ap (λ k. k * width) e ∙ products

-- there are as many documents as are spelled
pub as_many : (shape : TreeShape) (counts : List ℕ) (n : ℕ) (bytes : List ℕ) (docs : List Doc)
    → SpellDocs shape counts n bytes docs → length docs ≡ n
as_many shape counts zero bytes [] h = refl
as_many shape counts zero bytes (e ∷ es) h = absurd h
as_many shape counts (suc n) bytes [] h = absurd h
as_many shape counts (suc n) bytes (e ∷ es) h =
    let more = as_many shape counts n (drop (doc_width shape) bytes) es h.1 in omega (arith, more)

-- the bytes of a section between two places are those of the file
part_of : (files : Files) (place : Place) (first end : ℕ) → first ≤ end → end ≤ place.length
    → take (end - first) (drop first (section files place))
    ≡ take (end - first) (drop (place.offset + first) (bytes_of (Some files) place.file))
part_of files place first end order within =
    let file = bytes_of (Some files) place.file in
    let e : place.length ≡ first + (place.length - first) = omega arith in
    ap (λ k. take (end - first) (drop first (take k (drop place.offset file)))) e
    ∙ ap (take (end - first)) (drop-take first (place.length - first) (drop place.offset file))
    ∙ take-take (end - first) (place.length - first) (drop first (drop place.offset file))
    (omega arith)
    ∙ ap (take (end - first)) (drop-drop first place.offset file)

section_long : (files : Files) (place : Place) → length (section files place)
    ≡ min place.length (length (bytes_of (Some files) place.file) - place.offset)
section_long files place =
    let file = bytes_of (Some files) place.file in
    let a = length-take place.length (drop place.offset file) in
    let b = length-drop place.offset file in
    omega (arith, a, b)

-- what was read for a range of documents
module _ (place : Place) (shape : TreeShape) (counts : List ℕ) (from to : ℕ) (bytes : List ℕ)
    (some : from < to) (within : to * doc_width shape ≤ place.length) where
  abbrev first : ℕ
  first = from * doc_width shape

  abbrev end : ℕ
  end = to * doc_width shape

  order : from * doc_width shape ≤ to * doc_width shape
  order = let s = span (doc_width shape) from to (omega arith) in omega (arith, s)

  same : (files : Files)
      → bytes ≡ take (place.offset + end - (place.offset + first))
      (drop (place.offset + first) (bytes_of (Some files) place.file))
      → bytes ≡ take ((to - from) * doc_width shape) (drop first (section files place))
  same files is =
      let file = bytes_of (Some files) place.file in
      let s = span (doc_width shape) from to (omega arith) in
      let size : place.offset + end - (place.offset + first) ≡ end - first = omega arith in
      let n : end - first ≡ (to - from) * doc_width shape = omega (arith, s) in
      is ∙ ap (λ k. take k (drop (place.offset + first) file)) size
      ∙ sym (part_of files place first end order within)
      ∙ ap (λ k. take k (drop first (section files place))) n

  pub docs_read : (held : Option Files)
      → IsPart held place.file (place.offset + first) (place.offset + end) bytes
      → (docs : List Doc) → SpellDocs shape counts (to - from) bytes docs
      → IfSome held (λ files. HasDocuments shape counts from to (section files place) docs)
  docs_read None part docs h = tt
  docs_read (Some files) part docs h = record {
    reach = λ lt. (let l = section_long files place in omega (arith, l, part.0, within));
    are = of_part shape counts (to - from) (drop first (section files place)) docs
        (subst (λ l. SpellDocs shape counts (to - from) l docs) (same files part.1) h);
  }

  pub docs_bad : (held : Option Files)
      → IsPart held place.file (place.offset + first) (place.offset + end) bytes
      → ((docs : List Doc) → SpellDocs shape counts (to - from) bytes docs → ⊥)
      → IfSome held (λ files. (docs : List Doc)
      → HasDocuments shape counts from to (section files place) docs → ⊥)
  docs_bad None part h = tt
  docs_bad (Some files) part h = λ docs has. h docs
      (subst (λ l. SpellDocs shape counts (to - from) l docs) (sym (same files part.1))
      (in_part shape counts (to - from) (drop first (section files place)) docs has.are))

-- the same part, by its own name and bytes
pub part_at : (held : Option Files) (name file : List ℕ) (offset from to w w' : ℕ)
    (bytes bytes' : List ℕ) → name ≡ file → bytes' ≡ bytes → w' ≡ w
    → IsPart held name (offset + from * w') (offset + to * w') bytes
    → IsPart held file (offset + from * w) (offset + to * w) bytes'
part_at held name file offset from to w w' bytes bytes' n is e part =
    subst (λ l. IsPart held file (offset + from * w) (offset + to * w) l) (sym is)
    (subst (λ f. IsPart held f (offset + from * w) (offset + to * w) bytes) n
    (subst (λ m. IsPart held name (offset + from * m) (offset + to * m) bytes) e part))
