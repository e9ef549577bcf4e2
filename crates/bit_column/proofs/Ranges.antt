-- A range of ids in the bytes that were read for it.
use Rattle.std.proofs.Common.{◌≡◌, ◌≤◌, ◌<◌, ℕ, zero, suc, ◌+◌, ◌-◌, ◌*◌, ◌/◌, ◌%◌, List, [], ◌∷◌, ◌++◌, All, length, take, drop, map, min, Option, Some, None, IfSome, IfOk, OnOk, Result, Ok, Err, refl, sym, ap, ◌∙◌, subst, arith, length-take, length-drop}
use Rattle.std.proofs.lemmas.List.{drop-take, drop-drop, take-take}
use Rattle.std.proofs.lemmas.List.FromFn.{length-map-range_with_len}
use Rattle.std.proofs.lemmas.List.Elements.{All-cons, All-head, All-nil}
use Rattle.std.proofs.lemmas.Nat.{mul-le}
use Rattle.std.proofs.lemmas.Bool.Decides.{nat_tests}
use Rattle.std.specs.List.{range_with_len}
use Rattle.outside.specs.Files.{Files, bytes_of}
use Rattle.outside.specs.declared.place.Place.{Place}
use Rattle.bit_column.specs.Bits.{bits_of, field, pieces}
use Rattle.bit_column.specs.Column.{ids_between}
use Rattle.bit_column.specs.Sections.{end_byte, section, AppendsRange, Reach, Readable, IsPart}
use Rattle.bit_column.proofs.Fields.{field-bytes}

-- the bits of a range follow those before it
pub span : (width from to : ℕ) → from ≤ to → to * width ≡ from * width + (to - from) * width
span width from to h =
    let e : to ≡ from + (to - from) = omega arith in
    let products : (from + (to - from)) * width ≡ from * width + (to - from) * width = grind arith in
    ap (λ k. k * width) e ∙ products

some-bits : (width from to : ℕ) → 1 ≤ width → from < to → from * width + 1 ≤ to * width
some-bits width from to h k = omega (arith, span width from to (omega arith), mul-le 1 1 (to - from) width (omega arith) h)

-- a range of ids has a byte
pub range-order : (width from to : ℕ) → 1 ≤ width → from < to → from * width / 8 < (to * width + 7) / 8
range-order width from to h k = omega (arith, some-bits width from to h k)

pub end-of : (width from to : ℕ) → from < to → end_byte width from to ≡ (to * width + 7) / 8
end-of width from to h = grind (arith, nat_tests)

-- its bytes have its bits
pub range-held : (width from to size : ℕ) → from ≤ to → size ≡ (to * width + 7) / 8 - from * width / 8 → from * width % 8 + (to - from) * width ≤ 8 * size
range-held width from to size h e = omega (arith, span width from to h)

shifted-from : (width bit first count a number : ℕ) (bytes : List ℕ) → first * 8 ≤ bit → bit + (a + number) * width ≤ (first + count) * 8
    → map (λ piece. field width (bit - first * 8 + piece * width) (bits_of 8 (take count (drop first bytes)))) (range_with_len a number)
    ≡ map (λ piece. field width (bit + piece * width) (bits_of 8 bytes)) (range_with_len a number)
shifted-from width bit first count a zero bytes begins ends = refl
shifted-from width bit first count a (suc number) bytes begins ends =
    let part = bits_of 8 (take count (drop first bytes)) in
    let f : ℕ → ℕ = λ piece. field width (bit - first * 8 + piece * width) part in
    let g : ℕ → ℕ = λ piece. field width (bit + piece * width) (bits_of 8 bytes) in
    let all : (a + suc number) * width ≡ a * width + width + number * width = grind arith in
    let same : (a + 1 + number) * width ≡ (a + suc number) * width = grind arith in
    let at : bit - first * 8 + a * width ≡ bit + a * width - first * 8 = omega arith in
    let here : f a ≡ g a = ap (λ b. field width b part) at ∙ field-bytes width (bit + a * width) first count bytes (omega arith) (omega (arith, all)) in
    ap (λ n. n ∷ map f (range_with_len (a + 1) number)) here ∙ ap (λ ns. g a ∷ ns) (shifted-from width bit first count (a + 1) number bytes begins (omega (arith, same)))

-- pieces stand in the bytes that have their digits
pub pieces-bytes : (width bit first count number : ℕ) (bytes : List ℕ) → first * 8 ≤ bit → bit + number * width ≤ (first + count) * 8
    → pieces width (bit - first * 8) number (bits_of 8 (take count (drop first bytes))) ≡ pieces width bit number (bits_of 8 bytes)
pieces-bytes width bit first count number bytes begins ends = let e : (0 + number) * width ≡ number * width = grind arith in shifted-from width bit first count 0 number bytes begins (omega (arith, e))

-- the bytes of a section between two places are those of the file
part-of : (files : Files) (place : Place) (first end : ℕ) → first ≤ end → end ≤ place.length
    → take (end - first) (drop first (section files place)) ≡ take (end - first) (drop (place.offset + first) (bytes_of (Some files) place.file))
part-of files place first end order within =
    let file = bytes_of (Some files) place.file in
    let e : place.length ≡ first + (place.length - first) = omega arith in
    ap (λ k. take (end - first) (drop first (take k (drop place.offset file)))) e
    ∙ ap (take (end - first)) (drop-take first (place.length - first) (drop place.offset file))
    ∙ take-take (end - first) (place.length - first) (drop first (drop place.offset file)) (omega arith)
    ∙ ap (take (end - first)) (drop-drop first place.offset file)

pub section-long : (files : Files) (place : Place) → length (section files place) ≡ min place.length (length (bytes_of (Some files) place.file) - place.offset)
section-long files place = omega (arith, length-take place.length (drop place.offset (bytes_of (Some files) place.file)), length-drop place.offset (bytes_of (Some files) place.file))

-- what was read has the ids of the section
range-same : (files : Files) (place : Place) (width from to : ℕ) (bytes : List ℕ) → 1 ≤ width → from < to → (to * width + 7) / 8 ≤ place.length
    → bytes ≡ take (place.offset + (to * width + 7) / 8 - (place.offset + from * width / 8)) (drop (place.offset + from * width / 8) (bytes_of (Some files) place.file))
    → pieces width (from * width % 8) (to - from) (bits_of 8 bytes) ≡ ids_between width from to (section files place)
range-same files place width from to bytes wide some within is =
    let first = from * width / 8 in
    let end = (to * width + 7) / 8 in
    let number = to - from in
    let order : first < end = range-order width from to wide some in
    let size : place.offset + end - (place.offset + first) ≡ end - first = omega arith in
    let there : bytes ≡ take (end - first) (drop first (section files place)) = is ∙ ap (λ k. take k (drop (place.offset + first) (bytes_of (Some files) place.file))) size ∙ sym (part-of files place first end (omega arith) within) in
    let bit : from * width % 8 ≡ from * width - first * 8 = omega arith in
    let ends : from * width + number * width ≤ (first + (end - first)) * 8 = omega (arith, span width from to (omega arith)) in
    ap (λ xs. pieces width (from * width % 8) number (bits_of 8 xs)) there
    ∙ ap (λ b. pieces width b number (bits_of 8 (take (end - first) (drop first (section files place))))) bit
    ∙ pieces-bytes width (from * width) first (end - first) number (section files place) (omega arith) ends

pub range-read : (held : Option Files) (place : Place) (width count from to : ℕ) (bytes ids : List ℕ) → 1 ≤ width → from < to → (to * width + 7) / 8 ≤ place.length
    → IsPart held place.file (place.offset + from * width / 8) (place.offset + (to * width + 7) / 8) bytes
    → ids ≡ pieces width (from * width % 8) (to - from) (bits_of 8 bytes) → All (λ id. id < count) ids
    → IfSome held (λ files. Readable width count from to (section files place) × (ids ≡ ids_between width from to (section files place)))
range-read None place width count from to bytes ids wide some within part is below = tt
range-read (Some files) place width count from to bytes ids wide some within part is below =
    let same : ids ≡ ids_between width from to (section files place) = is ∙ range-same files place width from to bytes wide some within part.1 in
    let reach : Reach width from to (section files place) = λ _. omega (arith, section-long files place, part.0) in
    ((reach, subst (All (λ id. id < count)) same below), same)

pub range-bad : (held : Option Files) (place : Place) (width count from to : ℕ) (bytes : List ℕ) → 1 ≤ width → from < to → (to * width + 7) / 8 ≤ place.length
    → IsPart held place.file (place.offset + from * width / 8) (place.offset + (to * width + 7) / 8) bytes
    → (All (λ id. id < count) (pieces width (from * width % 8) (to - from) (bits_of 8 bytes)) → ⊥)
    → IfSome held (λ files. Readable width count from to (section files place) → ⊥)
range-bad None place width count from to bytes wide some within part bad = tt
range-bad (Some files) place width count from to bytes wide some within part bad =
    λ readable. bad (subst (All (λ id. id < count)) (sym (range-same files place width from to bytes wide some within part.1)) readable.1)

-- a range past the end of its section is not there
pub range-beyond : (held : Option Files) (place : Place) (width count from to : ℕ) → from < to
    → place.length < (to * width + 7) / 8
    → IfSome held (λ files. Readable width count from to (section files place) → ⊥)
range-beyond None place width count from to some beyond = tt
range-beyond (Some files) place width count from to some beyond = λ readable.
    let reach : to * width ≤ 8 * length (section files place) = readable.0 some in
    absurd (omega (arith, section-long files place, reach, beyond))

pub pieces-long : (width first number : ℕ) (digits : List ℕ) → length (pieces width first number digits) ≡ number
pieces-long width first number digits = length-map-range_with_len _ 0 number

pub if-ok : {T E : Type 0} (r : Result T E) (P Q R : T → Type 0) → ((x : T) → P x → Q x → R x) → IfOk r P → IfOk r Q → IfOk r R
if-ok (Ok x) P Q R f p q = f x p q
if-ok (Err e) P Q R f p q = tt

-- what was read of a file under its name
pub part-read : (held : Option Files) (name file : List ℕ) (from to : ℕ) (items bytes : List ℕ) → name ≡ file → bytes ≡ items → IsPart held name from to items → IsPart held file from to bytes
part-read held name file from to items bytes e f part = subst (λ xs. IsPart held file from to xs) (sym f) (subst (λ n. IsPart held n from to items) e part)

-- a range without ids
pub none-read : (held : Option Files) (place : Place) (width count from to : ℕ) → from ≡ to → IfSome held (λ files. Readable width count from to (section files place) × ([] ≡ ids_between width from to (section files place)))
none-read None place width count from to e = tt
none-read (Some files) place width count from to e =
    let none : 0 ≡ to - from = omega arith in
    let same : [] ≡ ids_between width from to (section files place) = ap (λ k. pieces width (from * width) k (bits_of 8 (section files place))) none in
    ((λ some. absurd (omega (arith, some)), subst (All (λ id. id < count)) same (All-nil (λ id. id < count))), same)

pub on-both : {E : Type 0} (r : Result (Unit {0}) E) (P Q R : Type 0) → (P → Q → R) → OnOk r P → OnOk r Q → OnOk r R
on-both (Ok x) P Q R f p q = f p q
on-both (Err e) P Q R f p q = tt

-- the ids of a range in the bytes that were read for it
pub range-appended : (held : Option Files) (place : Place) (width count from to : ℕ) (bytes old new : List ℕ) → 1 ≤ width → from < to → (to * width + 7) / 8 ≤ place.length
    → IsPart held place.file (place.offset + from * width / 8) (place.offset + (to * width + 7) / 8) bytes
    → new ≡ old ++ pieces width (from * width % 8) (to - from) (bits_of 8 bytes) → All (λ id. id < count) (pieces width (from * width % 8) (to - from) (bits_of 8 bytes))
    → AppendsRange held place width count from to old new
range-appended held place width count from to bytes old new wide some within part is below = record {
  ids = pieces width (from * width % 8) (to - from) (bits_of 8 bytes);
  appended = is;
  number = pieces-long width (from * width % 8) (to - from) (bits_of 8 bytes);
  below = below;
  told = range-read held place width count from to bytes (pieces width (from * width % 8) (to - from) (bits_of 8 bytes)) wide some within part refl below;
}

-- the ids of a range that were appended to no ids
pub range-alone : (held : Option Files) (place : Place) (width count from to : ℕ) (old new : List ℕ) → (appends : AppendsRange held place width count from to old new) → old ≡ [] → new ≡ appends.ids
range-alone held place width count from to old new appends none = appends.appended ∙ ap (λ (l : List ℕ). l ++ appends.ids) none

-- ---- a range of one id

-- the bits of one id
one-span : (width from to : ℕ) → to ≡ from + 1 → to * width ≡ from * width + width
one-span width from to h = let products : (from + 1) * width ≡ from * width + width = grind arith in ap (λ k. k * width) h ∙ products

one-held : (width from to : ℕ) → to ≡ from + 1 → from * width % 8 + width ≤ 8 * ((to * width + 7) / 8 - from * width / 8)
one-held width from to h = omega (arith, one-span width from to h)

-- its bytes, at the front of some, have it
pub one-read : (width from to : ℕ) (bytes : List ℕ) → to ≡ from + 1
    → pieces width (from * width % 8) (to - from) (bits_of 8 (take ((to * width + 7) / 8 - from * width / 8) bytes)) ≡ field width (from * width % 8) (bits_of 8 bytes) ∷ []
one-read width from to bytes h =
    let bit = from * width % 8 in
    let size = (to * width + 7) / 8 - from * width / 8 in
    let one : to - from ≡ 1 = omega arith in
    let start : bit ≡ bit - 0 * 8 = omega arith in
    let first : bit + 0 * width ≡ bit = grind arith in
    let alone : 1 * width ≡ width = grind arith in
    ap (λ n. pieces width bit n (bits_of 8 (take size bytes))) one
    ∙ ap (λ b. pieces width b 1 (bits_of 8 (take size bytes))) start
    ∙ pieces-bytes width bit 0 size 1 bytes (omega arith) (omega (arith, alone, one-held width from to h))
    ∙ ap (λ b. field width b (bits_of 8 bytes) ∷ []) first

pub one-below : (P : ℕ → Type 0) (id : ℕ) (ids : List ℕ) → ids ≡ id ∷ [] → P id → All P ids
one-below P id ids e h = subst (All P) (sym e) (All-cons P id [] h (All-nil P))

pub one-alone : (P : ℕ → Type 0) (id : ℕ) (ids : List ℕ) → ids ≡ id ∷ [] → All P ids → P id
one-alone P id ids e all = All-head P id [] (subst (All P) e all)
