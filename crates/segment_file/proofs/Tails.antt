-- How many values the dictionaries of a head have, and the sections after the head.
use Rattle.std.proofs.Common.{◌≡◌, ◌∙◌, ◌<◌, ◌≤◌, ◌+◌, ◌^◌, ℕ, zero, suc, Bool, true, false, All, List, [], ◌∷◌, ◌++◌, length, map, get_or, take, drop, Option, Some, None, refl, sym, ap, subst, arith}
use Rattle.std.proofs.Math.Seq.{take-append_seam}
use Rattle.std.proofs.lemmas.List.{get_or-map}
use Rattle.std.proofs.lemmas.List.Elements.{All-append, All-cons, All-head, All-map, All-nil, All-tail, All-weaker}
use Rattle.std.proofs.lemmas.List.FromFn.{length-range_with_len}
use Rattle.std.specs.Int.{w32, from_be_bytes}
use Rattle.std.specs.List.{AllZip, range_with_len}
use Rattle.std.specs.Prelude.{option_to_list}
use Rattle.data_types.specs.declared.kind.FieldKind.TheVariants.{Long}
use Rattle.table_schema.specs.ValidSettings.{is_known_number}
use borrow.Author.Tests.{ltb-true}
use Rattle.value_ids.specs.Dictionary.{Distinct}
use Rattle.dictionary.specs.Spelling.{body, counted, spelling}
use Rattle.dictionary.proofs.Bytes.{counted_back, length-counted}
use Rattle.table_schema.specs.declared.table.Table.{Table}
use Rattle.table_schema.specs.ValidTable.{IsValidTable}
use Rattle.segment_file.specs.declared.part.Part.{Part}
use Rattle.segment_file.specs.declared.part.Part.TheVariants as parts
use Rattle.segment_file.specs.Front.{Front, extents_from, front_size}
use Rattle.segment_file.specs.Reading.{IsTailPart, count_at}
use Rattle.segment_file.specs.Image.{kind_at}
use Rattle.segment_file.specs.Parts.{columns_of, head_sections, marked, marked_from, raw_sections, tail_sections, trees_of}
use Rattle.segment_file.specs.Rules.{AreSpelled, IsSpelled, count_in, dictionary_in, raw_extents}

-- ---- how many values there are

zip_count : {A B : Type 0} (R : A → B → Type 0) (xs : List A) (ys : List B) → AllZip R xs ys → length xs ≡ length ys
zip_count R [] [] all = refl
zip_count R [] (y ∷ ys) all = absurd all
zip_count R (x ∷ xs) [] all = absurd all
zip_count R (x ∷ xs) (y ∷ ys) all = omega (arith, zip_count R xs ys all.1)

pub zip_at : {B : Type 0} (R : ℕ → B → Type 0) (a n i : ℕ) (ys : List B) (d : B) → AllZip R (range_with_len a n) ys → i < n → R (a + i) (get_or ys i d)
zip_at R a zero i ys d all lt = absurd (omega arith)
zip_at R a (suc n) i [] d all lt = absurd all
zip_at R a (suc n) zero (y ∷ ys) d all lt = let e : a ≡ a + 0 = omega arith in subst (λ k. R k y) e all.0
zip_at R a (suc n) (suc i) (y ∷ ys) d all lt =
    let e : a + 1 + i ≡ a + suc i = omega arith in
    subst (λ k. R k (get_or ys i d)) e (zip_at R (a + 1) n i ys d all.1 (omega arith))

pub spelled_length : (table : Table) (rows : ℕ) (heads : List (List ℕ)) (ds : List Distinct) → AreSpelled table rows heads (columns_of table) ds → length table.schema.fields ≡ length ds
spelled_length table rows heads ds all =
    sym (length-range_with_len 0 (length table.schema.fields)) ∙ zip_count (λ column d. IsSpelled (kind_at table column) rows (dictionary_in heads column) d) (columns_of table) ds all

pub spelled_count : (bytes : List ℕ) (d : Distinct) → length d.values < 2 ^ 32 → bytes ≡ spelling d → count_in bytes ≡ length d.values
spelled_count bytes d at_most is =
    ap count_in is
    ∙ ap (from_be_bytes w32) (ap (λ n. take n (counted (length d.values) ++ body d.kind d.values)) (sym (length-counted (length d.values))) ∙ take-append_seam (counted (length d.values)) (body d.kind d.values))
    ∙ counted_back (length d.values) at_most

pub count_same : (table : Table) (rows : ℕ) (heads : List (List ℕ)) (ds : List Distinct) (owner : ℕ) → AreSpelled table rows heads (columns_of table) ds → owner < length table.schema.fields → count_in (dictionary_in heads owner) ≡ count_at ds owner
count_same table rows heads ds owner all lt =
    let none : Distinct = record { kind = Long; values = [] } in
    let R : ℕ → Distinct → Type 0 = λ column d. IsSpelled (kind_at table column) rows (dictionary_in heads column) d in
    let found : IsSpelled (kind_at table owner) rows (dictionary_in heads owner) (get_or ds owner none) =
    (let e : 0 + owner ≡ owner = omega arith in subst (λ k. R k (get_or ds owner none)) e (zip_at R 0 (length table.schema.fields) owner ds none all lt)) in
    let at_most = found.stands.at_most in
    spelled_count (dictionary_in heads owner) (get_or ds owner none) (omega arith) found.spelled
    ∙ ap length (sym (get_or-map (λ x. x.values) ds owner none [] (omega (arith, spelled_length table rows heads ds all))))

-- ---- the sections after the head

columns_below : (a n limit : ℕ) → a + n ≤ limit → All (λ c. c < limit) (range_with_len a n)
columns_below a zero limit le = All-nil (λ c. c < limit)
columns_below a (suc n) limit le = All-cons (λ c. c < limit) a (range_with_len (a + 1) n) (omega arith) (columns_below (a + 1) n limit (omega arith))

marked_below : (at limit : ℕ) (marks : List Bool) → at + length marks ≤ limit → All (λ c. c < limit) (marked_from at marks)
marked_below at limit [] le = All-nil (λ c. c < limit)
marked_below at limit (true ∷ marks) le = All-cons (λ c. c < limit) at (marked_from (at + 1) marks) (omega arith) (marked_below (at + 1) limit marks (omega arith))
marked_below at limit (false ∷ marks) le = marked_below (at + 1) limit marks (omega arith)

sorted_below : (table : Table) (column : Option ℕ) → is_known_number table.schema.fields column ≡ true → All (λ c. c < length table.schema.fields) (option_to_list column)
sorted_below table None known = All-nil (λ c. c < length table.schema.fields)
sorted_below table (Some column) known = All-cons (λ c. c < length table.schema.fields) column [] (ltb-true column (length table.schema.fields) known) (All-nil (λ c. c < length table.schema.fields))

parts_all : (table : Table) (f : ℕ → Part) (limit : ℕ) → ((c : ℕ) → c < limit → IsTailPart table (f c)) → (cs : List ℕ) → All (λ c. c < limit) cs → All (IsTailPart table) (map f cs)
parts_all table f limit is cs below = All-map (IsTailPart table) f cs (All-weaker (λ c. c < limit) (λ c. IsTailPart table (f c)) is cs below)

-- each section after the head is one of the rows of a field, or the documents of a tree
pub tail_parts : (table : Table) → IsValidTable table → All (IsTailPart table) (tail_sections table)
tail_parts table valid =
    let n : ℕ = length table.schema.fields in
    let m : ℕ = length table.settings.trees in
    let P : Part → Type 0 = IsTailPart table in
    let sorted : List Part = map parts.Sorted (option_to_list table.settings.sorted) in
    let inverted : List Part = map parts.Inverted (marked table.settings.inverted) in
    let ranges : List Part = map parts.Range (marked table.settings.ranged) in
    let s = valid.settings in
    let raw : All P (raw_sections table) =
    All-append P (map parts.Forward (columns_of table)) (sorted ++ (inverted ++ ranges))
    (parts_all table parts.Forward n (λ c lt. lt) (columns_of table) (columns_below 0 n n (omega arith)))
    (All-append P sorted (inverted ++ ranges)
    (parts_all table parts.Sorted n (λ c lt. lt) (option_to_list table.settings.sorted) (sorted_below table table.settings.sorted s.sorted_known))
    (All-append P inverted ranges
    (parts_all table parts.Inverted n (λ c lt. lt) (marked table.settings.inverted) (marked_below 0 n table.settings.inverted (omega (arith, s.each_inverted))))
    (parts_all table parts.Range n (λ c lt. lt) (marked table.settings.ranged) (marked_below 0 n table.settings.ranged (omega (arith, s.each_ranged)))))) in
    All-append P (raw_sections table) (map parts.Star (trees_of table)) raw (parts_all table parts.Star m (λ t lt. lt) (trees_of table) (columns_below 0 m m (omega arith)))

extents_all : (P : Part → Type 0) (ps : List Part) (sizes : List ℕ) (offset : ℕ) → All P ps → All (λ e. P e.part) (extents_from offset ps sizes)
extents_all P [] sizes offset all = All-nil (λ e. P e.part)
extents_all P (p ∷ ps) [] offset all = All-nil (λ e. P e.part)
extents_all P (p ∷ ps) (size ∷ sizes) offset all =
    All-cons (λ e. P e.part) (record { part = p; offset = offset; size = size }) (extents_from (offset + size) ps sizes) (All-head P p ps all) (extents_all P ps sizes (offset + size) (All-tail P p ps all))

extents_after : (P : Part → Type 0) (hs rs : List Part) (sizes : List ℕ) (offset : ℕ) → All P rs → All (λ e. P e.part) (drop (length hs) (extents_from offset (hs ++ rs) sizes))
extents_after P [] rs sizes offset all = extents_all P rs sizes offset all
extents_after P (h ∷ hs) rs [] offset all = All-nil (λ e. P e.part)
extents_after P (h ∷ hs) rs (size ∷ sizes) offset all = extents_after P hs rs sizes (offset + size) all

pub raw_extents_are : (table : Table) (name : List ℕ) (front : Front) → IsValidTable table → All (λ e. IsTailPart table e.part) (raw_extents table name front)
raw_extents_are table name front valid = extents_after (IsTailPart table) (head_sections table) (tail_sections table) front.sizes (front_size table name) (tail_parts table valid)

pub extents_count : (offset : ℕ) (ps : List Part) (sizes : List ℕ) → length sizes ≡ length ps → length (extents_from offset ps sizes) ≡ length ps
extents_count offset [] sizes each = refl
extents_count offset (p ∷ ps) [] each = absurd (omega arith)
extents_count offset (p ∷ ps) (size ∷ sizes) each = omega (arith, extents_count (offset + size) ps sizes (omega arith))

pub unmapped : {X Y : Type 0} (P : X → Type 0) (f : Y → X) (ys : List Y) → All P (map f ys) → All (λ y. P (f y)) ys
unmapped P f [] all = All-nil (λ y. P (f y))
unmapped P f (y ∷ ys) all = All-cons (λ y. P (f y)) y ys (All-head P (f y) (map f ys) all) (unmapped P f ys (All-tail P (f y) (map f ys) all))

-- ---- counts

pub counted_at : (ds : List Distinct) (owner : ℕ) (d : Distinct) → owner < length ds → d ≡ get_or ds owner d → count_at ds owner ≡ length d.values
counted_at ds owner d lt is = ap length (get_or-map (λ x. x.values) ds owner d [] lt ∙ ap (λ x. x.values) (sym is))
