-- The rules of a head, looked at in the bytes of the head, are those of the file.
use Rattle.std.proofs.Common.{◌≡◌, ◌≢◌, ◌∙◌, ◌<◌, ◌≤◌, ◌+◌, ◌-◌, ◌*◌, ◌^◌, ℕ, zero, suc, All, List, [], ◌∷◌, ◌++◌, length, map, get_or, take, drop, sum, refl, sym, ap, ap₂, subst, arith}
use Rattle.std.proofs.lemmas.List.{drop-take, take-take, drop_more, get_or-map, take-append-drop, length-map}
use Rattle.std.proofs.lemmas.List.Elements.{All-get_or, All-map}
use Rattle.std.proofs.lemmas.List.Sums.{sum_by-cons}
use Rattle.std.specs.List.{take-map, drop-map}
use Rattle.value_ids.specs.Dictionary.{Distinct}
use Rattle.table_schema.specs.declared.table.Table.{Table}
use Rattle.table_schema.specs.ValidTable.{IsValidTable}
use Rattle.segment_file.specs.declared.part.Part.{Part}
use Rattle.segment_file.specs.declared.part.Part.TheVariants as parts
use Rattle.segment_file.specs.declared.section.Section.{Section}
use Rattle.segment_file.specs.Bounds.{bounds_bytes, bounds_of}
use Rattle.segment_file.specs.Front.{Extent, Front, extents_from, extents_of, file_end, front_size, head_end}
use Rattle.segment_head.specs.Heads.{placed}
use Rattle.segment_file.specs.Reading.{trees_said, FitsSize, IsTailPart, SizeFails}
use Rattle.segment_file.specs.declared.trees.TreeNodes.{TreeNodes}
use Rattle.segment_file.specs.Parts.{columns_of, head_sections, sections_of}
use Rattle.segment_head.specs.Reading.{NodesStop, StopsAt, bytes_of_section, heads_of, heads_read}
use Rattle.segment_file.specs.Rules.{AreSpelled, FailsAt, FailsSize, HasDictionaries, HasFront, HaveNodes, IsSized, KeepsAll, heads_in, raw_extents, section_bytes}
use Rattle.segment_file.proofs.Counts.{few_sections, head_count, some_sections}
use Rattle.segment_file.proofs.Tails.{raw_extents_are, extents_count, unmapped}

-- ---- the sections of the head

-- bytes before an end are the same in what ends there
within_front : (whole : List ℕ) (h offset size : ℕ) → offset + size ≤ h → take size (drop offset (take h whole)) ≡ take size (drop offset whole)
within_front whole h offset size le =
    let e : h ≡ offset + (h - offset) = omega arith in
    ap (λ n. take size (drop offset (take n whole))) e
    ∙ ap (take size) (drop-take offset (h - offset) whole)
    ∙ take-take size (h - offset) (drop offset whole) (omega arith)

heads_from : (file whole : List ℕ) (h n offset : ℕ) (ps : List Part) (sizes : List ℕ) → offset + sum (take n sizes) ≤ h
    → map (bytes_of_section (take h whole)) (take n (map (placed file) (extents_from offset ps sizes))) ≡ map (section_bytes whole) (take n (extents_from offset ps sizes))
heads_from file whole h zero offset ps sizes le = refl
heads_from file whole h (suc n) offset [] sizes le = refl
heads_from file whole h (suc n) offset (p ∷ ps) [] le = refl
heads_from file whole h (suc n) offset (p ∷ ps) (size ∷ sizes) le =
    let all : sum (size ∷ take n sizes) ≡ size + sum (take n sizes) = sum_by-cons (λ k. k) size (take n sizes) in
    ap₂ ◌∷◌ (within_front whole h offset size (omega arith)) (heads_from file whole h n (offset + size) ps sizes (omega arith))

pub heads_same : (table : Table) (name file whole bytes : List ℕ) (front : Front) (sections : List Section) → sections ≡ map (placed file) (extents_of table name front) → bytes ≡ take (head_end table name front) whole
    → heads_read table sections bytes ≡ heads_in table name front whole
heads_same table name file whole bytes front sections made cut =
    (λ i. heads_of (sym (head_count table) i) (made i) (cut i))
    ∙ heads_from file whole (head_end table name front) (length (head_sections table)) (front_size table name) (sections_of table) front.sizes (omega arith)

-- ---- the sections after the head

-- the sections after the head among those of a file
pub raw_made : (table : Table) (name file : List ℕ) (front : Front) (sections : List Section) → sections ≡ map (placed file) (extents_of table name front) → drop (length table.schema.fields + 1 + length table.settings.trees) sections ≡ map (placed file) (raw_extents table name front)
raw_made table name file front sections made =
    (λ i. drop (sym (head_count table) i) (made i)) ∙ drop-map (placed file) (length (head_sections table)) (extents_of table name front)

pub parts_made : (table : Table) (name file : List ℕ) (front : Front) (raw : List Section) → IsValidTable table → raw ≡ map (placed file) (raw_extents table name front) → All (λ s. IsTailPart table s.part) raw
parts_made table name file front raw valid made =
    subst (All (λ s. IsTailPart table s.part)) (sym made)
    (All-map (λ (s : Section). IsTailPart table s.part) (placed file) (raw_extents table name front) (raw_extents_are table name front valid))

-- the sections were made of the front
pub made_is : (table : Table) (name file : List ℕ) (front : Front) (ps : List Part) (found sections : List Section) (start : ℕ) (sizes : List ℕ) → start ≡ 38 + length name + 19 * length ps → ps ≡ sections_of table → sizes ≡ front.sizes
    → sections ≡ map (placed file) (extents_from start ps sizes) → found ≡ sections → found ≡ map (placed file) (extents_of table name front)
made_is table name file front ps found sections start sizes start_is ps_are sizes_are made same =
    let begins : start ≡ front_size table name = start_is ∙ ap (λ qs. 38 + length name + 19 * length qs) ps_are in
    same ∙ made ∙ (λ i. map (placed file) (extents_from (begins i) (ps_are i) (sizes_are i)))

pub made_count : (table : Table) (name file : List ℕ) (front : Front) (ps : List Part) (sections : List Section) → ps ≡ sections_of table → length front.sizes ≡ length ps → sections ≡ map (placed file) (extents_of table name front) → length table.schema.fields + 1 + length table.settings.trees ≤ length sections
made_count table name file front ps sections ps_are each made =
    omega (
      arith,
      ap length made,
      length-map (extents_of table name front) (placed file),
      extents_count (front_size table name) (sections_of table) front.sizes (each ∙ ap length ps_are),
      some_sections table,
      head_count table,
    )

-- there are enough of them for the dictionaries, and for what the head takes
pub made_fields : (table : Table) (sections : List Section) → length table.schema.fields + 1 + length table.settings.trees ≤ length sections → length table.schema.fields + 1 ≤ length sections
made_fields table sections many = omega (arith, many)

pub made_heads : (table : Table) (fields trees : ℕ) (here sections : List Section) → fields ≡ length table.schema.fields → trees ≡ length table.settings.trees → here ≡ sections → length table.schema.fields + 1 + length table.settings.trees ≤ length sections → fields + 1 + trees ≤ length here
made_heads table fields trees here sections fields_are trees_are same many = omega (arith, fields_are, trees_are, ap length same, many)

pub few_parts : (table : Table) (ps : List Part) → IsValidTable table → ps ≡ sections_of table → length ps ≤ 512
few_parts table ps valid ps_are = omega (arith, few_sections table valid, ap length ps_are)

pub short_sections : (table : Table) (name : List ℕ) (front : Front) (ps : List Part) (sizes : List ℕ) (start : ℕ) → start ≡ 38 + length name + 19 * length ps → ps ≡ sections_of table → sizes ≡ front.sizes → file_end table name front < 2 ^ 64 → start + sum sizes < 2 ^ 64
short_sections table name front ps sizes start start_is ps_are sizes_are short = omega (arith, start_is, ap length ps_are, ap sum sizes_are, short)

-- ---- what fails in the file, and what holds

fails_raw : (table : Table) (name whole : List ℕ) (p : Part) → IsTailPart table p → FailsSize table name whole p → FailsAt table name whole p
fails_raw table name whole parts.Table raw fails = absurd raw
fails_raw table name whole parts.Head raw fails = absurd raw
fails_raw table name whole parts.Bounds raw fails = absurd raw
fails_raw table name whole (parts.Dictionary column) raw fails = absurd raw
fails_raw table name whole (parts.Nodes t) raw fails = absurd raw
fails_raw table name whole (parts.Forward column) raw fails = fails
fails_raw table name whole (parts.Sorted column) raw fails = fails
fails_raw table name whole (parts.Inverted column) raw fails = fails
fails_raw table name whole (parts.Range column) raw fails = fails
fails_raw table name whole (parts.Star t) raw fails = fails

module _ (table : Table) (name file whole bytes : List ℕ) (front : Front) (sections : List Section) (rows : ℕ) (valid : IsValidTable table) (made : sections ≡ map (placed file) (extents_of table name front)) (rows_is : rows ≡ front.rows) (has : HasFront table name whole front) (cut : bytes ≡ take (head_end table name front) whole) where
  heads-are : heads_read table sections bytes ≡ heads_in table name front whole
  heads-are = heads_same table name file whole bytes front sections made cut

  spelled-are : (columns : List ℕ) (ds : List Distinct) → AreSpelled table rows (heads_read table sections bytes) columns ds → AreSpelled table front.rows (heads_in table name front whole) columns ds
  spelled-are columns ds all =
      subst (λ h. AreSpelled table front.rows h columns ds) heads-are (subst (λ r. AreSpelled table r (heads_read table sections bytes) columns ds) rows_is all)

  pub dictionary_fails : (p : Part) → ((column : ℕ) × (p ≡ parts.Dictionary column) × StopsAt table rows (heads_read table sections bytes) column) → FailsAt table name whole p
  dictionary_fails p (column, is, stops) =
      let there : StopsAt table front.rows (heads_in table name front whole) column =
      subst (λ h. StopsAt table front.rows h column) heads-are (subst (λ r. StopsAt table r (heads_read table sections bytes) column) rows_is stops) in
      subst (FailsAt table name whole) (sym is)
      (record { front = front; front_is = has; field = there.field; before = there.before; spelled = there.spelled; none = there.none })

  first-is : (first : List ℕ) → first ≡ get_or (heads_read table sections bytes) 0 [] → get_or (heads_in table name front whole) 0 [] ≡ first
  first-is first is = ap (λ h. get_or h 0 []) (sym heads-are) ∙ sym is

  pub bounds_fail : (ds : List Distinct) (first : List ℕ) → AreSpelled table rows (heads_read table sections bytes) (columns_of table) ds → first ≡ get_or (heads_read table sections bytes) 0 []
      → first ≢ bounds_bytes (bounds_of ds) → FailsAt table name whole parts.Bounds
  bounds_fail ds first all is other = record {
    front = front;
    front_is = has;
    dictionaries = ds;
    spelled = spelled-are (columns_of table) ds all;
    others = λ same. other (sym (first-is first is) ∙ same);
  }

  module _ (ds : List Distinct) (first : List ℕ) (all : AreSpelled table rows (heads_read table sections bytes) (columns_of table) ds) (is : first ≡ get_or (heads_read table sections bytes) 0 []) (same : first ≡ bounds_bytes (bounds_of ds)) where
    has-dictionaries : HasDictionaries table front.rows (heads_in table name front whole) ds
    has-dictionaries = record { spelled = spelled-are (columns_of table) ds all; bounds = first-is first is ∙ same }

    nodes-are : (count : ℕ) → HaveNodes table rows (heads_read table sections bytes) count → HaveNodes table front.rows (heads_in table name front whole) count
    nodes-are count have = subst (λ h. HaveNodes table front.rows h count) heads-are (subst (λ r. HaveNodes table r (heads_read table sections bytes) count) rows_is have)

    pub nodes_fail : (p : Part) → ((t : ℕ) × (p ≡ parts.Nodes t) × NodesStop table rows (heads_read table sections bytes) t) → FailsAt table name whole p
    nodes_fail p (t, part_is, stops) =
        let there : NodesStop table front.rows (heads_in table name front whole) t =
        subst (λ h. NodesStop table front.rows h t) heads-are (subst (λ r. NodesStop table r (heads_read table sections bytes) t) rows_is stops) in
        subst (FailsAt table name whole) (sym part_is)
        (record { front = front; front_is = has; dictionaries = ds; heads = has-dictionaries; tree = there.tree; before = there.before; none = there.none })

    pub trees_told : (trees : List TreeNodes) → trees ≡ trees_said table (heads_read table sections bytes) → trees ≡ trees_said table (heads_in table name front whole)
    trees_told trees said = said ∙ ap (trees_said table) heads-are

    module _ (have : HaveNodes table rows (heads_read table sections bytes) (length table.settings.trees)) where
      sizes-hold : (xs : List Extent) → All (FitsSize table rows (heads_read table sections bytes)) (map (placed file) xs) → All (IsSized table front.rows (heads_in table name front whole)) xs
      sizes-hold xs fits =
          subst (λ h. All (IsSized table front.rows h) xs) heads-are
          (subst (λ r. All (IsSized table r (heads_read table sections bytes)) xs) rows_is (unmapped (FitsSize table rows (heads_read table sections bytes)) (placed file) xs fits))

      pub all_hold : (raw : List Section) → raw ≡ map (placed file) (raw_extents table name front) → All (FitsSize table rows (heads_read table sections bytes)) raw → KeepsAll table name whole front ds
      all_hold raw raw_is fits = record {
        front_is = has;
        heads = has-dictionaries;
        trees = nodes-are (length table.settings.trees) have;
        sized = sizes-hold (raw_extents table name front) (subst (All (FitsSize table rows (heads_read table sections bytes))) raw_is fits);
      }

      size_fails_at : (p : Part) → SizeFails table rows (heads_read table sections bytes) (map (placed file) (raw_extents table name front)) p → FailsAt table name whole p
      size_fails_at p fails =
          let R : List (List ℕ) = heads_read table sections bytes in
          let xs : List Extent = raw_extents table name front in
          let none : Extent = record { part = parts.Head; offset = 0; size = 0 } in
          let at : ℕ = fails.at in
          let within : at < length xs = omega (arith, fails.within, length-map xs (placed file)) in
          let e : Extent = get_or xs at none in
          let same : fails.failing ≡ placed file e = fails.is_at ∙ get_or-map (placed file) xs at none fails.failing within in
          let raw : IsTailPart table e.part = All-get_or (λ x. IsTailPart table x.part) xs at none within (raw_extents_are table name front valid) in
          let part_is : e.part ≡ p = ap (λ s. s.part) (sym same) ∙ fails.is_of in
          let size_fails : FailsSize table name whole p = record {
            front = front;
            front_is = has;
            dictionaries = ds;
            heads = has-dictionaries;
            trees = nodes-are (length table.settings.trees) have;
            before = take at xs;
            failing = e;
            after = drop (at + 1) xs;
            order = sym (take-append-drop at xs) ∙ ap (λ rest. take at xs ++ rest) (drop_more xs at none within);
            sized = sizes-hold (take at xs) (subst (All (FitsSize table rows R)) (take-map (placed file) at xs) fails.sized);
            other = λ sized. fails.other (subst (FitsSize table rows R) (sym same) (subst (λ r. IsSized table r R e) (sym rows_is) (subst (λ h. IsSized table front.rows h e) (sym heads-are) sized)));
            is_of = part_is;
          } in
          fails_raw table name whole p (subst (IsTailPart table) part_is raw) size_fails

      pub size_fails : (p : Part) (raw : List Section) → raw ≡ map (placed file) (raw_extents table name front) → SizeFails table rows (heads_read table sections bytes) raw p → FailsAt table name whole p
      size_fails p raw raw_is fails = size_fails_at p (subst (λ xs. SizeFails table rows (heads_read table sections bytes) xs p) raw_is fails)
