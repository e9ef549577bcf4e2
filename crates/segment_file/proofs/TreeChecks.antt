-- The trees of a table, and how long the sections after the head are, by what was read.
use Rattle.std.proofs.Common.{◌≡◌, ◌∙◌, ◌<◌, ◌≤◌, ◌+◌, ◌*◌, ℕ, zero, suc, All, List, [], ◌∷◌, length, get_or, Some, refl, sym, ap, subst, arith, take}
use Rattle.std.specs.List.{AllByRecursion}
use Rattle.std.specs.Prelude.{slice_get}
use Rattle.std.proofs.lemmas.List.{get_or-map, length-map, take_more}
use Rattle.std.proofs.lemmas.List.Elements.{All-push}
use Rattle.std.proofs.lemmas.List.FromFn.{get_or-range_with_len, length-range_with_len}
use Rattle.table_schema.specs.declared.field.Field.{Field}
use Rattle.table_schema.specs.declared.settings.TreeSetting.{TreeSetting}
use Rattle.table_schema.specs.declared.table.Table.{Table}
use Rattle.table_schema.specs.ValidSettings.{IsValidTree}
use Rattle.value_ids.specs.Dictionary.{Distinct}
use Rattle.star_file.specs.Reading.{doc_width}
use Rattle.segment_file.specs.declared.part.Part.{Part}
use Rattle.segment_file.specs.declared.part.Part.TheVariants as parts
use Rattle.segment_file.specs.declared.section.Section.{Section}
use Rattle.segment_file.specs.declared.trees.TreeNodes.{TreeNodes}
use Rattle.segment_file.specs.Reading.{nodes_said, trees_said, IsTailPart, count_at, FitsSize, SizeFails}
use Rattle.segment_file.specs.Parts.{columns_of, owner_of, trees_of}
use Rattle.segment_file.specs.Rules.{AreSpelled, count_in, dictionary_in, nodes_in, size_for, size_in, star_size}
use Rattle.segment_file.proofs.Tails.{count_same, spelled_length, counted_at}

-- ---- the trees of a table

pub valid_at : (columns : List Field) (trees : List TreeSetting) (t : ℕ) (tree : TreeSetting) → AllByRecursion (IsValidTree columns) trees → slice_get trees t ≡ Some tree → IsValidTree columns tree
valid_at columns [] t tree all at = cc
valid_at columns (x ∷ xs) zero tree all at = let e : x ≡ tree = cc in subst (IsValidTree columns) e all.0
valid_at columns (x ∷ xs) (suc t) tree all at = valid_at columns xs t tree all.1 at

pub few_kinds : (columns : List Field) (tree : TreeSetting) → IsValidTree columns tree → length tree.shape.kinds ≤ 16
few_kinds columns tree valid = omega (arith, ap length valid.has_kinds, length-map tree.pairs (λ p. p.kind), valid.few_pairs)

pub said_count : (table : Table) (heads : List (List ℕ)) → length (trees_said table heads) ≡ length table.settings.trees
said_count table heads = length-map (trees_of table) (λ t. nodes_said (nodes_in table heads t)) ∙ length-range_with_len 0 (length table.settings.trees)

pub said_at : (table : Table) (heads : List (List ℕ)) (t : ℕ) (d : TreeNodes) → t < length table.settings.trees → get_or (trees_said table heads) t d ≡ nodes_said (nodes_in table heads t)
said_at table heads t d lt =
    let m : ℕ = length table.settings.trees in
    let zero_plus : 0 + t ≡ t = omega arith in
    get_or-map (λ s. nodes_said (nodes_in table heads s)) (trees_of table) t 0 d (omega (arith, lt, length-range_with_len 0 m))
    ∙ ap (λ s. nodes_said (nodes_in table heads s)) (get_or-range_with_len 0 m t 0 lt ∙ zero_plus)

-- ---- how long the sections are

pub star_sized : (table : Table) (heads : List (List ℕ)) (t : ℕ) (trees : List TreeNodes) (x : TreeNodes) (tree : TreeSetting) (documents width : ℕ) → t < length table.settings.trees → trees ≡ trees_said table heads → x ≡ get_or trees t x
    → slice_get table.settings.trees t ≡ Some tree → documents ≡ x.documents → width ≡ doc_width tree.shape → documents * width ≡ star_size (nodes_in table heads t) (slice_get table.settings.trees t)
star_sized table heads t trees x tree documents width lt said at setting documents_are width_is =
    let same : x ≡ nodes_said (nodes_in table heads t) = at ∙ ap (λ xs. get_or xs t x) said ∙ said_at table heads t x lt in
    let number = documents_are ∙ ap (λ y. y.documents) same in
    (λ i. number i * width_is i) ∙ ap (star_size (nodes_in table heads t)) (sym setting)

pub field_owner : (table : Table) (p : Part) → IsTailPart table p → ((t : ℕ) → p ≡ parts.Star t → ⊥) → owner_of p < length table.schema.fields
field_owner table parts.Table is other = absurd is
field_owner table parts.Head is other = absurd is
field_owner table parts.Bounds is other = absurd is
field_owner table (parts.Dictionary c) is other = absurd is
field_owner table (parts.Nodes t) is other = absurd is
field_owner table (parts.Forward c) is other = is
field_owner table (parts.Sorted c) is other = is
field_owner table (parts.Inverted c) is other = is
field_owner table (parts.Range c) is other = is
field_owner table (parts.Star t) is other = absurd (other t refl)

by_count : (table : Table) (rows count : ℕ) (heads : List (List ℕ)) (p : Part) → IsTailPart table p → ((t : ℕ) → p ≡ parts.Star t → ⊥) → count ≡ count_in (dictionary_in heads (owner_of p)) → size_for rows count p ≡ size_in table rows heads p
by_count table rows count heads parts.Table is other e = absurd is
by_count table rows count heads parts.Head is other e = absurd is
by_count table rows count heads parts.Bounds is other e = absurd is
by_count table rows count heads (parts.Dictionary c) is other e = absurd is
by_count table rows count heads (parts.Nodes t) is other e = absurd is
by_count table rows count heads (parts.Forward c) is other e = ap (λ n. size_for rows n (parts.Forward c)) e
by_count table rows count heads (parts.Sorted c) is other e = ap (λ n. size_for rows n (parts.Sorted c)) e
by_count table rows count heads (parts.Inverted c) is other e = ap (λ n. size_for rows n (parts.Inverted c)) e
by_count table rows count heads (parts.Range c) is other e = ap (λ n. size_for rows n (parts.Range c)) e
by_count table rows count heads (parts.Star t) is other e = absurd (other t refl)

pub field_sized : (table : Table) (rows owner count size : ℕ) (heads : List (List ℕ)) (ds : List Distinct) (d : Distinct) (p : Part) → AreSpelled table rows heads (columns_of table) ds → IsTailPart table p → ((t : ℕ) → p ≡ parts.Star t → ⊥)
    → owner ≡ owner_of p → d ≡ get_or ds owner d → count ≡ length d.values → size ≡ size_for rows count p → size ≡ size_in table rows heads p
field_sized table rows owner count size heads ds d p spelled is other owner_is at count_is size_is =
    let lt : owner_of p < length table.schema.fields = field_owner table p is other in
    let within : owner < length ds = omega (arith, lt, owner_is, spelled_length table rows heads ds spelled) in
    let counts : count ≡ count_in (dictionary_in heads (owner_of p)) =
    count_is ∙ sym (counted_at ds owner d within at) ∙ ap (count_at ds) owner_is ∙ sym (count_same table rows heads ds (owner_of p) spelled lt) in
    size_is ∙ by_count table rows count heads p is other counts

-- ---- the sizes of sections, one after the other

pub size_stops : (table : Table) (rows : ℕ) (heads : List (List ℕ)) (sections : List Section) (i : ℕ) (s : Section) → i < length sections → s ≡ get_or sections i s → All (FitsSize table rows heads) (take i sections) → ¬ FitsSize table rows heads s → SizeFails table rows heads sections s.part
size_stops table rows heads sections i s lt is sized other = record { at = i; within = lt; failing = s; is_at = is; sized = sized; other = other; is_of = refl }

pub sized_more : (table : Table) (rows : ℕ) (heads : List (List ℕ)) (sections : List Section) (i : ℕ) (s : Section) → i < length sections → s ≡ get_or sections i s → All (FitsSize table rows heads) (take i sections) → FitsSize table rows heads s → All (FitsSize table rows heads) (take (i + 1) sections)
sized_more table rows heads sections i s lt is sized one =
    subst (All (FitsSize table rows heads)) (sym (take_more sections i s lt))
    (All-push (FitsSize table rows heads) (take i sections) (get_or sections i s) sized (subst (FitsSize table rows heads) is one))
