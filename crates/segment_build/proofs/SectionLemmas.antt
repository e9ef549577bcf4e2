-- The sections of all columns and trees.
use Rattle.std.proofs.Common.{◌≡◌, ◌+◌, ◌∙◌, ◌∷◌, ◌++◌, [], Bool, ℕ, suc, List, length, map, option_to_list, sym, ap, arith, refl, Some, Ok, Err, Result, IfOk}
use Rattle.std.proofs.lemmas.List.{map-append, take_all}
use Rattle.std.proofs.lemmas.Simd.{map-map}
use Rattle.std.specs.List.{range_with_len}
use Rattle.values.specs.declared.value.Value.{Value}
use Rattle.table_schema.specs.declared.table.Table.{Table}
use Rattle.segment_file.specs.declared.part.Part.{Part}
use Rattle.segment_file.specs.declared.part.Part.TheVariants as parts
use Rattle.segment_file.specs.Image.{section_of, sections_of_rows}
use Rattle.segment_file.specs.Trees.{nodes_of, star_of}
use Rattle.segment_file.specs.Parts.{columns_of, head_sections, marked, raw_sections, tail_sections, trees_of}
use Rattle.table_schema.specs.ValidTable.{IsValidTable}
use Rattle.std.specs.Prelude.{slice_get}
use Rattle.segment_build.specs.Growing.{nodes_grown, stars_grown}
use Rattle.segment_build.specs.Sections.{in_order, made_of}
use Rattle.segment_build.proofs.ColumnLemmas.{sorted_all}

-- what is made of each item of a list is made of their numbers
numbered : {X Y : Type 0} (f : X → Y) (g : ℕ → Y) (xs : List X) (from : ℕ) → ((i : ℕ) (x : X) → slice_get xs i ≡ Some x → g (from + i) ≡ f x) → map f xs ≡ map g (range_with_len from (length xs))
numbered f g [] from is = refl
numbered f g (x ∷ xs) from is =
    let zero_plus : from + 0 ≡ from = omega arith in
    let here : f x ≡ g from = sym (is 0 x refl) ∙ ap g zero_plus in
    let more = numbered f g xs (from + 1) (λ i y at. (let next : from + 1 + i ≡ from + suc i = omega arith in ap g next ∙ is (suc i) y at)) in
    (λ i. here i ∷ more i)

nodes_same : (table : Table) (rows : List (List Value)) → nodes_grown rows table.settings.trees ≡ map (section_of table rows) (map parts.Nodes (trees_of table))
nodes_same table rows =
    numbered (λ tree. nodes_of rows (Some tree)) (λ t. section_of table rows (parts.Nodes t)) table.settings.trees 0 (λ t tree at. (let zero_plus : 0 + t ≡ t = omega arith in ap (λ i. section_of table rows (parts.Nodes i)) zero_plus ∙ ap (nodes_of rows) at))
    ∙ sym (map-map (section_of table rows) parts.Nodes (trees_of table))

stars_same : (table : Table) (rows : List (List Value)) → stars_grown rows table.settings.trees ≡ map (section_of table rows) (map parts.Star (trees_of table))
stars_same table rows =
    numbered (λ tree. star_of rows (Some tree)) (λ t. section_of table rows (parts.Star t)) table.settings.trees 0 (λ t tree at. (let zero_plus : 0 + t ≡ t = omega arith in ap (λ i. section_of table rows (parts.Star i)) zero_plus ∙ ap (star_of rows) at))
    ∙ sym (map-map (section_of table rows) parts.Star (trees_of table))

-- the sections of all columns but the bounds and the dictionaries are those of the rows
raw_same : (table : Table) (rows : List (List Value)) → IsValidTable table
    → (let made = made_of table rows (length table.schema.fields) in made.forwards ++ (made.runs ++ (made.lists ++ made.ranges))) ≡ map (section_of table rows) (raw_sections table)
raw_same table rows valid =
    let section : Part → List ℕ = section_of table rows in
    let columns : List ℕ = columns_of table in
    let marks : List Bool = table.settings.inverted in
    let others : List Bool = table.settings.ranged in
    let count : ℕ = length table.schema.fields in
    let sorted : List ℕ = option_to_list table.settings.sorted in
    let forwards : List Part = map parts.Forward columns in
    let runs : List Part = map parts.Sorted sorted in
    let lists : List Part = map parts.Inverted (marked marks) in
    let ranges : List Part = map parts.Range (marked others) in
    let s = sorted_all count table.schema.fields table.settings.sorted refl valid.settings.sorted_known in
    let m = take_all count marks (omega (arith, valid.settings.each_inverted)) in
    let o = take_all count others (omega (arith, valid.settings.each_ranged)) in
    (λ i. map (λ c. section (parts.Forward c)) columns
    ++ (map (λ c. section (parts.Sorted c)) (s i) ++ (map (λ c. section (parts.Inverted c)) (marked (m i)) ++ map (λ c. section (parts.Range c)) (marked (o i)))))
    ∙ (λ i. sym (map-map section parts.Forward columns) i
    ++ (sym (map-map section parts.Sorted sorted) i ++ (sym (map-map section parts.Inverted (marked marks)) i ++ sym (map-map section parts.Range (marked others)) i)))
    ∙ ap (λ rest. map section forwards ++ (map section runs ++ rest)) (sym (map-append section lists ranges))
    ∙ ap (λ rest. map section forwards ++ rest) (sym (map-append section runs (lists ++ ranges)))
    ∙ sym (map-append section forwards (runs ++ (lists ++ ranges)))

-- the sections of all columns and trees are those of the rows
pub made_all : (table : Table) (rows : List (List Value)) → IsValidTable table → in_order (made_of table rows (length table.schema.fields)) (nodes_grown rows table.settings.trees) (stars_grown rows table.settings.trees) ≡ sections_of_rows table rows
made_all table rows valid =
    let section : Part → List ℕ = section_of table rows in
    let columns : List ℕ = columns_of table in
    let ds : List Part = map parts.Dictionary columns in
    let ns : List Part = map parts.Nodes (trees_of table) in
    let stars : List Part = map parts.Star (trees_of table) in
    let raw = raw_same table rows valid in
    let heads : map (λ c. section (parts.Dictionary c)) columns ++ nodes_grown rows table.settings.trees ≡ map section (ds ++ ns) =
    (λ i. sym (map-map section parts.Dictionary columns) i ++ nodes_same table rows i) ∙ sym (map-append section ds ns) in
    let tails : map section (raw_sections table) ++ stars_grown rows table.settings.trees ≡ map section (tail_sections table) =
    ap (λ rest. map section (raw_sections table) ++ rest) (stars_same table rows) ∙ sym (map-append section (raw_sections table) stars) in
    (λ i. section parts.Bounds ∷ (heads i ++ (raw i ++ stars_grown rows table.settings.trees)))
    ∙ ap (λ rest. section parts.Bounds ∷ (map section (ds ++ ns) ++ rest)) tails
    ∙ sym (map-append section (head_sections table) (tail_sections table))

pub if_ok_same : {X E : Type 0} (r : Result X E) (a b : X) → a ≡ b → IfOk r (λ x. x ≡ a) → IfOk r (λ x. x ≡ b)
if_ok_same (Ok x) a b same is = is ∙ same
if_ok_same (Err e) a b same is = tt
