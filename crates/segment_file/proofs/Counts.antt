-- How many sections there are.
use Rattle.std.proofs.Common.{◌≡◌, ◌∙◌, ◌<◌, ◌≤◌, ◌+◌, ℕ, All, Bool, true, false, List, [], ◌∷◌, ◌++◌, length, map, Option, Some, None, subst, arith}
use Rattle.std.specs.Prelude.{option_to_list}
use Rattle.std.proofs.lemmas.List.{length-append, length-map}
use Rattle.std.proofs.lemmas.List.FromFn.{get_or-range_with_len, length-range_with_len}
use Rattle.std.specs.List.{range_with_len}
use Rattle.table_schema.specs.declared.table.Table.{Table}
use Rattle.table_schema.specs.ValidTable.{IsValidTable}
use Rattle.segment_file.specs.declared.part.Part.{Part}
use Rattle.segment_file.specs.declared.part.Part.TheVariants as parts
use Rattle.segment_file.specs.Parts.{columns_of, head_sections, marked, marked_from, raw_sections, sections_of, tail_sections, trees_of}

few_marked : (at : ℕ) (marks : List Bool) → length (marked_from at marks) ≤ length marks
few_marked at [] = omega arith
few_marked at (true ∷ marks) = omega (arith, few_marked (at + 1) marks)
few_marked at (false ∷ marks) = omega (arith, few_marked (at + 1) marks)

one_sorted : (column : Option ℕ) → length (option_to_list column) ≤ 1
one_sorted None = omega arith
one_sorted (Some column) = omega arith

columns_count : (table : Table) → length (columns_of table) ≡ length table.schema.fields
columns_count table = length-range_with_len 0 (length table.schema.fields)

trees_count : (table : Table) → length (trees_of table) ≡ length table.settings.trees
trees_count table = length-range_with_len 0 (length table.settings.trees)

-- the bounds, a dictionary a field, and the nodes of each tree
pub head_count : (table : Table) → length (head_sections table) ≡ length table.schema.fields + 1 + length table.settings.trees
head_count table =
    let ds : List Part = map parts.Dictionary (columns_of table) in
    let ns : List Part = map parts.Nodes (trees_of table) in
    let more : length (parts.Bounds ∷ (ds ++ ns)) ≡ length (ds ++ ns) + 1 = omega arith in
    omega (arith, more, length-append ds ns, length-map (columns_of table) parts.Dictionary, columns_count table, length-map (trees_of table) parts.Nodes, trees_count table)

pub raw_count : (table : Table) → length table.schema.fields ≤ length (raw_sections table)
raw_count table =
    let sorted : List Part = map parts.Sorted (option_to_list table.settings.sorted) in
    let inverted : List Part = map parts.Inverted (marked table.settings.inverted) in
    let ranges : List Part = map parts.Range (marked table.settings.ranged) in
    omega (arith, length-append (map parts.Forward (columns_of table)) (sorted ++ (inverted ++ ranges)), length-map (columns_of table) parts.Forward, columns_count table)

tail_count : (table : Table) → length (tail_sections table) ≡ length (raw_sections table) + length table.settings.trees
tail_count table = omega (arith, length-append (raw_sections table) (map parts.Star (trees_of table)), length-map (trees_of table) parts.Star, trees_count table)

pub some_sections : (table : Table) → length (sections_of table) ≡ length (head_sections table) + length (tail_sections table)
some_sections table = length-append (head_sections table) (tail_sections table)

-- each field has a section after the head
pub all_sections : (table : Table) → length (head_sections table) + length table.schema.fields ≤ length (sections_of table)
all_sections table = omega (arith, some_sections table, tail_count table, raw_count table)

pub few_sections : (table : Table) → IsValidTable table → length (sections_of table) ≤ 274
few_sections table valid =
    let sorted : List Part = map parts.Sorted (option_to_list table.settings.sorted) in
    let inverted : List Part = map parts.Inverted (marked table.settings.inverted) in
    let ranges : List Part = map parts.Range (marked table.settings.ranged) in
    let at_most = valid.schema.at_most in
    let few_trees = valid.settings.few_trees in
    let each_inverted = valid.settings.each_inverted in
    let each_ranged = valid.settings.each_ranged in
    omega (
      arith,
      few_trees,
      some_sections table,
      head_count table,
      tail_count table,
      length-append (map parts.Forward (columns_of table)) (sorted ++ (inverted ++ ranges)),
      length-append sorted (inverted ++ ranges),
      length-append inverted ranges,
      length-map (columns_of table) parts.Forward,
      length-map (option_to_list table.settings.sorted) parts.Sorted,
      length-map (marked table.settings.inverted) parts.Inverted,
      length-map (marked table.settings.ranged) parts.Range,
      columns_count table,
      one_sorted table.settings.sorted,
      few_marked 0 table.settings.inverted,
      few_marked 0 table.settings.ranged,
    )

-- what holds of the first numbers holds of each
pub all_at : (P : ℕ → Type 0) (n i : ℕ) → All P (range_with_len 0 n) → i < n → P i
all_at P n i all lt =
    let zero_plus : 0 + i ≡ i = omega arith in
    subst P (get_or-range_with_len 0 n i 0 lt ∙ zero_plus) (all i 0 (omega (arith, lt, length-range_with_len 0 n)))
