-- The head of an image tells the trees of its rows.
use Rattle.std.proofs.Common.{◌≡◌, ◌∙◌, ◌<◌, ◌≤◌, ℕ, All, List, [], Some, length, map, get_or, sym, ap, subst, arith}
use Rattle.std.specs.Prelude.{slice_get}
use Rattle.std.proofs.lemmas.Option.{get_or_from_slice_get, slice_get_within}
use Rattle.std.proofs.lemmas.List.{get_or-map}
use Rattle.values.specs.declared.value.Value.{Value}
use Rattle.value_ids.specs.Dictionary.{IsUnicode}
use Rattle.outside.specs.Files.{Files}
use Rattle.table_schema.specs.declared.settings.TreeSetting.{TreeSetting}
use Rattle.table_schema.specs.declared.table.Table.{Table}
use Rattle.table_schema.specs.ValidTable.{IsRow, IsValidTable, most_rows}
use Rattle.segment_file.specs.declared.trees.TreeNodes.{TreeNodes}
use Rattle.segment_file.specs.Front.{Front}
use Rattle.segment_head.specs.Heads.{Seen}
use Rattle.segment_file.specs.Reading.{nodes_said, trees_said}
use Rattle.segment_file.specs.Image.{front_of, image}
use Rattle.segment_head.specs.Laws.{HeadTellsTrees, IsTold}
use Rattle.segment_file.specs.Ordered.{ordered}
use Rattle.segment_file.specs.Rules.{heads_in}
use Rattle.segment_head.specs.Stored.{IsOfImage}
use Rattle.segment_file.specs.Trees.{nodes_of, written}
use Rattle.segment_file.proofs.ImageKeeps.{image_keeps, nodes-are, tree-there}
use Rattle.segment_file.proofs.ImageRows.{ordered_all, ordered_count}
use Rattle.segment_file.proofs.RuleLaws.{fronts_one}
use Rattle.segment_head.proofs.Steps.{slot_at}
use Rattle.segment_file.proofs.TreeChecks.{said_at, said_count}
use Rattle.segment_file.proofs.TreeRows.{TreeSections}

pub head_tells_trees : HeadTellsTrees
head_tells_trees table name file rows whole head t tree said valid named can is part setting loaded =
    let os : List (List Value) = ordered table.settings.sorted rows in
    let bytes : List ℕ = image 1 table name rows in
    let front : Front = front_of 1 table os in
    let limit = can.fit.at_most in
    let at_most : length os ≤ most_rows (length table.schema.fields) = omega (arith, limit, ordered_count table.settings.sorted rows) in
    let each : All (IsRow table.schema.fields) os = ordered_all (IsRow table.schema.fields) table.settings.sorted rows can.fit.each in
    let unicode : All (λ row. All IsUnicode row) os = ordered_all (λ row. All IsUnicode row) table.settings.sorted rows can.unicode in
    let keeps = image_keeps table name rows valid named can in
    let same : is.front ≡ front = fronts_one table name bytes front is.front keeps.front_is is.keeps.front_is in
    let heads : List (List ℕ) = heads_in table name front bytes in
    let lt : t < length table.settings.trees = slice_get_within table.settings.trees t tree setting in
    let all : whole.trees ≡ map Some (trees_said table heads) = is.trees_are ∙ ap (λ f. map Some (trees_said table (heads_in table name f bytes))) same in
    let there : slice_get (map Some (trees_said table heads)) t ≡ Some (Some said) = ap (λ xs. slice_get xs t) (sym all) ∙ slot_at whole.trees head.trees t said part.tree_slots loaded in
    let none : TreeNodes = nodes_said [] in
    let found : Some (get_or (trees_said table heads) t none) ≡ Some said =
    sym (get_or-map Some (trees_said table heads) t none (Some none) (omega (arith, lt, said_count table heads))) ∙ get_or_from_slice_get (map Some (trees_said table heads)) t (Some said) (Some none) there in
    let own : get_or (trees_said table heads) t none ≡ said = cc in
    let th = tree-there table name os at_most each unicode valid can.trees t lt in
    let trees : Some th.tree ≡ Some tree = sym th.at ∙ setting in
    let that : th.tree ≡ tree = cc in
    let told : said ≡ record { documents = length (written os th.tree).1; nodes = (written os th.tree).0 } =
    sym own
    ∙ said_at table heads t none lt
    ∙ ap nodes_said (nodes-are table name os at_most each unicode t lt ∙ ap (nodes_of os) th.at)
    ∙ th.sections.nodes_told in
    subst (λ x. IsTold os x said) that (record { documents_are = ap (λ x. x.documents) told; nodes_are = ap (λ x. x.nodes) told })

-- what there is to say of the sections of a tree of the rows of an image
pub image_tree : (table : Table) (files : Files) (rows : List (List Value)) (head : Seen) (t : ℕ) (tree : TreeSetting) → IsValidTable table → IsOfImage table files rows head → slice_get table.settings.trees t ≡ Some tree → TreeSections (ordered table.settings.sorted rows) tree
image_tree table files rows head t tree valid of setting =
    let os : List (List Value) = ordered table.settings.sorted rows in
    let limit = of.can.fit.at_most in
    let at_most : length os ≤ most_rows (length table.schema.fields) = omega (arith, limit, ordered_count table.settings.sorted rows) in
    let each : All (IsRow table.schema.fields) os = ordered_all (IsRow table.schema.fields) table.settings.sorted rows of.can.fit.each in
    let unicode : All (λ row. All IsUnicode row) os = ordered_all (λ row. All IsUnicode row) table.settings.sorted rows of.can.unicode in
    let th = tree-there table of.name os at_most each unicode valid of.can.trees t (slice_get_within table.settings.trees t tree setting) in
    let trees : Some th.tree ≡ Some tree = sym th.at ∙ setting in
    let that : th.tree ≡ tree = cc in
    subst (TreeSections os) that th.sections
