-- The nodes of trees, by what was read.
use Rattle.std.proofs.Common.{◌≡◌, ◌∙◌, ◌<◌, ◌≤◌, ◌+◌, ℕ, true, All, List, [], ◌∷◌, length, map, get_or, Some, IfSome, refl, sym, ap, subst, arith, ltb-true}
use Rattle.std.specs.List.{list_all, range_with_len}
use Rattle.std.specs.Prelude.{slice_get}
use Rattle.std.proofs.lemmas.List.Elements.{All-cons, All-head, All-nil, All-push, All-tail}
use Rattle.std.proofs.lemmas.Option.{slice_get-get_or}
use Rattle.table_schema.specs.declared.field.Field.{Field}
use Rattle.table_schema.specs.declared.settings.TreeSetting.{TreeSetting}
use Rattle.table_schema.specs.declared.table.Table.{Table}
use Rattle.table_schema.specs.ValidSettings.{IsValidTree, is_number_of}
use Rattle.table_schema.specs.ValidTable.{IsValidTable}
use Rattle.value_ids.specs.Dictionary.{Distinct}
use Rattle.star_file.specs.declared.checking.NodesFault.{NodesFault}
use Rattle.star_file.specs.declared.checking.NodesFault.TheVariants as reasons
use Rattle.segment_file.specs.declared.fault.HeadFault.{HeadFault}
use Rattle.segment_file.specs.declared.fault.HeadFault.TheVariants as fault
use Rattle.segment_file.specs.declared.part.Part.{Part}
use Rattle.segment_file.specs.declared.section.Section.{Section}
use Rattle.segment_file.specs.Reading.{count_at}
use Rattle.segment_file.specs.Parts.{columns_of}
use Rattle.segment_head.specs.Reading.{bytes_of_section, heads_read}
use Rattle.segment_file.specs.Rules.{AreNodes, AreSpelled, HasNodes, HaveNodes, count_in, dictionary_in, nodes_in, split_counts}
use Rattle.segment_file.proofs.Tails.{count_same}
use Rattle.segment_head.proofs.HeadLemmas.{heads_at, ranges_push}
use Rattle.segment_file.proofs.ImageRows.{and_first, and_second, if_some}
use Rattle.segment_file.proofs.TreeChecks.{valid_at, few_kinds}

-- ---- the nodes of a tree that is read

-- the setting, the counts and the bytes by which the nodes of a tree are looked at
pub record TreeRead (table : Table) (heads : List (List ℕ)) (t : ℕ) (tree : TreeSetting) (counts bytes : List ℕ) : Type 0 where
  pub at : slice_get table.settings.trees t ≡ Some tree
  pub counts_are : counts ≡ split_counts heads tree
  pub bytes_are : bytes ≡ nodes_in table heads t

split_below : (fields : List Field) (split : List ℕ) → list_all (is_number_of fields) split ≡ true → All (λ c. c < length fields) split
split_below fields [] known = All-nil (λ c. c < length fields)
split_below fields (c ∷ split) known =
    All-cons (λ c. c < length fields) c split (ltb-true c (length fields) (and_first (is_number_of fields c) (list_all (is_number_of fields) split) known)) (split_below fields split (and_second (is_number_of fields c) (list_all (is_number_of fields) split) known))

-- the columns of a tree's split dimensions are there
pub split_known : (table : Table) (t : ℕ) (tree : TreeSetting) → IsValidTable table → slice_get table.settings.trees t ≡ Some tree → All (λ c. c < length table.schema.fields) tree.split
split_known table t tree valid at = split_below table.schema.fields tree.split (valid_at table.schema.fields table.settings.trees t tree valid.settings.trees_valid at).split_known

-- a tree of a table has at most 16 split dimensions and pairs
pub few_dims : (table : Table) (t : ℕ) (tree : TreeSetting) → IsValidTable table → slice_get table.settings.trees t ≡ Some tree → (tree.shape.dims ≤ 16) × (length tree.shape.kinds ≤ 16)
few_dims table t tree valid at =
    let is : IsValidTree table.schema.fields tree = valid_at table.schema.fields table.settings.trees t tree valid.settings.trees_valid at in
    (omega (arith, is.has_dims, is.few_split), few_kinds table.schema.fields tree is)

same_counts : (table : Table) (rows : ℕ) (heads : List (List ℕ)) (ds : List Distinct) (split : List ℕ) → AreSpelled table rows heads (columns_of table) ds → All (λ c. c < length table.schema.fields) split → map (count_at ds) split ≡ map (λ c. count_in (dictionary_in heads c)) split
same_counts table rows heads ds [] spelled below = refl
same_counts table rows heads ds (c ∷ split) spelled below =
    let B : ℕ → Type 0 = λ x. x < length table.schema.fields in
    let here = count_same table rows heads ds c spelled (All-head B c split below) in
    let more = same_counts table rows heads ds split spelled (All-tail B c split below) in
    (λ i. sym here i ∷ more i)

pub tree_read : (table : Table) (rows : ℕ) (bytes here counts : List ℕ) (sections : List Section) (ds : List Distinct) (t i : ℕ) (s : Section) (tree : TreeSetting) → IsValidTable table → AreSpelled table rows (heads_read table sections bytes) (columns_of table) ds
    → length table.schema.fields + 1 + length table.settings.trees ≤ length sections → t < length table.settings.trees → i ≡ length table.schema.fields + 1 + t → s ≡ get_or sections i s → here ≡ bytes_of_section bytes s
    → tree ≡ get_or table.settings.trees t tree → counts ≡ map (count_at ds) tree.split → TreeRead table (heads_read table sections bytes) t tree counts here
tree_read table rows bytes here counts sections ds t i s tree valid spelled each lt place section bytes_is setting counts_is =
    let n : ℕ = length table.schema.fields in
    let m : ℕ = length table.settings.trees in
    let at : slice_get table.settings.trees t ≡ Some tree = slice_get-get_or table.settings.trees t tree lt ∙ ap Some (sym setting) in
    record {
      at = at;
      counts_are = counts_is ∙ same_counts table rows (heads_read table sections bytes) ds tree.split spelled (split_known table t tree valid at);
      bytes_are = bytes_is ∙ sym (heads_at bytes sections (n + 1 + m) i s (omega (arith, lt, place)) (omega (arith, lt, place, each)) section) ∙ ap (λ k. get_or (heads_read table sections bytes) k []) place;
    }

pub nodes_has : (table : Table) (rows : ℕ) (heads : List (List ℕ)) (t : ℕ) (tree : TreeSetting) (counts bytes : List ℕ) → TreeRead table heads t tree counts bytes → AreNodes tree.shape counts rows bytes → HasNodes table rows heads t
nodes_has table rows heads t tree counts bytes read are =
    if_some (slice_get table.settings.trees t) tree (λ x. AreNodes x.shape (split_counts heads x) rows (nodes_in table heads t)) read.at
    (subst (AreNodes tree.shape (split_counts heads tree) rows) read.bytes_are (subst (λ c. AreNodes tree.shape c rows bytes) read.counts_are are))

pub nodes_are : (table : Table) (rows : ℕ) (heads : List (List ℕ)) (t : ℕ) (tree : TreeSetting) (counts bytes : List ℕ) → TreeRead table heads t tree counts bytes → HasNodes table rows heads t → AreNodes tree.shape counts rows bytes
nodes_are table rows heads t tree counts bytes read has =
    let there : AreNodes tree.shape (split_counts heads tree) rows (nodes_in table heads t) = subst (λ o. IfSome o (λ x. AreNodes x.shape (split_counts heads x) rows (nodes_in table heads t))) read.at has in
    subst (λ c. AreNodes tree.shape c rows bytes) (sym read.counts_are) (subst (AreNodes tree.shape (split_counts heads tree) rows) (sym read.bytes_are) there)

pub have_more : (table : Table) (rows : ℕ) (heads : List (List ℕ)) (t : ℕ) → HaveNodes table rows heads t → HasNodes table rows heads t → HaveNodes table rows heads (t + 1)
have_more table rows heads t have one = subst (All (HasNodes table rows heads)) (sym (ranges_push t)) (All-push (HasNodes table rows heads) (range_with_len 0 t) t have one)

-- a fault of nodes that is one of the file
pub bad_nodes : (reason : NodesFault) (result : HeadFault) (p : Part) → (reason ≡ reasons.NoMemory → result ≡ fault.NoMemory) → result ≡ fault.NotASegment p → reason ≡ reasons.BadNodes
bad_nodes reasons.BadNodes result p memory is = refl
bad_nodes reasons.NoMemory result p memory is = let e : result ≡ fault.NoMemory = memory refl in absurd cc
