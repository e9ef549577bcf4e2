-- The nodes of a tree of a head that is open are read.
use Rattle.std.proofs.Common.{◌≡◌, ◌∙◌, ◌<◌, ◌≤◌, ◌+◌, ℕ, zero, suc, All, List, [], ◌∷◌, ◌++◌, length, map, get_or, take, drop, Option, Some, None, IfSome, Ok, Err, IsErrOf, refl, sym, ap, subst, arith}
use Rattle.std.specs.Prelude.{option_map, slice_get}
use Rattle.std.specs.List.{AllZip}
use Rattle.std.specs.Option.{option_map_or}
use Rattle.std.proofs.lemmas.List.{take-append-drop, take_more}
use Rattle.std.proofs.lemmas.List.Elements.{All-head, All-tail}
use Rattle.std.proofs.lemmas.Option.{slice_get-get_or, slice_get-map}
use Rattle.data_types.specs.declared.kind.FieldKind.TheVariants.{Long}
use Rattle.outside.specs.Files.{Files, bytes_at, bytes_of}
use Rattle.outside.specs.Reads.{Entry}
use Rattle.outside.specs.Seen as shelf
use Rattle.outside.specs.Seen.{OnlyReads}
use Rattle.outside.proofs.SeenLemmas.{reads_after, reads_so}
use Rattle.value_ids.specs.Dictionary.{Distinct}
use Rattle.agg_laws.specs.declared.tree_shape.TreeShape.{TreeShape}
use Rattle.table_schema.specs.declared.settings.TreeSetting.{TreeSetting}
use Rattle.table_schema.specs.declared.table.Table.{Table}
use Rattle.table_schema.specs.ValidTable.{IsValidTable}
use Rattle.segment_file.specs.declared.fault.HeadFault.{HeadFault}
use Rattle.segment_file.specs.declared.fault.HeadFault.TheVariants as fault
use Rattle.segment_file.specs.declared.section.Section.{Section}
use Rattle.segment_file.specs.declared.trees.TreeNodes.{TreeNodes}
use Rattle.segment_file.specs.Front.{Front}
use Rattle.segment_head.specs.Heads.{AreKept, HasCount, HaveCounts, IsHead, IsHeadOf, IsPartOf, LogsCount, LogsCounts, OfWhole, Seen, dictionary_section, nodes_section, split_of}
use Rattle.segment_file.specs.Reading.{nodes_said, trees_said}
use Rattle.segment_file.specs.Parts.{sections_of}
use Rattle.segment_file.specs.Rules.{AreNodes, HasNodes, count_in, dictionary_in, heads_in, nodes_in, split_counts}
use Rattle.segment_file.proofs.Tails.{count_same, spelled_length, counted_at}
use Rattle.segment_head.proofs.Composed.{made_count}
use Rattle.segment_file.proofs.Counts.{all_at, head_count}
use Rattle.segment_head.proofs.Steps.{none_read, section_there}
use Rattle.segment_file.proofs.TreeChecks.{said_at, said_count}
use Rattle.segment_head.proofs.TreeChecks.{split_known}

-- ---- the section of a tree's nodes

pub nodes_slot : (table : Table) (head : Seen) (t : ℕ) → IsHeadOf table head → t < length table.settings.trees → length table.schema.fields + 1 + t < length head.sections
nodes_slot table head t of lt = omega (arith, lt, made_count table of.name of.file of.front (sections_of table) head.sections refl of.each of.has.sections_are)

-- ---- how many values the split dimensions have

count_has : (table : Table) (name file bytes : List ℕ) (whole : Seen) (column n : ℕ) → column < length table.schema.fields → (full : IsHead table name file bytes whole) → HasCount column n whole → n ≡ count_in (dictionary_in (heads_in table name full.front bytes) column)
count_has table name file bytes whole column n field full has =
    let nothing : Distinct = record { kind = Long; values = [] } in
    let ds : List Distinct = full.dictionaries in
    let heads : List (List ℕ) = heads_in table name full.front bytes in
    let spelled = full.keeps.heads.spelled in
    let many : column < length ds = omega (arith, field, spelled_length table full.front.rows heads ds spelled) in
    let d : Distinct = get_or ds column nothing in
    let there : Some (Some d) ≡ Some (Some has.d) =
    sym (ap (λ xs. slice_get xs column) full.dictionaries_are ∙ slice_get-map Some ds column ∙ ap (option_map Some) (slice_get-get_or ds column nothing many)) ∙ has.at in
    let same : has.d ≡ d = cc in
    has.many ∙ ap (λ x. length x.values) same ∙ sym (counted_at ds column d many (any_one ds column nothing many)) ∙ sym (count_same table full.front.rows heads ds column spelled field)
  where
    any_one : (xs : List Distinct) (i : ℕ) (e : Distinct) → i < length xs → get_or xs i e ≡ get_or xs i (get_or xs i e)
    any_one [] i e lt = absurd (omega (arith, lt))
    any_one (x ∷ xs) zero e lt = refl
    any_one (x ∷ xs) (suc i) e lt = any_one xs i e (omega (arith, lt))

counts_have : (table : Table) (name file bytes : List ℕ) (whole : Seen) (split counts : List ℕ) → All (λ c. c < length table.schema.fields) split → (full : IsHead table name file bytes whole) → HaveCounts split counts whole
    → counts ≡ map (λ c. count_in (dictionary_in (heads_in table name full.front bytes) c)) split
counts_have table name file bytes whole [] [] below full have = refl
counts_have table name file bytes whole [] (n ∷ counts) below full have = absurd have
counts_have table name file bytes whole (c ∷ split) [] below full have = absurd have
counts_have table name file bytes whole (c ∷ split) (n ∷ counts) below full have =
    let B : ℕ → Type 0 = λ x. x < length table.schema.fields in
    let here = count_has table name file bytes whole c n (All-head B c split below) full have.0 in
    let more = counts_have table name file bytes whole split counts (All-tail B c split below) full have.1 in
    (λ i. here i ∷ more i)

-- ---- the nodes in a file of which all rules hold

record NodesThere (table : Table) (t : ℕ) (tree : TreeSetting) (counts : List ℕ) (rows : ℕ) (file bytes : List ℕ) (whole : Seen) (s : Section) : Type 0 where
  file_is : s.place.file ≡ file
  within : s.place.offset + s.place.length ≤ length bytes
  at : slice_get whole.trees t ≡ Some (Some (nodes_said (take s.place.length (drop s.place.offset bytes))))
  are : AreNodes tree.shape counts rows (take s.place.length (drop s.place.offset bytes))

module _ (table : Table) (head : Seen) (t : ℕ) (s : Section) (tree : TreeSetting) (valid : IsValidTable table) (lt : t < length table.settings.trees) (at : nodes_section table head t ≡ Some s) (setting : slice_get table.settings.trees t ≡ Some tree) where
  nodes_there : (name file bytes : List ℕ) (whole : Seen) (counts : List ℕ) → IsHead table name file bytes whole → IsPartOf whole head → HaveCounts tree.split counts whole → NodesThere table t tree counts head.rows file bytes whole s
  nodes_there name file bytes whole counts full part have =
      let front : Front = full.front in
      let heads : List (List ℕ) = heads_in table name front bytes in
      let there = section_there table name file bytes whole head (length table.schema.fields + 1 + t) s (omega (arith, lt, head_count table)) at full part in
      let said : List TreeNodes = trees_said table heads in
      let none : TreeNodes = nodes_said [] in
      let many : t < length said = omega (arith, lt, said_count table heads) in
      let has : HasNodes table front.rows heads t = all_at (HasNodes table front.rows heads) (length table.settings.trees) t full.keeps.trees lt in
      let are : AreNodes tree.shape (split_counts heads tree) front.rows (nodes_in table heads t) = subst (λ o. IfSome o (λ x. AreNodes x.shape (split_counts heads x) front.rows (nodes_in table heads t))) setting has in
      let number : counts ≡ split_counts heads tree = counts_have table name file bytes whole tree.split counts (split_known table t tree valid setting) full have in
      let rows_are : front.rows ≡ head.rows = sym full.rows_are ∙ sym part.rows_same in
      record {
        file_is = there.file_is;
        within = there.within;
        at = ap (λ xs. slice_get xs t) full.trees_are ∙ slice_get-map Some said t ∙ ap (option_map Some) (slice_get-get_or said t none many) ∙ ap (λ x. Some (Some x)) (said_at table heads t none lt ∙ ap nodes_said there.here);
        are = subst (AreNodes tree.shape counts head.rows) there.here (subst (λ r. AreNodes tree.shape counts r (nodes_in table heads t)) rows_are (subst (λ c. AreNodes tree.shape c front.rows (nodes_in table heads t)) (sym number) are));
      }

  read_there : (files : Files) (file bytes : List ℕ) → s.place.file ≡ file → bytes ≡ bytes_at files s.place.file s.place.offset s.place.length → bytes ≡ take s.place.length (drop s.place.offset (bytes_of (Some files) file))
  read_there files file bytes file_is read = read ∙ ap (λ f. bytes_at files f s.place.offset s.place.length) file_is

  -- the bytes of the section are the nodes of the whole head
  pub nodes_whole : (held : Option Files) (bytes counts : List ℕ) (nodes : TreeNodes) → IfSome held (λ files. bytes ≡ bytes_at files s.place.file s.place.offset s.place.length) → OfWhole table held head (HaveCounts tree.split counts) → nodes ≡ nodes_said bytes
      → OfWhole table held head (λ whole. slice_get whole.trees t ≡ Some (Some nodes))
  nodes_whole None bytes counts nodes read have said = tt
  nodes_whole (Some files) bytes counts nodes read have said = λ name file whole full part.
      let there = nodes_there name file (bytes_of (Some files) file) whole counts full part (have name file whole full part) in
      there.at ∙ ap (λ x. Some (Some x)) (ap nodes_said (sym (read_there files file bytes there.file_is read)) ∙ sym said)

  -- they are none, so there is no whole head
  pub nodes_none : (held : Option Files) (bytes counts : List ℕ) → IfSome held (λ files. bytes ≡ bytes_at files s.place.file s.place.offset s.place.length) → OfWhole table held head (HaveCounts tree.split counts) → ¬ AreNodes tree.shape counts head.rows bytes
      → OfWhole table held head (λ whole. ⊥)
  nodes_none None bytes counts read have none = tt
  nodes_none (Some files) bytes counts read have none = λ name file whole full part.
      let there = nodes_there name file (bytes_of (Some files) file) whole counts full part (have name file whole full part) in
      none (subst (AreNodes tree.shape counts head.rows) (sym (read_there files file bytes there.file_is read)) there.are)

-- the file ends before, so there is no whole head
pub nodes_cut : (table : Table) (head : Seen) (t : ℕ) (s : Section) → t < length table.settings.trees → nodes_section table head t ≡ Some s → (held : Option Files) → IfSome held (λ files. length (bytes_of (Some files) s.place.file) < s.place.offset + s.place.length) → OfWhole table held head (λ whole. ⊥)
nodes_cut table head t s lt at None short = tt
nodes_cut table head t s lt at (Some files) short = λ name file whole full part.
    let there = section_there table name file (bytes_of (Some files) file) whole head (length table.schema.fields + 1 + t) s (omega (arith, lt, head_count table)) at full part in
    omega (arith, short, there.within, ap (λ f. length (bytes_of (Some files) f)) there.file_is)

pub nodes_as : (shape : TreeShape) (c c2 : List ℕ) (r r2 : ℕ) (b b2 : List ℕ) → c ≡ c2 → r ≡ r2 → b ≡ b2 → AreNodes shape c r b → AreNodes shape c2 r2 b2
nodes_as shape c c2 r r2 b b2 ec er eb are = subst (AreNodes shape c2 r2) eb (subst (λ x. AreNodes shape c2 x b) er (subst (λ x. AreNodes shape x r b) ec are))

-- nodes that were looked at keep all rules for the counts by which they were
pub kept_so : (shape : TreeShape) (own counts bytes : List ℕ) (rows : ℕ) (tree : TreeNodes) → own ≡ counts → tree ≡ nodes_said bytes → AreNodes shape own rows bytes → length own ≡ shape.dims → AreKept shape counts tree
kept_so shape own counts bytes rows tree same said are each =
    subst (λ c. AreKept shape c tree) same (subst (AreKept shape own) (sym said) (record { each = each; keep = are.keep.keeps }))

-- ---- one more count

-- what holds of the split dimensions of a tree holds of the list that is looked at
pub split_is : (table : Table) (t : ℕ) (tree : TreeSetting) → slice_get table.settings.trees t ≡ Some tree → split_of table t ≡ tree.split
split_is table t tree at = ap (λ o. option_map_or (λ x. x.split) o []) at

zip_more : {A B : Type 0} (R : A → B → Type 0) (xs : List A) (ys : List B) (x : A) (y : B) → AllZip R xs ys → R x y → AllZip R (xs ++ x ∷ []) (ys ++ y ∷ [])
zip_more R [] [] x y all one = (one, tt)
zip_more R [] (b ∷ ys) x y all one = absurd all
zip_more R (a ∷ xs) [] x y all one = absurd all
zip_more R (a ∷ xs) (b ∷ ys) x y all one = (all.0, zip_more R xs ys x y all.1 one)

pub counts_push : (table : Table) (head : Seen) (held : Option Files) (columns counts new : List ℕ) (i c n : ℕ) → i < length columns → c ≡ get_or columns i 0 → new ≡ counts ++ n ∷ [] → OfWhole table held head (HaveCounts (take i columns) counts) → OfWhole table held head (HasCount c n)
    → OfWhole table held head (HaveCounts (take (i + 1) columns) new)
counts_push table head None columns counts new i c n lt at is have one = tt
counts_push table head (Some files) columns counts new i c n lt at is have one = λ name file whole full part.
    let more : take (i + 1) columns ≡ take i columns ++ c ∷ [] = take_more columns i 0 lt ∙ ap (λ x. take i columns ++ x ∷ []) (sym at) in
    subst (λ xs. HaveCounts xs new whole) (sym more) (subst (λ ys. HaveCounts (take i columns ++ c ∷ []) ys whole) (sym is) (zip_more (λ column count. HasCount column count whole) (take i columns) counts c n (have name file whole full part) (one name file whole full part)))

-- ---- what is read

logs_more : (head : Seen) (columns : List ℕ) (c : ℕ) (old between new : Option (List Entry)) → LogsCounts head columns old between → LogsCount head c between new → LogsCounts head (columns ++ c ∷ []) old new
logs_more head [] c old between new logs one = (new, subst (λ l. LogsCount head c l new) logs one, refl)
logs_more head (x ∷ columns) c old between new logs one = (logs.0, logs.1, logs_more head columns c logs.0 between new logs.2 one)

pub logs_none : (head : Seen) (columns : List ℕ) (log : Option (List Entry)) → LogsCounts head columns log log
logs_none head [] log = refl
logs_none head (x ∷ columns) log = (log, record { unchanged = λ loaded. refl; first = none_read (dictionary_section head x) (λ s. 4) log }, logs_none head columns log)

logs_rest : (head : Seen) (columns more : List ℕ) (old new : Option (List Entry)) → LogsCounts head columns old new → LogsCounts head (columns ++ more) old new
logs_rest head [] more old new logs = subst (λ l. LogsCounts head more old l) (sym logs) (logs_none head more old)
logs_rest head (x ∷ columns) more old new logs = (logs.0, logs.1, logs_rest head columns more logs.0 new logs.2)

-- one more column is looked at
pub logs_push : (head : Seen) (columns : List ℕ) (i c : ℕ) (old between new : Option (List Entry)) → i < length columns → c ≡ get_or columns i 0 → LogsCounts head (take i columns) old between → LogsCount head c between new → LogsCounts head (take (i + 1) columns) old new
logs_push head columns i c old between new lt at logs one =
    let more : take (i + 1) columns ≡ take i columns ++ c ∷ [] = take_more columns i 0 lt ∙ ap (λ x. take i columns ++ x ∷ []) (sym at) in
    subst (λ xs. LogsCounts head xs old new) (sym more) (logs_more head (take i columns) c old between new logs one)

-- the others are not looked at
pub logs_stop : (head : Seen) (columns : List ℕ) (n : ℕ) (old new : Option (List Entry)) → LogsCounts head (take n columns) old new → LogsCounts head columns old new
logs_stop head columns n old new logs = subst (λ xs. LogsCounts head xs old new) (take-append-drop n columns) (logs_rest head (take n columns) (drop n columns) old new logs)

-- ---- faults

pub err_same : {T : Type 0} (a b : HeadFault) → IsErrOf {T = T} {E = HeadFault} (Err a) b → a ≡ b
err_same a b e = cc

-- a fault that is handed on
pub reads_err : {T U : Type 0} (a : HeadFault) (old between new : shelf.Seen) → OnlyReads ⊥ old between → OnlyReads (IsErrOf {T = T} {E = HeadFault} (Err a) fault.ReadFault) between new → OnlyReads (IsErrOf {T = U} {E = HeadFault} (Err a) fault.ReadFault) old new
reads_err {T} {U} a old between new before after =
    reads_after (IsErrOf {T = U} {E = HeadFault} (Err a) fault.ReadFault) old between new before
    (reads_so (IsErrOf {T = T} {E = HeadFault} (Err a) fault.ReadFault) (IsErrOf {T = U} {E = HeadFault} (Err a) fault.ReadFault) between new (λ e. ap Err (err_same {T = U} a fault.ReadFault e)) (λ e. ap Err (err_same {T = T} a fault.ReadFault e)) after)

-- none
pub reads_ok : {T : Type 0} (x : T) (old between new : shelf.Seen) → OnlyReads ⊥ old between → OnlyReads (IsErrOf {T = T} {E = HeadFault} (Ok x) fault.ReadFault) between new → OnlyReads ⊥ old new
reads_ok {T} x old between new before after = reads_after ⊥ old between new before (reads_so (IsErrOf {T = T} {E = HeadFault} (Ok x) fault.ReadFault) ⊥ between new (λ e. absurd e) (λ e. absurd cc) after)
