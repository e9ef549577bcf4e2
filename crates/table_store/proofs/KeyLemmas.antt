-- The names of the segments of a standing store.
use Rattle.std.proofs.Common.{◌≡◌, ◌∙◌, ℕ, Bool, true, false, T, ◌&&◌, List, [], ◌∷◌, map, Option, Some, None, refl, sym, ap, subst}
use Rattle.std.specs.Prelude.{is_some, option_map, unwrap_or}
use Rattle.std.proofs.lemmas.Bool.{false≢true}
use Rattle.std.specs.FinMap as tree
use Rattle.std.specs.FinMap.Entries.{below_all, is_some-find, is_sorted, same_entries}
use Rattle.std.specs.List.{AllByRecursion, list_any}
use Rattle.std.specs.List.Sorted.{IsStrictlySortedBy}
use Rattle.std.specs.Ordering.{eq_by_cmp, is_lt}
use Rattle.std.specs.declared.cmp.Ordering.{Ordering}
use Rattle.std.specs.declared.cmp.Ordering.TheVariants as order
use Rattle.outside.specs.Files.{Files, bytes_of, name_order}
use Rattle.std.proofs.lemmas.Cmp.{nat_list_cmp_total}
use Rattle.table_schema.specs.declared.table.Table.{Table}
use Rattle.table_schema.specs.ValidTable.{IsValidTable}
use Rattle.segment_file.specs.Image.{dictionary_of, file_of_rows, front_of, image}
use Rattle.segment_file.specs.Ordered.{ordered}
use Rattle.segment_file.specs.Parts.{columns_of}
use Rattle.segment_file.specs.Rules.{HasFront, KeepsRules}
use Rattle.segment_file.proofs.ImageKeeps.{image_keeps}
use Rattle.segment_file.specs.Names.{IsSegmentName, file_of, is_segment_name}
use Rattle.table_store.specs.State.{Segment, Segments, HasTable, Texts}
use Rattle.table_store.specs.Segments.{AreNames, has_segment}
use Rattle.table_store.specs.Stands.{IsSegment, NamesStand, Stands, segment_file}
use Rattle.table_store.specs.Accepted.{IsAccepted}
use Rattle.table_store.proofs.AcceptedLemmas.{accepted_valid, one_table}
use Rattle.table_store.proofs.FilesLemmas.{same_name}
use Rattle.table_store.proofs.KeptLemmas.{live_name}
use Rattle.table_store.proofs.SegmentLemmas.{file_kept}

abbrev same : List ℕ → List ℕ → Bool
same = eq_by_cmp name_order

-- ---- ascending names are told by which there are

abbrev marked : List (List ℕ) → List (List ℕ × Unit {0})
marked names = map (λ n. (n, tt)) names

less_is : (r : Ordering) → r ≡ order.Less → T (is_lt r)
less_is r e = subst (λ o. T (is_lt o)) (sym e) tt

is_less : (r : Ordering) → T (is_lt r) → r ≡ order.Less
is_less order.Less h = refl
is_less order.Equal h = absurd h
is_less order.Greater h = absurd h

both : (a b : Bool) → T a → T b → T (a && b)
both true b h k = k
both false b h k = absurd h

parts : (a b : Bool) → T (a && b) → T a × T b
parts true b h = (tt, h)
parts false b h = absurd h

below_marked : (name : List ℕ) (names : List (List ℕ)) → AllByRecursion (λ y. name_order name y ≡ order.Less) names → T (below_all name_order name (marked names))
below_marked name [] all = tt
below_marked name (n ∷ ns) all = both (is_lt (name_order name n)) (below_all name_order name (marked ns)) (less_is (name_order name n) all.0) (below_marked name ns all.1)

sorted_marked : (names : List (List ℕ)) → IsStrictlySortedBy name_order names → T (is_sorted name_order (marked names))
unfolding IsStrictlySortedBy
sorted_marked [] h = tt
sorted_marked (n ∷ ns) h = both (below_all name_order n (marked ns)) (is_sorted name_order (marked ns)) (below_marked n ns h.0) (sorted_marked ns h.1)

marked_back : (names : List (List ℕ)) → map (λ e. e.0) (marked names) ≡ names
marked_back [] = refl
marked_back (n ∷ ns) = ap (λ rest. n ∷ rest) (marked_back ns)

one_mark : (a b : Option (Unit {0})) → is_some a ≡ is_some b → a ≡ b
one_mark None None e = refl
one_mark None (Some y) e = absurd cc
one_mark (Some x) None e = absurd cc
one_mark (Some x) (Some y) e = refl

found : (q : List ℕ) (names : List (List ℕ)) → is_some (tree.find name_order q (marked names)) ≡ list_any (same q) names
found q names = is_some-find name_order q (marked names) ∙ ap (list_any (same q)) (marked_back names)

pub same_names : (a b : List (List ℕ)) → IsStrictlySortedBy name_order a → IsStrictlySortedBy name_order b → ((q : List ℕ) → list_any (same q) a ≡ list_any (same q) b) → a ≡ b
same_names a b up_a up_b alike =
    let marks : marked a ≡ marked b = same_entries name_order nat_list_cmp_total same_name (marked a) (marked b) (sorted_marked a up_a) (sorted_marked b up_b)
    (λ q. one_mark (tree.find name_order q (marked a)) (tree.find name_order q (marked b)) (found q a ∙ alike q ∙ sym (found q b))) in
    sym (marked_back a) ∙ ap (map (λ e. e.0)) marks ∙ marked_back b

-- ---- the keys of a map ascend

below_keys : {X : Type 0} (name : List ℕ) (es : List (List ℕ × X)) → T (below_all name_order name es) → AllByRecursion (λ y. name_order name y ≡ order.Less) (map (λ e. e.0) es)
below_keys name [] h = tt
below_keys name (e ∷ es) h =
    let two = parts (is_lt (name_order name e.0)) (below_all name_order name es) h in
    (is_less (name_order name e.0) two.0, below_keys name es two.1)

keys_ascend : {X : Type 0} (es : List (List ℕ × X)) → T (is_sorted name_order es) → IsStrictlySortedBy name_order (map (λ e. e.0) es)
unfolding IsStrictlySortedBy
keys_ascend [] h = tt
keys_ascend (e ∷ es) h =
    let two = parts (below_all name_order e.0 es) (is_sorted name_order es) h in
    (below_keys e.0 es two.0, keys_ascend es two.1)

-- ---- the segments of a standing store

-- the file of a segment of a standing store
pub segment_there : (files : Files) (texts : Texts) (segments : Segments) (stands : Stands files (HasTable texts segments)) (name : List ℕ)
    → tree.get files (file_of name) ≡ option_map (segment_file stands.table name) (tree.get segments name)
segment_there files texts segments stands name = stands.stored (file_of name) (live_name name) ∙ file_kept stands.table texts segments name

named_there : (name : List ℕ) (o : Option Segment) (file : Segment → List ℕ) → ((segment : Segment) → o ≡ Some segment → IsSegmentName name) → (is_segment_name name && is_some (option_map file o)) ≡ is_some o
named_there name None file named = elim (is_segment_name name) as (λ b. (b && false) ≡ false) [ true ↦ refl | false ↦ refl ]
named_there name (Some segment) file named =
    let n = named segment refl in
    (λ i. (n.some i && n.at_most i && n.each i) && true)

-- the keys of a state are the names of the segments that have files
pub keys_stand : (files : Files) (texts : Texts) (segments : Segments) → Stands files (HasTable texts segments) → AreNames files (tree.keys segments)
keys_stand files texts segments stands = record {
  ascend = keys_ascend (tree.entries segments) (tree.entries_sorted segments);
  those = λ q.
      sym
      (ap (λ o. is_segment_name q && is_some o) (segment_there files texts segments stands q)
      ∙ named_there q (tree.get segments q) (segment_file stands.table q) (stands.valid.named q)
      ∙ tree.contains_key-keys segments q);
}

pub names_stand : NamesStand
names_stand files texts segments names stands are =
    let keys = keys_stand files texts segments stands in
    same_names names (tree.keys segments) are.ascend keys.ascend (λ q. are.those q ∙ sym (keys.those q))

-- ---- the file of a segment of a standing store keeps all rules of a head

bytes_there : (files : Files) (name bytes : List ℕ) → tree.get files name ≡ Some bytes → bytes_of (Some files) name ≡ bytes
bytes_there files name bytes got = ap (λ o. unwrap_or o []) got

-- what a head of the segment of this name says
pub record IsKept (files : Files) (segments : Segments) (read : Table) (name : List ℕ) : Type 0 where
  pub segment : Segment
  pub got : tree.get segments name ≡ Some segment
  pub keeps : KeepsRules read name (bytes_of (Some files) (file_of name))
  pub front_is : HasFront read name (bytes_of (Some files) (file_of name)) (front_of 1 read segment.rows)

one_kept : (files : Files) (segments : Segments) (read : Table) (name : List ℕ) (o : Option Segment) → IsValidTable read → ((segment : Segment) → o ≡ Some segment → IsSegmentName name × IsSegment read segment)
    → tree.get segments name ≡ o → tree.get files (file_of name) ≡ option_map (segment_file read name) o → is_some (tree.get files (file_of name)) ≡ true → IsKept files segments read name
one_kept files segments read name None valid is got file there = absurd (false≢true (sym (ap is_some file) ∙ there))
one_kept files segments read name (Some segment) valid is got file there =
    let (named, of) = is segment refl in
    let format : segment.format ≡ 1 = of.format_is in
    let rows : segment.rows ≡ ordered read.settings.sorted of.came = of.in_order in
    let bytes : bytes_of (Some files) (file_of name) ≡ image 1 read name of.came =
    bytes_there files (file_of name) (segment_file read name segment) file ∙ (λ i. file_of_rows (format i) read name (rows i)) in
    let kept = image_keeps read name of.came valid named of.can in
    record {
      segment = segment;
      got = got;
      keeps = subst (KeepsRules read name) (sym bytes) (front_of 1 read (ordered read.settings.sorted of.came), map (dictionary_of read (ordered read.settings.sorted of.came)) (columns_of read), kept);
      front_is = subst (λ b. HasFront read name b (front_of 1 read segment.rows)) (sym bytes) (subst (λ rs. HasFront read name (image 1 read name of.came) (front_of 1 read rs)) (sym rows) kept.front_is);
    }

second : (a b : Bool) → (a && b) ≡ true → b ≡ true
second true b e = e
second false b e = absurd (false≢true e)

pub segment_kept_so : (files : Files) (texts : Texts) (segments : Segments) (read : Table) (name : List ℕ) (stands : Stands files (HasTable texts segments)) → IsAccepted texts read → has_segment files name ≡ true
    → IsKept files segments read name
segment_kept_so files texts segments read name stands accepted there =
    let tables : stands.table ≡ read = one_table texts stands.table read stands.valid.accepted accepted in
    let each = subst (λ t. (q : List ℕ) (segment : Segment) → tree.get segments q ≡ Some segment → IsSegment t segment) tables stands.valid.each in
    one_kept files segments read name (tree.get segments name) (accepted_valid texts read accepted) (λ segment got. (stands.valid.named name segment got, each name segment got)) refl
    (segment_there files texts segments stands name ∙ ap (λ t. option_map (segment_file t name) (tree.get segments name)) tables)
    (second (is_segment_name name) (is_some (tree.get files (file_of name))) there)
