-- A cursor over the lists that are live, whose files are those of the segments of the store.
use Rattle.std.proofs.Common.{◌≡◌, ◌≢◌, ◌∙◌, ◌+◌, ◌-◌, ◌<◌, ◌≤◌, ◌&&◌, ◌||◌, ℕ, zero, suc, Bool, true, false, T, cond, nat_eq, List, [], ◌∷◌, ◌++◌, drop, length, map, take, Option, Some, None, IfSome, Result, Ok, Err, refl, sym, ap, subst, arith, is_some, option_map}
use Rattle.std.specs.FinMap as finite
use Rattle.std.specs.FinMap.{find}
use Rattle.std.specs.FinMap.Entries.{below_all, is_sorted, same_entries}
use Rattle.std.specs.List.{AllByRecursion, IsDistinct, list_any}
use Rattle.std.specs.Cmp.{eq_by_cmp_equiv}
use Rattle.std.specs.Ordering.{eq_by_cmp, is_lt}
use Rattle.std.proofs.lemmas.Bool.{false≢true}
use Rattle.std.proofs.lemmas.Cmp.{nat_list_cmp_total}
use Rattle.std.proofs.lemmas.List.{length-map, take_all}
use Rattle.std.proofs.lemmas.Map.Made.{length-from_same_keys}
use Rattle.outside.specs.Files.{Files, name_order}
use Rattle.values.specs.declared.value.Value.{Value}
use Rattle.table_schema.specs.declared.query.BoundQuery.{BoundQuery}
use Rattle.table_schema.specs.declared.table.Table.{Table}
use Rattle.segment_file.specs.Image.{file_of_rows}
use Rattle.segment_file.specs.Names.{file_of}
use Rattle.table_store.specs.Segments.{AreFirstNames}
use Rattle.table_store.specs.Stands.{IsSegment, segment_file}
use Rattle.table_store.specs.State.{Segment, Segments, Texts}
use Rattle.table_store.proofs.AcceptedLemmas.{one_table}
use Rattle.table_store.proofs.KeyLemmas.{names_stand, segment_there}
use Rattle.table_store.proofs.FilesLemmas.{same_name as one_name}
use Rattle.table_store.proofs.NameLemmas.{entries_apart}
use Rattle.cursor_serve.specs.Machine.{Cursor as Kept, Listed, Live, Machine, Version, lists_of}
use Rattle.cursor_serve.specs.ServingStands.{BothKept, HasFile, HasList, IsListOf, OpenCursor, ServingStands, is_live_by, kept_files, kept_under, first_of, segment_of, segments_of, stands_as}
use Rattle.cursor_serve.proofs.SoundLemmas.{all_found, all_mapped, all_so, same_number}
use Rattle.serving.proofs.StandLemmas.{files_in, names_in}

-- ---- the segments of live lists

find_by : (b : Bool) (f : Version → Segment) (v : Version) (o : Option Version) (p : Option Segment) → p ≡ option_map f o → cond b (Some (f v)) p ≡ option_map f (cond b (Some v) o)
find_by true f v o p is = refl
find_by false f v o p is = is

find_mapped : (f : Version → Segment) (es : List (List ℕ × Version)) (q : List ℕ) → find name_order q (map (λ e. (e.0, f e.1)) es) ≡ option_map f (find name_order q es)
find_mapped f [] q = refl
find_mapped f (e ∷ es) q = find_by (eq_by_cmp name_order q e.0) f e.1 (find name_order q es) (find name_order q (map (λ e. (e.0, f e.1)) es)) (find_mapped f es q)

pub segments_got : (lists : Live) (q : List ℕ) → finite.get (segments_of lists) q ≡ option_map segment_of (finite.get lists q)
segments_got lists q =
    finite.get-from_entries nat_list_cmp_total (map (λ e. (e.0, segment_of e.1)) (finite.entries lists)) q
    ∙ find_mapped segment_of (finite.entries lists) q ∙ ap (option_map segment_of) (sym (finite.get-entries lists q))

below_mapped : (f : Version → Segment) (k : List ℕ) (es : List (List ℕ × Version)) → below_all name_order k (map (λ e. (e.0, f e.1)) es) ≡ below_all name_order k es
below_mapped f k [] = refl
below_mapped f k (e ∷ es) = ap (λ b. is_lt (name_order k e.0) && b) (below_mapped f k es)

sorted_mapped : (f : Version → Segment) (es : List (List ℕ × Version)) → is_sorted name_order (map (λ e. (e.0, f e.1)) es) ≡ is_sorted name_order es
sorted_mapped f [] = refl
sorted_mapped f (e ∷ es) = λ i. below_mapped f e.0 es i && sorted_mapped f es i

keys_mapped : (f : Version → Segment) (es : List (List ℕ × Version)) → map (λ (e : List ℕ × Segment). e.0) (map (λ (e : List ℕ × Version). (e.0, f e.1)) es) ≡ map (λ (e : List ℕ × Version). e.0) es
keys_mapped f [] = refl
keys_mapped f (e ∷ es) = ap (λ l. e.0 ∷ l) (keys_mapped f es)

names_listed : (es : List (List ℕ × Version)) → names_in (map (λ (e : List ℕ × Version). record { name = e.0; version = e.1 }) es) ≡ map (λ (e : List ℕ × Version). e.0) es
names_listed [] = refl
names_listed (e ∷ es) = ap (λ l. e.0 ∷ l) (names_listed es)

-- the names of the segments are those of the live lists
pub keys_live : (lists : Live) → finite.keys (segments_of lists) ≡ names_in (lists_of lists)
keys_live lists =
    let own : List (List ℕ × Segment) = map (λ e. (e.0, segment_of e.1)) (finite.entries lists) in
    let entries : finite.entries (segments_of lists) ≡ own =
    same_entries name_order nat_list_cmp_total one_name (finite.entries (segments_of lists)) own (finite.entries_sorted (segments_of lists)) (subst T (sym (sorted_mapped segment_of (finite.entries lists))) (finite.entries_sorted lists))
    (λ q. sym (finite.get-entries (segments_of lists) q) ∙ finite.get-from_entries nat_list_cmp_total own q) in
    ap (map (λ (e : List ℕ × Segment). e.0)) entries ∙ keys_mapped segment_of (finite.entries lists) ∙ sym (names_listed (finite.entries lists))

module _ (serving : List OpenCursor) (files : Files) (texts : Texts) (table : Table) (m : Machine) (stands : ServingStands serving files texts table m) where
  -- the names that are told are those of the live lists
  pub names_live : (names : List (List ℕ)) → AreFirstNames files names → names ≡ names_in (lists_of m.live)
  names_live names (all, are, first) =
      let keys : all ≡ finite.keys (segments_of m.live) = names_stand files texts (segments_of m.live) all stands.live are in
      let count : length (finite.keys (segments_of m.live)) ≡ finite.len (segments_of m.live) = length-map (finite.entries (segments_of m.live)) (λ e. e.0) ∙ sym (finite.len-entries (segments_of m.live)) in
      first ∙ ap (take 512) keys ∙ take_all 512 (finite.keys (segments_of m.live)) (omega (arith, count, stands.live.valid.at_most)) ∙ keys_live m.live

  tables : stands.live.table ≡ table
  tables = one_table texts stands.live.table table stands.live.valid.accepted stands.accepted

  -- a live list stands as the segment of its name
  live_as : (q : List ℕ) (v : Version) → finite.get m.live q ≡ Some v → stands_as m (record { name = q; version = v }) ≡ Some (file_of q)
  live_as q v got = ap (λ b. cond b (Some (file_of q)) (first_of (kept_files v.number m.kept))) (ap (is_live_by v.number) got ∙ same_number v.number)

  live_list : (q : List ℕ) (v : Version) → finite.get m.live q ≡ Some v → IsListOf table files m (record { name = q; version = v })
  live_list q v got =
      let there : finite.get (segments_of m.live) q ≡ Some (segment_of v) = segments_got m.live q ∙ ap (option_map segment_of) got in
      let file : finite.get files (file_of q) ≡ Some (file_of_rows 1 table q v.rows) =
      segment_there files texts (segments_of m.live) stands.live q ∙ (λ i. option_map (segment_file (tables i) q) (there i)) in
      record {
        segment = subst (λ t. IsSegment t (segment_of v)) tables (stands.live.valid.each q (segment_of v) there);
        image = subst (HasList table files (record { name = q; version = v })) (sym (live_as q v got)) file;
      }

  of_live : (P : Listed → Type 0) → ((q : List ℕ) (v : Version) → finite.get m.live q ≡ Some v → P (record { name = q; version = v })) → AllByRecursion P (lists_of m.live)
  of_live P f =
      all_mapped (λ entry. record { name = entry.0; version = entry.1 }) P (finite.entries m.live)
      (all_found (λ (e : List ℕ × Version). P (record { name = e.0; version = e.1 })) (finite.entries m.live) (finite.entries_sorted m.live)
      (λ q x found. f q x (finite.get-entries m.live q ∙ found)))

  pub live_listed : AllByRecursion (IsListOf table files m) (lists_of m.live)
  live_listed = of_live (IsListOf table files m) live_list

  pub live_filed : AllByRecursion (HasFile m) (lists_of m.live)
  live_filed = of_live (HasFile m) (λ q v got. (file_of q, live_as q v got))

  files_as : (lists : List Listed) → AllByRecursion (λ listed. stands_as m listed ≡ Some (file_of listed.name)) lists → map (λ name. Some (file_of name)) (names_in lists) ≡ files_in m lists
  files_as [] all = refl
  files_as (listed ∷ lists) all = λ i. sym all.0 i ∷ files_as lists all.1 i

  pub files_live : map (λ name. Some (file_of name)) (names_in (lists_of m.live)) ≡ files_in m (lists_of m.live)
  files_live = files_as (lists_of m.live) (of_live (λ listed. stands_as m listed ≡ Some (file_of listed.name)) live_as)
