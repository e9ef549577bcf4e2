-- What a scan reads of a column where no conjunct is indexed: its whole forward section.
use Rattle.std.proofs.Common.{◌≡◌, ◌∙◌, ◌≤◌, ◌<◌, ◌+◌, ◌*◌, ◌&&◌, ◌||◌, ◌==◌, ◌++◌, ◌∷◌, [], ℕ, zero, suc, Bool, true, false, cond, nat_lt, Option, Some, None, IfSome, All, List, length, map, drop, get_or, slice_get, refl, sym, ap, subst, inl, inr, arith, append_assoc, append-nil}
use Rattle.std.specs.Prelude.{if◌then◌else◌, option_map}
use Rattle.std.specs.Option.{IsSome, option_map_or}
use Rattle.std.specs.List.{AllByRecursion, AllZip, find, list_any}
use Rattle.std.proofs.lemmas.Bool.{eq-eqb, false≢true, ltb-false, ltb-true, ne_eqb}
use Rattle.std.proofs.lemmas.List.{append_cancel_left}
use Rattle.std.proofs.lemmas.List.Elements.{All-head, All-tail}
use Rattle.std.proofs.lemmas.List.FromFn.{get_or-map-range_with_len}
use Rattle.outside.specs.Files.{Files}
use Rattle.outside.specs.Reads.{Consecutive, Entry, LogsOn, read_in}
use Rattle.outside.specs.declared.place.Place.{Place}
use Rattle.outside.proofs.ReadLemmas.{LogsOn-through, read_in-append, read_in-through}
use Rattle.value_ids.specs.Dictionary.{Distinct}
use Rattle.bit_column.specs.Column.{bytes_for, width_of}
use Rattle.bit_column.specs.Sections.{end_byte, first_byte}
use Rattle.table_schema.specs.declared.query.BoundQuery.{BoundQuery}
use Rattle.table_schema.specs.declared.query.Conjunct.TheVariants.{One}
use Rattle.table_schema.specs.declared.table.Table.{Table}
use Rattle.segment_file.specs.declared.part.Part.{Part}
use Rattle.segment_file.specs.declared.part.Part.TheVariants as parts
use Rattle.segment_file.specs.Front.{Extent, extents_from, front_size}
use Rattle.segment_head.specs.Heads.{IsHead, IsHeadOf, IsLoaded, IsPartOf, IsSlotOf, Seen, place_in, placed}
use Rattle.segment_file.specs.Parts.{columns_of, head_sections, is_same, kind_of, owner_of, tail_sections, trees_of}
use Rattle.segment_file.specs.Reading.{count_at}
use Rattle.segment_file.specs.Rules.{IsSized, count_in, dictionary_in, heads_in, raw_extents, size_in}
use Rattle.segment_file.proofs.Tails.{count_same}
use Rattle.segment_plan.specs.Matched.{values_in, values_of}
use Rattle.segment_plan.specs.Choices.{choice_of}
use Rattle.column_reader.specs.Forward.{LogsColumns, LogsNamed, width_in}
use Rattle.segment_scan.specs.Images.{LogsScan, indexed_for}
use Rattle.segment_plan.specs.Named.{AreNamedLoaded, names_in, agg_names, conjunct_names, is_in, query_names}
use Rattle.segment_scan.specs.LeastReads.{IsLookedThrough, forward_bytes, forward_length}
use Rattle.segment_plan.specs.RowsLeft.{indexed}
use Rattle.segment_scan.proofs.ImageLemmas.{columns_few, forward_only, loaded_readable}
use Rattle.segment_scan.proofs.SegmentLemmas.{mark_named}

-- ---- how long a forward section is

-- the sections of the head come first, and none is a forward section
head_passed : (file : List ℕ) (column offset : ℕ) (hs ts : List Part) (sizes : List ℕ) → AllByRecursion (λ p. kind_of p < 4) hs
    → place_in (map (placed file) (extents_from offset (hs ++ ts) sizes)) (parts.Forward column) ≡ place_in (map (placed file) (drop (length hs) (extents_from offset (hs ++ ts) sizes))) (parts.Forward column)
head_passed file column offset [] ts sizes low = refl
head_passed file column offset (h ∷ hs) ts [] low = refl
head_passed file column offset (h ∷ hs) ts (size ∷ sizes) low =
    let rest : List Extent = extents_from (offset + size) (hs ++ ts) sizes in
    let other : (kind_of h == 4) ≡ false = ne_eqb (kind_of h) 4 (λ is. let l = low.0 in omega (arith, is, l)) in
    ap (λ b. option_map (λ s. s.place) (cond (b && (owner_of h == column)) (Some (placed file (record { part = h; offset = offset; size = size }))) (find (λ s. is_same s.part (parts.Forward column)) (map (placed file) rest)))) other
    ∙ head_passed file column (offset + size) hs ts sizes low.1

low_all : (f : ℕ → Part) → ((n : ℕ) → kind_of (f n) < 4) → (ns : List ℕ) (more : List Part) → AllByRecursion (λ p. kind_of p < 4) more → AllByRecursion (λ p. kind_of p < 4) (map f ns ++ more)
low_all f low [] more h = h
low_all f low (n ∷ ns) more h = (low n, low_all f low ns more h)

heads_low : (table : Table) → AllByRecursion (λ p. kind_of p < 4) (head_sections table)
heads_low table =
    let nodes : AllByRecursion (λ p. kind_of p < 4) (map parts.Nodes (trees_of table)) =
    subst (AllByRecursion (λ p. kind_of p < 4)) (append-nil (map parts.Nodes (trees_of table))) (low_all parts.Nodes (λ n. omega arith) (trees_of table) [] tt) in
    (omega arith, low_all parts.Dictionary (λ n. omega arith) (columns_of table) (map parts.Nodes (trees_of table)) nodes)

-- a section that is found is one of the extents
record Found (file : List ℕ) (p : Part) (place : Place) (Q : Extent → Type 0) : Type 0 where
  extent : Extent
  same : is_same extent.part p ≡ true
  place_is : (placed file extent).place ≡ place
  has : Q extent

found : (file : List ℕ) (p : Part) (place : Place) (Q : Extent → Type 0) (xs : List Extent) → All Q xs → place_in (map (placed file) xs) p ≡ Some place → Found file p place Q
found file p place Q [] all is = absurd cc
found file p place Q (x ∷ xs) all is = go (is_same x.part p) refl is (found file p place Q xs (All-tail Q x xs all))
  where
    go : (b : Bool) → is_same x.part p ≡ b → option_map (λ s. s.place) (cond b (Some (placed file x)) (find (λ s. is_same s.part p) (map (placed file) xs))) ≡ Some place
        → (place_in (map (placed file) xs) p ≡ Some place → Found file p place Q) → Found file p place Q
    go true same is later = record { extent = x; same = same; place_is = cc; has = All-head Q x xs all }
    go false same is later = later is

-- what is loaded is of the whole head
slot_at : (ws ls : List (Option Distinct)) (k : ℕ) (d : Distinct) → AllZip IsSlotOf ws ls → slice_get ls k ≡ Some (Some d) → slice_get ws k ≡ Some (Some d)
slot_at [] [] k d zip at = absurd cc
slot_at [] (l ∷ ls) k d zip at = absurd zip
slot_at (w ∷ ws) [] k d zip at = absurd cc
slot_at (w ∷ ws) (l ∷ ls) zero d zip at = let is : l ≡ Some d = cc in ap Some (subst (IsSlotOf w) is zip.0)
slot_at (w ∷ ws) (l ∷ ls) (suc k) d zip at = slot_at ws ls k d zip.1 at

count_known : (ds : List Distinct) (k : ℕ) (d : Distinct) → slice_get (map Some ds) k ≡ Some (Some d) → count_at ds k ≡ length d.values
count_known [] k d at = absurd cc
count_known (e ∷ es) zero d at = let is : e ≡ d = cc in ap (λ x. length x.values) is
count_known (e ∷ es) (suc k) d at = count_known es k d at

module _ (table : Table) (name file bytes : List ℕ) (whole head : Seen) (full : IsHead table name file bytes whole) (part : IsPartOf whole head) (of_table : IsHeadOf table head) where
  abbrev heads : List (List ℕ)
  heads = heads_in table name full.front bytes

  -- the dictionary in the file has as many values as the loaded one
  counted : (column : ℕ) → (loaded : IsLoaded head column) → count_in (dictionary_in heads column) ≡ length (values_in head column)
  counted column (d, at) =
      let there : slice_get (map Some full.dictionaries) column ≡ Some (Some d) =
      ap (λ ds. slice_get ds column) (sym full.dictionaries_are) ∙ slot_at whole.dictionaries head.dictionaries column d part.slots at in
      count_same table full.front.rows heads full.dictionaries column full.keeps.heads.spelled (columns_few table head column of_table (d, at))
      ∙ count_known full.dictionaries column d there ∙ ap (λ o. length (values_of o)) (sym at)

  -- the forward section of a column has the ids of its rows, and nothing more
  section_long : (column : ℕ) → IsLoaded head column → (place : Place) → place_in head.sections (parts.Forward column) ≡ Some place → place.length ≡ bytes_for (head.rows * width_in head column)
  section_long column loaded place at =
      let Q : Extent → Type 0 = IsSized table full.front.rows heads in
      let there : place_in (map (placed file) (raw_extents table name full.front)) (parts.Forward column) ≡ Some place =
      sym (head_passed file column (front_size table name) (head_sections table) (tail_sections table) full.front.sizes (heads_low table))
      ∙ ap (λ s. place_in s (parts.Forward column)) (sym (part.sections_same ∙ full.sections_are)) ∙ at in
      let f = found file (parts.Forward column) place Q (raw_extents table name full.front) full.keeps.sized there in
      let own : f.extent.part ≡ parts.Forward column = forward_only f.extent.part column f.same in
      let sized : f.extent.size ≡ bytes_for (full.front.rows * width_of (count_in (dictionary_in heads column))) =
      f.has ∙ ap (size_in table full.front.rows heads) own in
      ap (λ p. p.length) (sym f.place_is) ∙ sized
      ∙ (λ i. bytes_for (sym (part.rows_same ∙ full.rows_are) i * width_of (counted column loaded i)))

-- ---- what is read of it

-- ids end where the bytes for them do
ends : (rows width : ℕ) → bytes_for (rows * width) ≤ end_byte width 0 rows
ends rows width = by (nat_lt 0 rows) refl
  where
    by : (b : Bool) → nat_lt 0 rows ≡ b → bytes_for (rows * width) ≤ (if b then bytes_for (rows * width) else first_byte width 0)
    by true is = omega arith
    by false is =
        let none : rows ≡ 0 = (let at_most : rows ≤ 0 = ltb-false 0 rows is in omega (arith, at_most)) in
        subst (λ r. bytes_for (r * width) ≤ first_byte width 0) (sym none) (omega arith)

-- a section that is there
there_is : {P : Place → Type 0} (o : Option Place) → IsSome o → IfSome o P → (place : Place) × (o ≡ Some place) × P place
there_is None some has = absurd (false≢true some)
there_is (Some place) some has = (place, refl, has)

same_place : {a b : Place} → Some a ≡ Some b → a ≡ b
same_place e = cc

module _ (head : Seen) (named : List Bool) (limit : ℕ) (all : (other : ℕ) → other < limit → get_or named other false ≡ true → IsSome (place_in head.sections (parts.Forward other))) (column : ℕ) (place : Place)
    (at : place_in head.sections (parts.Forward column) ≡ Some place) (long : place.length ≡ bytes_for (head.rows * width_in head column)) (marked : get_or named column false ≡ true) where
  abbrev given : List Entry → ℕ
  given entries = read_in entries place.file place.offset (place.offset + place.length)

  -- the told log grew by reads of the first n columns; where this one is among them, they give its section
  record Gives (n : ℕ) (before : List Entry) (new : Option (List Entry)) : Type 0 where
    entries : List Entry
    made : new ≡ Some (before ++ entries)
    least : column < n → place.length ≤ given entries

  -- reads of this section
  own_given : (other : Place) → place_in head.sections (parts.Forward column) ≡ Some other → (entries : List Entry)
      → Consecutive other.file (other.offset + first_byte (width_in head column) 0) (other.offset + end_byte (width_in head column) 0 head.rows) entries → place.length ≤ given entries
  own_given other is entries on =
      let same : other ≡ place = same_place (sym is ∙ at) in
      let here = subst (λ p. Consecutive p.file (p.offset + first_byte (width_in head column) 0) (p.offset + end_byte (width_in head column) 0 head.rows) entries) same on in
      let sum = read_in-through entries place.file (place.offset + first_byte (width_in head column) 0) (place.offset + end_byte (width_in head column) 0 head.rows) place.offset (place.offset + place.length) here in
      let reach = ends head.rows (width_in head column) in
      omega (arith, sum, reach, long)

  no_more : (n : ℕ) (before : List Entry) (between new : Option (List Entry)) → get_or named n false ≡ false → Gives n before between → new ≡ between → Gives (suc n) before new
  no_more n before between new off g same = record {
    entries = g.entries;
    made = same ∙ g.made;
    least = λ lt. g.least (by (nat_lt column n) refl lt);
  }
    where
      by : (b : Bool) → nat_lt column n ≡ b → column < suc n → column < n
      by true is lt = ltb-true column n is
      by false is lt =
          let le : n ≤ column = ltb-false column n is in
          let own : column ≡ n = omega (arith, le, lt) in
          absurd (false≢true (sym off ∙ ap (λ k. get_or named k false) (sym own) ∙ marked))

  one_more : (n : ℕ) (before : List Entry) (between new : Option (List Entry)) (other : Place) → place_in head.sections (parts.Forward n) ≡ Some other → Gives n before between
      → LogsOn other.file (other.offset + first_byte (width_in head n) 0) (other.offset + end_byte (width_in head n) 0 head.rows) between new → Gives (suc n) before new
  one_more n before between new other is g logs =
      let (y, made, on) = LogsOn-through other.file (other.offset + first_byte (width_in head n) 0) (other.offset + end_byte (width_in head n) 0 head.rows) between new logs in
      record {
        entries = g.entries ++ y;
        made = made ∙ ap (option_map (λ l. l ++ y)) g.made ∙ ap Some (append_assoc before g.entries y);
        least = λ lt.
            let sum = read_in-append g.entries y place.file place.offset (place.offset + place.length) in
            by y on (nat_lt column n) refl lt sum;
      }
    where
      by : (y : List Entry) → Consecutive other.file (other.offset + first_byte (width_in head n) 0) (other.offset + end_byte (width_in head n) 0 head.rows) y
          → (b : Bool) → nat_lt column n ≡ b → column < suc n → given (g.entries ++ y) ≡ given g.entries + given y → place.length ≤ given (g.entries ++ y)
      by y on true here lt sum = let at_most = g.least (ltb-true column n here) in omega (arith, at_most, sum)
      by y on false past lt sum =
          let le : n ≤ column = ltb-false column n past in
          let own : n ≡ column = omega (arith, le, lt) in
          let at_most = own_given other (ap (λ k. place_in head.sections (parts.Forward k)) (sym own) ∙ is) y
          (subst (λ k. Consecutive other.file (other.offset + first_byte (width_in head k) 0) (other.offset + end_byte (width_in head k) 0 head.rows) y) own on) in
          omega (arith, at_most, sum)

  columns_give : (n : ℕ) → n ≤ limit → (before : List Entry) (new : Option (List Entry)) → LogsColumns head named n (Some before) new → Gives n before new
  columns_give zero le before new logs = record { entries = []; made = logs ∙ ap Some (sym (append-nil before)); least = λ lt. absurd (omega arith) }
  columns_give (suc n) le before new (between, first, last) = by (get_or named n false) refl last (columns_give n (omega (arith, le)) before between first)
    where
      by : (b : Bool) → get_or named n false ≡ b → LogsNamed head n b between new → Gives n before between → Gives (suc n) before new
      by false is same g = no_more n before between new is g same
      by true is logs g = let here = there_is (place_in head.sections (parts.Forward n)) (all n (omega (arith, le)) is) logs in one_more n before between new here.0 here.1 g here.2

  -- reads of all columns give the section of this one
  pub all_given : column < limit → (before entries : List Entry) → LogsColumns head named limit (Some before) (Some (before ++ entries)) → forward_length head column ≤ forward_bytes head column entries
  all_given lt before entries logs =
      let g = columns_give limit (omega arith) before (Some (before ++ entries)) logs in
      let same : before ++ entries ≡ before ++ g.entries = some_same g.made in
      let at_most : place.length ≤ given entries = subst (λ l. place.length ≤ given l) (sym (append_cancel_left before entries g.entries same)) (g.least lt) in
      subst (λ o. option_map_or (λ (p : Place). p.length) o 0 ≤ option_map_or (λ (p : Place). read_in entries p.file p.offset (p.offset + p.length)) o 0) (sym at) at_most
    where
      some_same : {X : Type 0} {x y : X} → Some x ≡ Some y → x ≡ y
      some_same e = cc

-- ---- a query of which no conjunct is indexed

some_place : (o : Option Place) → IsSome o → (place : Place) × (o ≡ Some place)
some_place None some = absurd (false≢true some)
some_place (Some place) some = (place, refl)

-- a loaded column has a forward index
pub forward_there : (table : Table) (head : Seen) (column : ℕ) → IsHeadOf table head → IsLoaded head column → (place : Place) × (place_in head.sections (parts.Forward column) ≡ Some place)
forward_there table head column of_table own = some_place (place_in head.sections (parts.Forward column)) (loaded_readable table head column of_table own).placed

module _ (query : BoundQuery) (table : Table) (head : Seen) (column : ℕ) (named : query_names query column ≡ true) (none_indexed : indexed_for query table head ≡ []) where
  -- the section of a column that it names was read
  pub named_read : (name file bytes : List ℕ) (whole : Seen) (held : Option Files) (count : ℕ) (before entries : List Entry) → IsHead table name file bytes whole → IsPartOf whole head → IsHeadOf table head → AreNamedLoaded query head
      → LogsScan query table held head count (Some before) (Some (before ++ entries)) → forward_length head column ≤ forward_bytes head column entries
  named_read name file bytes whole held count before entries full part of_table loaded (inl (none, logs)) =
      let own = loaded column named in
      let at_most = columns_few table head column of_table own in
      let n : ℕ = length table.schema.fields in
      let plain : 0 + column ≡ column = omega arith in
      let marked : get_or (names_in query table) column false ≡ true = get_or-map-range_with_len (query_names query) 0 n column column false at_most plain ∙ named in
      let here = forward_there table head column of_table own in
      all_given head (names_in query table) n (λ other lt is. (loaded_readable table head other of_table (loaded other (mark_named query table (names_in query table) refl other is))).placed)
      column here.0 here.1 (section_long table name file bytes whole head full part of_table column own here.0 here.1) marked at_most before entries logs
  named_read name file bytes whole held count before entries full part of_table loaded (inr (docs, left, count_is, between, indexes, rest)) =
      let long : length (indexed_for query table head) ≡ 0 = ap length none_indexed in
      absurd (let some = left.some in omega (arith, some, long))

-- ---- a query of one conjunct

module _ (query : BoundQuery) (table : Table) (head : Seen) (column : ℕ) (looked : IsLookedThrough query table head column) where
  names_it : query_names query column ≡ true
  names_it =
      ap (λ cs. (list_any (conjunct_names column) cs || is_in query.groups column) || list_any (agg_names column) query.aggs) looked.only
      ∙ ap (λ b. ((b || false) || is_in query.groups column) || list_any (agg_names column) query.aggs) (eq-eqb column column refl)

  none_indexed : indexed_for query table head ≡ []
  none_indexed =
      ap (λ cs. indexed (map (choice_of table.settings head) cs) cs) looked.only
      ∙ ap (λ c. indexed (c ∷ []) (One column looked.test ∷ [])) looked.unindexed

  pub least_read : (name file bytes : List ℕ) (whole : Seen) (held : Option Files) (count : ℕ) (before entries : List Entry) → IsHead table name file bytes whole → IsPartOf whole head → IsHeadOf table head → AreNamedLoaded query head
      → LogsScan query table held head count (Some before) (Some (before ++ entries)) → forward_length head column ≤ forward_bytes head column entries
  least_read = named_read query table head column names_it none_indexed
