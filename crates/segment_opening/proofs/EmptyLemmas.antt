-- Segments with a column of which no value satisfies a conjunct on it.
use Rattle.std.proofs.Common.{◌≡◌, ◌∙◌, ◌≤◌, ◌<◌, ◌+◌, ◌==◌, ◌||◌, not, cond, ℕ, zero, suc, Bool, true, false, List, [], ◌∷◌, length, map, get_or, slice_get, Option, Some, None, refl, sym, ap, subst, arith}
use Rattle.std.proofs.lemmas.Bool.{and_from, and_left, and_right, eq-eqb, eqb-true, ltb-true, or_left, or_right}
use Rattle.std.proofs.lemmas.List.Folds.{list_any_at}
use Rattle.std.proofs.lemmas.List.FromFn.{length-range_with_len, get_or-range_with_len}
use Rattle.std.proofs.lemmas.Option.{get_or_from_slice_get}
use Rattle.std.specs.List.{AllZip, filter, list_all, list_any, range_with_len}
use Rattle.outside.specs.Files.{Files, bytes_of}
use Rattle.outside.specs.Reads.{Entry}
use Rattle.values.specs.declared.value.Value.{Value}
use Rattle.values.specs.declared.test.Test.{Test}
use Rattle.values.specs.Tests.{holds}
use Rattle.value_ids.specs.Dictionary.{Distinct}
use Rattle.value_ids.specs.Ids.{matching, matching_from}
use Rattle.dictionary_reading.specs.InFile.{LogsInside}
use Rattle.table_schema.specs.declared.field.Field.{Field}
use Rattle.table_schema.specs.declared.query.BoundQuery.{BoundQuery}
use Rattle.table_schema.specs.declared.query.Conjunct.{Conjunct}
use Rattle.table_schema.specs.declared.query.Conjunct.TheVariants.{One, Many}
use Rattle.table_schema.specs.declared.table.Table.{Table}
use Rattle.table_schema.specs.ValidQuery.{IsValidQuery, conjunct_known}
use Rattle.segment_file.specs.declared.section.Section.{Section}
use Rattle.segment_file.specs.Parts.{columns_of, sections_of}
use Rattle.segment_file.specs.Rules.{AreSpelled, heads_in}
use Rattle.segment_head.specs.Heads.{AreIn, IsHead, IsHeadOf, IsLoaded, IsPartOf, IsSlotOf, OfWhole, Seen, dictionary_section}
use Rattle.segment_head.specs.Lookups.{LogsDictionary}
use Rattle.segment_head.proofs.Composed.{made_count}
use Rattle.segment_head.proofs.SectionLemmas.{if_some, section_at}
use Rattle.segment_plan.specs.Matched.{is_filtered, is_on, matched, passes, values_of}
use Rattle.segment_plan.specs.Plan.{leaves_none}
use Rattle.segment_reads.specs.Logs.{DictionariesEnd, EndsBy, LogsThat}
use Rattle.segment_opening.specs.Emptied.{IsEmptied, MatchesNone}
use Rattle.segment_opening.proofs.NamedLemmas.{filtered_names, named_within}

-- ---- a whole head

slots_self : {A : Type 0} (xs : List (Option A)) → AllZip IsSlotOf xs xs
slots_self [] = tt
slots_self (None ∷ xs) = (tt, slots_self xs)
slots_self (Some x ∷ xs) = (refl, slots_self xs)

-- it is a part of itself
pub part_self : (whole : Seen) → IsPartOf whole whole
part_self whole = record { rows_same = refl; sections_same = refl; bounds_same = refl; slots = slots_self whole.dictionaries; tree_slots = slots_self whole.trees }

spelled_there : (table : Table) (rows : ℕ) (heads : List (List ℕ)) (columns : List ℕ) (ds : List Distinct) (k : ℕ) → AreSpelled table rows heads columns ds → k < length columns → (d : Distinct) × (slice_get (map Some ds) k ≡ Some (Some d))
spelled_there table rows heads [] ds k all lt = absurd (omega (arith, lt))
spelled_there table rows heads (c ∷ cs) [] k all lt = absurd all
spelled_there table rows heads (c ∷ cs) (d ∷ ds) zero all lt = (d, refl)
spelled_there table rows heads (c ∷ cs) (d ∷ ds) (suc k) all lt = spelled_there table rows heads cs ds k all.1 (omega (arith, lt))

-- it has the dictionary of each column
pub whole_loaded : (table : Table) (name file bytes : List ℕ) (whole : Seen) → IsHead table name file bytes whole → (column : ℕ) → column < length table.schema.fields → IsLoaded whole column
whole_loaded table name file bytes whole full column lt =
    let (d, at) = spelled_there table full.front.rows (heads_in table name full.front bytes) (columns_of table) full.dictionaries column full.keeps.heads.spelled
    (subst (λ n. column < n) (sym (length-range_with_len 0 (length table.schema.fields))) lt) in
    (d, ap (λ l. slice_get l column) full.dictionaries_are ∙ at)

-- ---- a conjunct that matches none

module _ (column : ℕ) (test : Test) where
  fails_own : (v : Value) → holds v test ≡ false → passes column v (One column test) ≡ false
  fails_own v fails = (λ i. not (eq-eqb column column refl i) || fails i)

  none_passes : (conjuncts : List Conjunct) (k : ℕ) → slice_get conjuncts k ≡ Some (One column test) → (v : Value) → holds v test ≡ false → list_all (passes column v) conjuncts ≡ false
  none_passes [] k at v fails = absurd cc
  none_passes (c ∷ cs) zero at v fails =
      let is : c ≡ One column test = cc in
      and_left (passes column v c) (list_all (passes column v) cs) (ap (passes column v) is ∙ fails_own v fails)
  none_passes (c ∷ cs) (suc k) at v fails = and_right (passes column v c) (list_all (passes column v) cs) (none_passes cs k at v fails)

  none_left : (conjuncts : List Conjunct) (k : ℕ) → slice_get conjuncts k ≡ Some (One column test) → (from : ℕ) (values : List Value) → matching_from from test values ≡ [] → filter (λ value. list_all (passes column value) conjuncts) values ≡ []
  none_left conjuncts k at from [] none = refl
  none_left conjuncts k at from (v ∷ vs) none = go (none_left conjuncts k at (from + 1) vs) (holds v test) refl none
    where
      p : Value → Bool
      p value = list_all (passes column value) conjuncts

      go : (matching_from (from + 1) test vs ≡ [] → filter p vs ≡ []) → (b : Bool) → holds v test ≡ b → cond b (from ∷ matching_from (from + 1) test vs) (matching_from (from + 1) test vs) ≡ [] → filter p (v ∷ vs) ≡ []
      go later true is e = absurd cc
      go later false is e = ap (λ b. cond b (v ∷ filter p vs) (filter p vs)) (none_passes conjuncts k at v is) ∙ later e

  pub on_filtered : (conjuncts : List Conjunct) (k : ℕ) → slice_get conjuncts k ≡ Some (One column test) → is_filtered conjuncts column ≡ true
  on_filtered [] k at = absurd cc
  on_filtered (c ∷ cs) zero at =
      let is : c ≡ One column test = cc in
      or_left (is_on column c) (list_any (is_on column) cs) (ap (is_on column) is ∙ eq-eqb column column refl)
  on_filtered (c ∷ cs) (suc k) at = or_right (is_on column c) (list_any (is_on column) cs) (on_filtered cs k at)

  none_matched : (conjuncts : List Conjunct) (k : ℕ) → slice_get conjuncts k ≡ Some (One column test) → (o : Option (Option Distinct)) → ((d : Distinct) → o ≡ Some (Some d) → matching test d.values ≡ []) → matched conjuncts column (values_of o) ≡ 0
  none_matched conjuncts k at None none = refl
  none_matched conjuncts k at (Some None) none = refl
  none_matched conjuncts k at (Some (Some d)) none = ap length (none_left conjuncts k at 0 d.values (none d refl))

  column_left : (conjuncts : List Conjunct) (k : ℕ) → slice_get conjuncts k ≡ Some (One column test) → (whole : Seen) → ((d : Distinct) → slice_get whole.dictionaries column ≡ Some (Some d) → matching test d.values ≡ []) → leaves_none conjuncts whole column ≡ true
  column_left conjuncts k at whole none =
      let count : matched conjuncts column (values_of (slice_get whole.dictionaries column)) ≡ 0 = none_matched conjuncts k at (slice_get whole.dictionaries column) none in
      and_from (is_filtered conjuncts column) (matched conjuncts column (values_of (slice_get whole.dictionaries column)) == 0) (on_filtered conjuncts k at)
      (eq-eqb (matched conjuncts column (values_of (slice_get whole.dictionaries column))) 0 count)

pub some_column : (p : ℕ → Bool) (count column : ℕ) → column < count → p column ≡ true → list_any p (range_with_len 0 count) ≡ true
some_column p count column lt is =
    let plain : 0 + column ≡ column = omega arith in
    let at : get_or (range_with_len 0 count) column 0 ≡ column = get_or-range_with_len 0 count column 0 lt ∙ plain in
    list_any_at p (range_with_len 0 count) column 0 (subst (λ n. column < n) (sym (length-range_with_len 0 count)) lt) (ap p at ∙ is)

-- the whole head leaves a column without a value
pub emptied_by : (table : Table) (query : BoundQuery) → IsValidQuery table query → (held : Option Files) (head : Seen) (k : ℕ) (conjunct : Conjunct) → slice_get query.conjuncts k ≡ Some conjunct → OfWhole table held head (MatchesNone conjunct) → IsEmptied query table held head
emptied_by table query valid None head k conjunct at none = tt
emptied_by table query valid (Some files) head k (Many condition) at none = λ name file whole full part. absurd (none name file whole full part)
emptied_by table query valid (Some files) head k (One column test) at none = λ name file whole full part.
    let within : (c : ℕ) → is_filtered query.conjuncts c ≡ true → c < length table.schema.fields = λ c on. named_within table query c valid (filtered_names query c on) in
    record {
      loaded = λ c on. whole_loaded table name file (bytes_of (Some files) file) whole full c (within c on);
      emptied = some_column (leaves_none query.conjuncts whole) (length table.schema.fields) column (within column (on_filtered column test query.conjuncts k at))
          (column_left column test query.conjuncts k at whole (none name file whole full part));
    }

-- where no id matches, no value does
pub matches_so : (table : Table) (held : Option Files) (head : Seen) (column : ℕ) (test : Test) (ids : List ℕ) → ids ≡ [] → OfWhole table held head (λ whole. (d : Distinct) → slice_get whole.dictionaries column ≡ Some (Some d) → ids ≡ matching test d.values)
    → OfWhole table held head (MatchesNone (One column test))
matches_so table None head column test ids none are = tt
matches_so table (Some files) head column test ids none are = λ name file whole full part d at. sym (are name file whole full part d at) ∙ none

pub matches_same : (table : Table) (held : Option Files) (head : Seen) (a b : Conjunct) → a ≡ b → OfWhole table held head (MatchesNone a) → OfWhole table held head (MatchesNone b)
matches_same table held head a b same none = subst (λ c. OfWhole table held head (MatchesNone c)) same none

-- ---- what is read

-- reads of a dictionary end before the dictionaries do
pub looked_log : (table : Table) (head : Seen) (column most : ℕ) (file : List ℕ) (end : ℕ) (old new : Option (List Entry)) → IsHeadOf table head → column < length table.schema.fields → AreIn file head.sections → DictionariesEnd table head end
    → LogsDictionary head column most old new → LogsThat (EndsBy file end) old new
looked_log table head column most file end old new of lt within ends logs =
    let at_most : column + 1 < length head.sections = omega (arith, lt, made_count table of.name of.file of.front (sections_of table) head.sections refl of.each of.has.sections_are) in
    let (s, at) = section_at head.sections (column + 1) at_most in
    let inside : LogsInside s.place most old new = if_some (dictionary_section head column) s (λ s. LogsInside s.place most old new) at logs in
    let before : s.place.offset + s.place.length ≤ end = if_some (dictionary_section head column) s (λ s. s.place.offset + s.place.length ≤ end) at (ends column lt) in
    let here : get_or head.sections (column + 1) s ≡ s = get_or_from_slice_get head.sections (column + 1) s s at in
    let own : s.place.file ≡ file = subst (λ (x : Section). x.place.file ≡ file) here (within (column + 1) s at_most) in
    (inside.entries, inside.grown, λ k d lt_k. let one = inside.inside k d lt_k in let to = one.to in record { file_is = one.file ∙ own; ends = omega (arith, to, before) })

-- there are no ids
pub none_of : (ids : List ℕ) → length ids == 0 ≡ true → ids ≡ []
none_of [] e = refl
none_of (id ∷ ids) e =
    let none : length (id ∷ ids) ≡ 0 = eqb-true (length (id ∷ ids)) 0 e in
    absurd (omega (arith, none))

-- the column that a conjunct names alone is one of the fields
pub known_column : (fields : List Field) (column : ℕ) (test : Test) (c : Conjunct) → c ≡ One column test → conjunct_known fields c ≡ true → column < length fields
known_column fields column test c is known = ltb-true column (length fields) (ap (conjunct_known fields) (sym is) ∙ known)
