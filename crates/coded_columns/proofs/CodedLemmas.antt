-- The values of a segment's rows, column by column.
use Rattle.std.proofs.Common.{◌≡◌, ◌∙◌, ◌<◌, ◌∷◌, [], ℕ, Bool, true, false, pos, zero, suc, Option, Some, None, List, length, map, get_or, replicate, slice_get, refl, ap, sym, subst, arith, cond, ◌++◌, append-nil, MatchOption}
use Rattle.std.proofs.lemmas.List.{length-map, length-replicate}
use Rattle.std.proofs.lemmas.List.Elements.{All-head, All-tail, All-cons, All-nil, All-push}
use Rattle.std.specs.List.{All}
use Rattle.values.specs.declared.value.Value.{Value}
use Rattle.values.specs.declared.value.Value.TheVariants.{Whole}
use Rattle.values.specs.declared.test.Test.{Test}
use Rattle.values.specs.Tests.{holds}
use Rattle.values.specs.Columns.{Counts, row_of}
use Rattle.value_ids.specs.Coding.{AreBelow, values_at}
use Rattle.value_ids.specs.Ids.{has_id, satisfies}
use Rattle.table_schema.specs.Conditions.{cell}
use Rattle.coded_columns.specs.declared.coded.Coded.{Coded}
use Rattle.coded_columns.specs.declared.coded.SegmentColumns.{SegmentColumns}
use Rattle.coded_columns.specs.Coded.{IsOfField, IsUnread, column_of, listed, table_of, values_of}
use Rattle.coded_columns.specs.IdColumns.{IsCoded}

length-values : (count : ℕ) (column : Option Coded) → IsCoded count column → length (values_of count column) ≡ count
length-values count None h = length-replicate count (Whole (pos 0))
length-values count (Some column) h = length-map column.ids.now (λ id. get_or column.dictionary.now.values id (Whole (pos 0))) ∙ (h column refl).count

-- each column has a value for each row
all-counts : (count : ℕ) (columns : List (Option Coded)) → All (IsCoded count) columns → All (Counts count) (map (listed count) columns)
all-counts count [] all = All-nil (Counts count)
all-counts count (c ∷ cs) all = All-cons (Counts count) (listed count c) (map (listed count) cs) (length-values count c (All-head (IsCoded count) c cs all)) (all-counts count cs (All-tail (IsCoded count) c cs all))

pub counts : (segment : SegmentColumns) → All (Counts segment.count) (table_of segment).columns
counts segment = all-counts segment.count segment.columns.now segment.coded.each

-- ---- a field

pub zeros : (n at : ℕ) → get_or (replicate n (Whole (pos 0))) at (Whole (pos 0)) ≡ Whole (pos 0)
zeros zero at = refl
zeros (suc n) zero = refl
zeros (suc n) (suc at) = zeros n at

pub get_or-ids : (values : List Value) (ids : List ℕ) (at : ℕ) → at < length ids → get_or (values_at values ids) at (Whole (pos 0)) ≡ get_or values (get_or ids at 0) (Whole (pos 0))
get_or-ids values [] at lt = absurd (omega (arith, lt))
get_or-ids values (id ∷ ids) zero lt = refl
get_or-ids values (id ∷ ids) (suc at) lt = get_or-ids values ids at (omega (arith, lt))

-- the value of a row in a field, by the column of the field
of-column : (count : ℕ) (columns : List (Option Coded)) (field at : ℕ) → cell (row_of (map (listed count) columns) at) field ≡ get_or (values_of count (get_or columns field None)) at (Whole (pos 0))
of-column count [] field at = sym (zeros count at)
of-column count (c ∷ cs) zero at = refl
of-column count (c ∷ cs) (suc field) at = of-column count cs field at

coded-at : (count : ℕ) (columns : List (Option Coded)) (field : ℕ) → All (IsCoded count) columns → IsCoded count (get_or columns field None)
coded-at count [] field all = λ column is. absurd cc
coded-at count (c ∷ cs) zero all = All-head (IsCoded count) c cs all
coded-at count (c ∷ cs) (suc field) all = coded-at count cs field (All-tail (IsCoded count) c cs all)

looked-by : (segment : SegmentColumns) (field : ℕ) (column : Option Coded) → column_of segment field ≡ column → IsCoded segment.count column → MatchOption column (IsUnread segment field) (IsOfField segment field)
looked-by segment field None is coded = λ at.
    of-column segment.count segment.columns.now field at ∙ ap (λ c. get_or (values_of segment.count c) at (Whole (pos 0))) is ∙ zeros segment.count at
looked-by segment field (Some column) is coded = record {
  ids = coded column refl;
  each = λ at lt. of-column segment.count segment.columns.now field at ∙ ap (λ c. get_or (values_of segment.count c) at (Whole (pos 0))) is
      ∙ get_or-ids column.dictionary.now.values column.ids.now at (omega (arith, lt, (coded column refl).count));
}

-- the column of a field has its values
pub looked : (segment : SegmentColumns) (field : ℕ) → MatchOption (column_of segment field) (IsUnread segment field) (IsOfField segment field)
looked segment field = looked-by segment field (column_of segment field) refl (coded-at segment.count segment.columns.now field segment.coded.each)

-- ---- a test by ids

-- the value of an id that there is
got : (values : List Value) (id : ℕ) (test : Test) → id < length values → satisfies test (slice_get values id) ≡ holds (get_or values id (Whole (pos 0))) test
got [] id test lt = absurd (omega (arith, lt))
got (v ∷ vs) zero test lt = refl
got (v ∷ vs) (suc id) test lt = got vs id test (omega (arith, lt))

-- an id is in the set of a test just where the value of the row satisfies the test
pub tested-at : (segment : SegmentColumns) (field : ℕ) (column : Coded) (test : Test) (ids : List ℕ) (at : ℕ) → at < segment.count → IsOfField segment field column
    → ((id : ℕ) → has_id ids id ≡ satisfies test (slice_get column.dictionary.now.values id))
    → has_id ids (get_or column.ids.now at 0) ≡ holds (cell (row_of (table_of segment).columns at) field) test
tested-at segment field column test ids at lt of each =
    let id = get_or column.ids.now at 0 in
    let below : id < length column.dictionary.now.values = of.ids.below at 0 (omega (arith, lt, of.ids.count)) in
    each id ∙ got column.dictionary.now.values id test below ∙ ap (λ v. holds v test) (sym (of.each at lt))

-- one place more, where it is marked
pub below_marked : (count : ℕ) (places : List ℕ) (at : ℕ) (mark : Bool) → at < count → AreBelow count places → AreBelow count (places ++ cond mark (at ∷ []) [])
below_marked count places at true lt all = All-push (λ p. p < count) places at all lt
below_marked count places at false lt all = subst (AreBelow count) (sym (append-nil places)) all
