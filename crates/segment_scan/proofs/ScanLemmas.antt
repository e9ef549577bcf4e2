-- The columns that are read are those of the file.
use Rattle.std.proofs.Common.{◌≡◌, ◌∙◌, ◌<◌, ◌≤◌, ◌+◌, ◌∷◌, [], ℕ, suc, Bool, true, false, Option, Some, None, IfSome, List, length, map, get_or, refl, ap, sym, subst, arith}
use Rattle.std.proofs.lemmas.List.Elements.{All-from_get_or}
use Rattle.std.specs.List.{All, list_any}
use Rattle.outside.specs.Files.{Files}
use Rattle.values.specs.declared.value.Value.{Value}
use Rattle.values.specs.Columns.{is_text, rows_of}
use Rattle.value_ids.specs.Coding.{AreBelow, values_at}
use Rattle.table_schema.specs.declared.query.BoundQuery.{BoundQuery}
use Rattle.segment_head.specs.Heads.{Seen}
use Rattle.group_table.specs.Kept.{KeptGroups}
use Rattle.scan_engine.specs.Scanned.{IsOverfull, selected}
use Rattle.coded_columns.specs.declared.coded.Coded.{Coded}
use Rattle.coded_columns.specs.declared.coded.SegmentColumns.{SegmentColumns}
use Rattle.coded_columns.specs.Coded.{listed, most_rows, table_of, values_of}
use Rattle.coded_columns.specs.IdColumns.{AreCoded, HasIds, IsCoded}
use Rattle.column_reader.specs.Forward.{IsRead}
use Rattle.segment_scan.specs.Scans.{IsCodedOf, columns_read, selected_read, table_read, values_read}

one-coded : (held : Option Files) (head : Seen) (column : ℕ) (named : Bool) (ids : Option (List ℕ)) (coded : Option Coded) → IsRead held head column named ids → IsCodedOf head column ids coded → IsCoded head.rows coded
one-coded held head column named ids None read of = λ own is. absurd cc
one-coded held head column named None (Some coded) read of = absurd of
one-coded held head column false (Some ids) (Some coded) read of = absurd cc
one-coded held head column true (Some ids) (Some coded) read of = λ own is.
    let same : coded ≡ own = cc in
    subst (HasIds head.rows) same (record {
      count = ap length of.0 ∙ read.count;
      below = subst (λ (l : List ℕ). AreBelow (length coded.dictionary.now.values) l) (sym of.0) (subst (λ (vs : List Value). AreBelow (length vs) ids) (sym of.1) read.below);
    })

one-read : (files : Files) (head : Seen) (column : ℕ) (named : Bool) (ids : Option (List ℕ)) (coded : Option Coded) → IsRead (Some files) head column named ids → IsCodedOf head column ids coded → values_of head.rows coded ≡ values_read files head column named
one-read files head column false None None read of = refl
one-read files head column true None None read of = absurd read
one-read files head column named None (Some coded) read of = absurd of
one-read files head column named (Some ids) None read of = absurd of
one-read files head column false (Some ids) (Some coded) read of = absurd cc
one-read files head column true (Some ids) (Some coded) read of = let same = of.0 ∙ read.told.1 in λ i. values_at (of.1 i) (same i)

all-read : (files : Files) (head : Seen) (n : ℕ) (named : List Bool) (coded : List (Option Coded)) → length coded ≡ length named
    → ((k : ℕ) → k < length named → values_of head.rows (get_or coded k None) ≡ values_read files head (n + k) (get_or named k false))
    → map (listed head.rows) coded ≡ columns_read files head n named
all-read files head n [] [] e h = refl
all-read files head n [] (c ∷ cs) e h = absurd (omega (arith, e))
all-read files head n (b ∷ bs) [] e h = absurd (omega (arith, e))
all-read files head n (b ∷ bs) (c ∷ cs) e h =
    let none : n + 0 ≡ n = omega arith in
    let here : values_of head.rows c ≡ values_read files head n b = h 0 (omega arith) ∙ ap (λ m. values_read files head m b) none in
    let rest = all-read files head (suc n) bs cs (omega (arith, e)) (λ k lt. h (suc k) (omega (arith, lt)) ∙ ap (λ m. values_read files head m (get_or bs k false)) (next n k)) in
    λ i. record { are_texts = list_any is_text (here i); values = here i } ∷ rest i
  where
    next : (n k : ℕ) → n + suc k ≡ suc n + k
    next n k = omega arith

-- each of them has an id for each row
pub coded-all : (held : Option Files) (head : Seen) (named : List Bool) (ids : List (Option (List ℕ))) (count : ℕ) (columns : List (Option Coded)) → count ≡ head.rows → head.rows ≤ most_rows → length columns ≡ length named
    → ((column : ℕ) → column < length named → IsRead held head column (get_or named column false) (get_or ids column None))
    → ((column : ℕ) → column < length named → IsCodedOf head column (get_or ids column None) (get_or columns column None)) → AreCoded count columns
coded-all held head named ids count columns count_is at_most lengths read of = record {
  at_most = omega (arith, count_is, at_most);
  each = subst (λ n. All (IsCoded n) columns) (sym count_is)
      (All-from_get_or (IsCoded head.rows) columns None
      (λ k lt. let within : k < length named = omega (arith, lt, lengths) in one-coded held head k (get_or named k false) (get_or ids k None) (get_or columns k None) (read k within) (of k within)));
}

module _ (held : Option Files) (head : Seen) (named : List Bool) (ids : List (Option (List ℕ))) (segment : SegmentColumns)
    (count_is : segment.count ≡ head.rows) (at_most : head.rows ≤ most_rows) (lengths : length segment.columns.now ≡ length named)
    (read : (column : ℕ) → column < length named → IsRead held head column (get_or named column false) (get_or ids column None))
    (of : (column : ℕ) → column < length named → IsCodedOf head column (get_or ids column None) (get_or segment.columns.now column None)) where
  pub rows-read : (query : BoundQuery) → IfSome held (λ files. selected query (rows_of (table_of segment)) ≡ selected_read query files head named)
  rows-read query = by held read
    where
      told : (files : Files) → ((column : ℕ) → column < length named → IsRead (Some files) head column (get_or named column false) (get_or ids column None)) → table_of segment ≡ table_read files head named
      told files read = (λ i. record { columns = map (listed (count_is i)) segment.columns.now; count = count_is i })
          ∙ (λ i. record {
            columns = all-read files head 0 named segment.columns.now lengths (λ k lt. one-read files head k (get_or named k false) (get_or ids k None) (get_or segment.columns.now k None) (read k lt) (of k lt) ∙ ap (λ m. values_read files head m (get_or named k false)) (none k)) i;
            count = head.rows;
          })
        where
          none : (k : ℕ) → k ≡ 0 + k
          none k = omega arith

      by : (held : Option Files) → ((column : ℕ) → column < length named → IsRead held head column (get_or named column false) (get_or ids column None)) → IfSome held (λ files. selected query (rows_of (table_of segment)) ≡ selected_read query files head named)
      by None read = tt
      by (Some files) read = ap (λ t. selected query (rows_of t)) (told files read)

-- what has ids is named
pub named-of : (held : Option Files) (head : Seen) (column : ℕ) (named : Bool) (ids : Option (List ℕ)) (list : List ℕ) → IsRead held head column named ids → ids ≡ Some list → named ≡ true
named-of held head column false ids list read got = absurd cc
named-of held head column true ids list read got = refl

-- too many groups with rows that the file tells
pub overfull-read : (held : Option Files) (query : BoundQuery) (head : Seen) (named : List Bool) (rows : List (List Value)) (table : KeptGroups) → IfSome held (λ files. rows ≡ selected_read query files head named) → IsOverfull query rows table
    → IfSome held (λ files. IsOverfull query (selected_read query files head named) table)
overfull-read None query head named rows table is over = tt
overfull-read (Some files) query head named rows table is over = subst (λ (l : List (List Value)). IsOverfull query l table) is over
