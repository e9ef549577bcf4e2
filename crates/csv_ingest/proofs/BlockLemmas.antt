-- The records of a text as rows, one more at a time, after rows that were read before.
use Rattle.std.proofs.Common.{◌≡◌, ◌≢◌, ◌∙◌, ◌+◌, ◌-◌, ◌<◌, ◌≤◌, ◌++◌, ℕ, Bool, true, false, List, [], ◌∷◌, map, Result, Ok, Err, IfOk, IfErr, MatchBool, refl, ap, sym, subst, arith}
use Rattle.std.specs.List.{enumerate_from, All}
use Rattle.std.proofs.lemmas.List.{nil_from_length}
use Rattle.csv.specs.Reading.{records_from}
use Rattle.values.specs.Columns.{ListedColumns, rows_of as rows_of_columns, Counts, Listed, rows_in_columns}
use Rattle.values.proofs.RowLemmas.{length-rows}
use Rattle.values.specs.declared.value.Value.{Value}
use Rattle.table_schema.specs.declared.field.Field.{Field}
use Rattle.csv_row.specs.declared.fault.CsvFault.{CsvFault}
use Rattle.csv_row.specs.declared.fault.CsvFault.TheVariants.{NoMemory}
use Rattle.csv_ingest.specs.declared.rows.Block.{Block}
use Rattle.csv_row.specs.InOrder.{after, all_or_first}
use Rattle.csv_ingest.specs.declared.rows.Added.{Added}
use Rattle.csv_ingest.specs.Blocks.{AddsBlock, IsBlock, IsFullBlock, IsLastBlock, RowsOrFault, rows_from}
use Rattle.csv_ingest.specs.Reading.{Reads, TextReader, records_left}
use Rattle.csv_row.specs.Row.{csv_limits, row_at}
use Rattle.csv_ingest.specs.Rows.{rows_of}
use Rattle.csv_row.proofs.InOrder.{after-none, after-one}
use Rattle.csv_ingest.proofs.StepLemmas.{after-fault, after-all}

pub no-rows : (columns : List Listed) → All (Counts 0) columns → rows_in_columns 0 columns ≡ []
no-rows columns counts = nil_from_length (rows_in_columns 0 columns) (omega (arith, length-rows 0 columns counts))

no_more : (n : ℕ) → n + 0 ≡ n
no_more n = omega arith

pub begins : (fields : List Field) (header : List (List ℕ)) (before : ℕ) (reader : TextReader) (rest : List ℕ) → Reads reader rest → IsBlock fields header before 0 reader reader rest []
begins fields header before reader rest reads = record {
  left = rest;
  reads = reads;
  each = λ n. ap (λ k. rows_from before fields header (records_left k reader rest)) (no_more n)
      ∙ after-none (rows_from before fields header (records_left n reader rest))
      ∙ ap (λ k. after [] (rows_from k fields header (records_left n reader rest))) (sym (no_more before));
}

module _ (fields : List Field) (header : List (List ℕ)) (before i : ℕ) (old reader : TextReader) (rest : List ℕ) (done : List (List Value)) (b : IsBlock fields header before i old reader rest done) where
  split : (n : ℕ) → i < n → n ≡ n - (i + 1) + 1 + i
  split n lt = omega arith

  shown : (n : ℕ) → i < n → rows_from before fields header (records_left n old rest) ≡ after done (rows_from (before + i) fields header (records_left (n - (i + 1) + 1) reader b.left))
  shown n lt = ap (λ k. rows_from before fields header (records_left k old rest)) (split n lt) ∙ b.each (n - (i + 1) + 1)

  -- no record is left
  pub ends-all : ((n : ℕ) → records_left (n + 1) reader b.left ≡ []) → (n : ℕ) → i < n → rows_from before fields header (records_left n old rest) ≡ Ok done
  ends-all none n lt = shown n lt ∙ ap (λ records. after done (rows_from (before + i) fields header records)) (none (n - (i + 1))) ∙ after-all done

  module _ (new : TextReader) (left : List ℕ) (cells : List (List ℕ)) (next : (n : ℕ) → records_left (n + 1) reader b.left ≡ cells ∷ records_left n new left) where
    pub one-more : Reads new left → (row : List Value) → row_at csv_limits fields header (1 + (before + i), cells) ≡ Ok row → IsBlock fields header before (i + 1) old new rest (done ++ row ∷ [])
    one-more reads row ok = record {
      left = left;
      reads = reads;
      each = λ n.
          let count : n + (i + 1) ≡ n + 1 + i = omega arith in
          let number : 1 + (before + i) + 1 ≡ 1 + (before + (i + 1)) = omega arith in
          ap (λ k. rows_from before fields header (records_left k old rest)) count
          ∙ b.each (n + 1)
          ∙ ap (λ records. after done (rows_from (before + i) fields header records)) (next n)
          ∙ after-one done row (row_at csv_limits fields header (1 + (before + i), cells)) (all_or_first (map (row_at csv_limits fields header) (enumerate_from (1 + (before + i) + 1) (records_left n new left)))) ok
          ∙ ap (λ k. after (done ++ row ∷ []) (all_or_first (map (row_at csv_limits fields header) (enumerate_from k (records_left n new left))))) number;
    }

    pub one-fault : (fault : CsvFault) → row_at csv_limits fields header (1 + (before + i), cells) ≡ Err fault → (n : ℕ) → i < n → rows_from before fields header (records_left n old rest) ≡ Err fault
    one-fault fault bad n lt =
        shown n lt
        ∙ ap (λ records. after done (rows_from (before + i) fields header records)) (next (n - (i + 1)))
        ∙ after-fault done (row_at csv_limits fields header (1 + (before + i), cells)) (all_or_first (map (row_at csv_limits fields header) (enumerate_from (1 + (before + i) + 1) (records_left (n - (i + 1)) new left)))) fault bad

-- rows that were added to columns without any are a block
pub block-added : (fields : List Field) (header : List (List ℕ)) (before room : ℕ) (old new : TextReader) (rest : List ℕ) (held more : List Listed) (added : Added) (table : ListedColumns) → All (Counts 0) held
    → table ≡ record { columns = more; count = added.count } → AddsBlock fields header before room old new rest held more added
    → MatchBool added.last (IsLastBlock fields header before room old rest table) (IsFullBlock fields header before room old new rest table)
block-added fields header before room old new rest held more added table counts is a =
    subst (λ t. MatchBool added.last (IsLastBlock fields header before room old rest t) (IsFullBlock fields header before room old new rest t)) (sym is) (by added.last a.is)
  where
    none : 0 + added.count ≡ added.count
    none = omega arith

    same : a.rows ≡ rows_in_columns added.count more
    same = ap (λ front. front ++ a.rows) (sym (no-rows held counts)) ∙ sym (a.pushed 0 counts) ∙ ap (λ n. rows_in_columns n more) none

    by : (last : Bool)
        → MatchBool last ((added.count < room) × ((n : ℕ) → added.count < n → rows_from before fields header (records_left n old rest) ≡ Ok a.rows)) ((added.count ≡ room) × IsBlock fields header before added.count old new rest a.rows)
        → MatchBool last (IsLastBlock fields header before room old rest (record { columns = more; count = added.count })) (IsFullBlock fields header before room old new rest (record { columns = more; count = added.count }))
    by true m = record { at_most = m.0; all = λ n lt. m.1 n lt ∙ ap Ok same }
    by false m = record { full = m.0; block = subst (IsBlock fields header before added.count old new rest) same m.1 }

none_left : (n : ℕ) (reader : TextReader) (rest : List ℕ) → n ≡ 0 → records_left n reader rest ≡ []
unfolding records_from
none_left n reader rest e = ap (λ k. records_left k reader rest) e

-- rows that were added where there was room for all records are all rows
pub added-rows : (fields : List Field) (header : List (List ℕ)) (before room : ℕ) (old new : TextReader) (rest : List ℕ) (held more : List Listed) (added : Added) (a : AddsBlock fields header before room old new rest held more added)
    → rows_from before fields header (records_left room old rest) ≡ Ok a.rows
added-rows fields header before room old new rest held more added a = by added.last a.is
  where
    by : (last : Bool)
        → MatchBool last ((added.count < room) × ((n : ℕ) → added.count < n → rows_from before fields header (records_left n old rest) ≡ Ok a.rows)) ((added.count ≡ room) × IsBlock fields header before added.count old new rest a.rows)
        → rows_from before fields header (records_left room old rest) ≡ Ok a.rows
    by true m = m.1 room m.0
    by false m =
        let all : 0 + added.count ≡ room = omega (arith, m.0) in
        ap (λ k. rows_from before fields header (records_left k old rest)) (sym all)
        ∙ m.1.each 0
        ∙ ap (λ records. after a.rows (rows_from (before + added.count) fields header records)) (none_left 0 new m.1.left refl)
        ∙ after-all a.rows

-- a block with room for all records has all rows
pub whole-block : (fields : List Field) (header : List (List ℕ)) (most : ℕ) (old new : TextReader) (rest : List ℕ) (columns : ListedColumns) (last : Bool)
    → MatchBool last (IsLastBlock fields header 0 most old rest columns) (IsFullBlock fields header 0 most old new rest columns)
    → rows_of csv_limits fields header (records_left most old rest) ≡ Ok (rows_of_columns columns)
whole-block fields header most old new rest columns true b = b.all most b.at_most
whole-block fields header most old new rest columns false b =
    let all : 0 + columns.count ≡ most = omega (arith, b.full) in
    ap (λ k. rows_from 0 fields header (records_left k old rest)) (sym all)
    ∙ b.block.each 0
    ∙ ap (λ records. after (rows_of_columns columns) (rows_from (0 + columns.count) fields header records)) (none_left 0 new b.block.left refl)
    ∙ after-all (rows_of_columns columns)

-- ---- the same under other names for the fields and the header

-- what the reading of a block gives
abbrev pub ReadsBlock : List Field → List (List ℕ) → ℕ → ℕ → TextReader → TextReader → Result Block CsvFault → Type 0
ReadsBlock fields header before room old new result =
    IfOk result (λ b. (rest : List ℕ) → Reads old rest → MatchBool b.last (IsLastBlock fields header before room old rest b.columns) (IsFullBlock fields header before room old new rest b.columns))

abbrev pub RefusesBlock : List Field → List (List ℕ) → ℕ → ℕ → TextReader → Result Block CsvFault → Type 0
RefusesBlock fields header before room old result =
    IfErr result (λ fault. fault ≢ NoMemory → (rest : List ℕ) → Reads old rest → (n : ℕ) → room ≤ n → rows_from before fields header (records_left n old rest) ≡ Err fault)

pub block-under : (fields fields' : List Field) (header header' : List (List ℕ)) (before room : ℕ) (old new : TextReader) (result : Result Block CsvFault) → fields ≡ fields' → header ≡ header'
    → ReadsBlock fields header before room old new result → ReadsBlock fields' header' before room old new result
block-under fields fields' header header' before room old new result f h b =
    subst (λ (hs : List (List ℕ)). ReadsBlock fields' hs before room old new result) h (subst (λ (fs : List Field). ReadsBlock fs header before room old new result) f b)

pub fault-under : (fields fields' : List Field) (header header' : List (List ℕ)) (before room : ℕ) (old : TextReader) (result : Result Block CsvFault) → fields ≡ fields' → header ≡ header'
    → RefusesBlock fields header before room old result → RefusesBlock fields' header' before room old result
fault-under fields fields' header header' before room old result f h b =
    subst (λ (hs : List (List ℕ)). RefusesBlock fields' hs before room old result) h (subst (λ (fs : List Field). RefusesBlock fs header before room old result) f b)

-- ---- block after block

-- the last rows, where whole is what all records give
pub next-last : (fields : List Field) (header : List (List ℕ)) (before room left : ℕ) (old : TextReader) (rest : List ℕ) (columns : ListedColumns) (whole : RowsOrFault) → room ≤ left
    → IsLastBlock fields header before room old rest columns → whole ≡ rows_from before fields header (records_left left old rest) → whole ≡ after (rows_of_columns columns) (Ok [])
next-last fields header before room left old rest columns whole le b is =
    let at_most : columns.count < left = omega (arith, b.at_most, le) in
    is ∙ b.all left at_most ∙ sym (after-all (rows_of_columns columns))

-- more rows
pub next-full : (fields : List Field) (header : List (List ℕ)) (before room left : ℕ) (old new : TextReader) (rest : List ℕ) (columns : ListedColumns) (whole : RowsOrFault) → room ≤ left
    → (b : IsFullBlock fields header before room old new rest columns) → whole ≡ rows_from before fields header (records_left left old rest)
    → whole ≡ after (rows_of_columns columns) (rows_from (before + room) fields header (records_left (left - room) new b.block.left))
next-full fields header before room left old new rest columns whole le b is =
    let split : left ≡ left - room + columns.count = omega (arith, b.full, le) in
    is ∙ ap (λ k. rows_from before fields header (records_left k old rest)) split
    ∙ b.block.each (left - room)
    ∙ ap (λ k. after (rows_of_columns columns) (rows_from (before + k) fields header (records_left (left - room) new b.block.left))) b.full

-- where no record may be left
pub nothing-left : (fields : List Field) (header : List (List ℕ)) (before left : ℕ) (reader : TextReader) (rest : List ℕ) → left ≡ 0 → rows_from before fields header (records_left left reader rest) ≡ Ok []
nothing-left fields header before left reader rest e = ap (rows_from before fields header) (none_left left reader rest e)

pub at-last : (last : Bool) (P Q : Type 0) → last ≡ true → MatchBool last P Q → P
at-last true P Q e m = m
at-last false P Q e m = absurd cc

pub at-full : (last : Bool) (P Q : Type 0) → last ≡ false → MatchBool last P Q → Q
at-full true P Q e m = absurd cc
at-full false P Q e m = m
