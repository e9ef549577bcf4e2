-- What a scan of the columns that a query names says of the image of rows.
use Rattle.std.proofs.Common.{◌≡◌, ◌∙◌, ◌<◌, ◌≤◌, ◌+◌, ◌∷◌, [], ℕ, zero, suc, Bool, true, false, List, Option, Some, None, Result, Ok, Err, IfSome, length, map, get_or, refl, sym, ap, subst, arith}
use Rattle.std.specs.Prelude.{OnOk}
use Rattle.std.specs.List.{range_with_len}
use Rattle.std.proofs.lemmas.List.{length-map}
use Rattle.std.proofs.lemmas.List.FromFn.{length-range_with_len}
use Rattle.outside.specs.Files.{Files}
use Rattle.outside.specs.Reads.{Entry}
use Rattle.values.specs.declared.value.Value.{Value}
use Rattle.values.specs.Columns.{rows_of}
use Rattle.table_schema.specs.declared.query.BoundQuery.{BoundQuery}
use Rattle.table_schema.specs.declared.table.Table.{Table}
use Rattle.table_schema.specs.ValidTable.{IsValidTable}
use Rattle.group_table.specs.Kept.{KeptGroups}
use Rattle.scan_engine.specs.Scanned.{AddsRows, IsOverfull, selected}
use Rattle.segment_file.specs.declared.part.Part.{Part}
use Rattle.segment_file.specs.declared.part.Part.TheVariants.{Forward}
use Rattle.segment_head.specs.Heads.{IsHeadOf, Seen}
use Rattle.segment_file.specs.Ordered.{ordered}
use Rattle.column_reader.specs.Forward.{HasIds, LogsColumns}
use Rattle.segment_scan.specs.Images.{AddsWhole, ImagesRead, IsBadWhole, IsWholeOverfull}
use Rattle.segment_head.specs.Stored.{IsOfImage}
use Rattle.segment_plan.specs.Named.{AreNamedLoaded, names_in, query_names}
use Rattle.segment_scan.specs.Scans.{AddsSegment, selected_read, table_read}
use Rattle.segment_scan.proofs.AgreementLemmas.{agreeing_same}
use Rattle.segment_scan.proofs.ImageLemmas.{marked_named}

-- ---- the marks of the columns that a query names

marks_from : (p : ℕ → Bool) (from n : ℕ) (marks : List Bool) → length marks ≡ n → ((k : ℕ) → k < n → get_or marks k false ≡ p (from + k)) → marks ≡ map p (range_with_len from n)
marks_from p from zero [] lengths each = refl
marks_from p from zero (b ∷ bs) lengths each = absurd (omega (arith, lengths))
marks_from p from (suc n) [] lengths each = absurd (omega (arith, lengths))
marks_from p from (suc n) (b ∷ bs) lengths each =
    let plain : from + 0 ≡ from = omega arith in
    let next : (k : ℕ) → from + suc k ≡ from + 1 + k = (λ k. omega arith) in
    let here : b ≡ p from = each 0 (omega arith) ∙ ap p plain in
    let more : bs ≡ map p (range_with_len (from + 1) n) = marks_from p (from + 1) n bs (omega (arith, lengths)) (λ k lt. each (suc k) (omega (arith, lt)) ∙ ap p (next k)) in
    (λ i. here i ∷ more i)

pub marks_are : (query : BoundQuery) (table : Table) (named : List Bool) (count : ℕ) → count ≡ length table.schema.fields → length named ≡ count → ((column : ℕ) → column < count → get_or named column false ≡ query_names query column) → named ≡ names_in query table
marks_are query table named count is lengths each =
    let plain : (k : ℕ) → k ≡ 0 + k = (λ k. omega arith) in
    marks_from (query_names query) 0 count named lengths (λ k lt. each k lt ∙ ap (query_names query) (plain k)) ∙ ap (λ n. map (query_names query) (range_with_len 0 n)) is

names_count : (query : BoundQuery) (table : Table) → length (names_in query table) ≡ length table.schema.fields
names_count query table = length-map (range_with_len 0 (length table.schema.fields)) (query_names query) ∙ length-range_with_len 0 (length table.schema.fields)

pub marks_few : (query : BoundQuery) (table : Table) (named : List Bool) → named ≡ names_in query table → IsValidTable table → length named ≤ 65535
marks_few query table named is valid = let at_most = valid.schema.at_most in omega (arith, at_most, ap length is, names_count query table)

pub mark_named : (query : BoundQuery) (table : Table) (named : List Bool) → named ≡ names_in query table → (column : ℕ) → get_or named column false ≡ true → query_names query column ≡ true
mark_named query table named is column marked =
    let plain : 0 + column ≡ column = omega arith in
    ap (query_names query) (sym plain) ∙ marked_named (query_names query) 0 (length table.schema.fields) column (ap (λ (l : List Bool). get_or l column false) (sym is) ∙ marked)

pub logs_names : (query : BoundQuery) (table : Table) (named : List Bool) → named ≡ names_in query table → (head : Seen) (old new : Option (List Entry)) → LogsColumns head named (length named) old new → LogsColumns head (names_in query table) (length table.schema.fields) old new
logs_names query table named is head old new logs =
    subst (λ n. LogsColumns head (names_in query table) n old new) (names_count query table) (subst (λ (l : List Bool). LogsColumns head l (length l) old new) is logs)

pub ok_so : {T E : Type 0} (r : Result T E) (A B : Type 0) → (A → B) → OnOk r A → OnOk r B
ok_so (Ok x) A B f h = f h
ok_so (Err e) A B f h = tt

-- ---- on the image of rows

module _ (law : ImagesRead) (query : BoundQuery) (table : Table) (held : Option Files) (head : Seen) (valid : IsValidTable table) (of_table : IsHeadOf table head) (loaded : AreNamedLoaded query head) (named : List Bool) (is : named ≡ names_in query table) where
  pub adds_whole : (old new : KeptGroups) → AddsSegment query held head named old new → AddsWhole query table held head old new
  adds_whole old new by = record {
    added = by.rows;
    adds = by.adds;
    read = subst (λ (l : List Bool). IfSome held (λ files. by.rows ≡ selected_read query files head l)) is by.told;
    told = go held by.told;
  }
    where
      go : (told : Option Files) → IfSome told (λ files. by.rows ≡ selected_read query files head named)
          → IfSome told (λ files. (rows : List (List Value)) → IsOfImage table files rows head → (head.rows ≡ length rows) × AddsRows query (length rows) (selected query (ordered table.settings.sorted rows)) old new)
      go None rows_are = tt
      go (Some files) rows_are = λ rows of.
          let reads = law query table files rows head valid of_table loaded of in
          let same = agreeing_same query (rows_of (table_read files head (names_in query table))) (ordered table.settings.sorted rows) reads.agree in
          let read : by.rows ≡ selected_read query files head (names_in query table) = rows_are ∙ ap (λ (l : List Bool). selected_read query files head l) is in (
            reads.count,
            same.adds (length rows) old new
                (subst (λ n. AddsRows query n (selected_read query files head (names_in query table)) old new) reads.count (subst (λ (l : List (List Value)). AddsRows query head.rows l old new) read by.adds)),
          )

  pub overfull_whole : (old : KeptGroups) → IfSome held (λ files. IsOverfull query (selected_read query files head named) old) → IsWholeOverfull query table held head old
  overfull_whole old over = go held over
    where
      go : (told : Option Files) → IfSome told (λ files. IsOverfull query (selected_read query files head named) old) → IsWholeOverfull query table told head old
      go None full = tt
      go (Some files) full =
          let read : IsOverfull query (selected_read query files head (names_in query table)) old = subst (λ (l : List Bool). IsOverfull query (selected_read query files head l) old) is full in (
            read,
            λ rows of.
                let reads = law query table files rows head valid of_table loaded of in
                let same = agreeing_same query (rows_of (table_read files head (names_in query table))) (ordered table.settings.sorted rows) reads.agree in
                same.overfull old read,
          )

  pub bad_whole : (part : Part) → (column : ℕ) × (get_or named column false ≡ true) × (part ≡ Forward column) × IfSome held (λ files. ¬ HasIds files head column) → IsBadWhole query table held head part
  bad_whole part bad =
      let names : query_names query bad.0 ≡ true = mark_named query table named is bad.0 bad.1 in
      (bad.0, names, bad.2, go bad.0 names held bad.3)
    where
      go : (column : ℕ) → query_names query column ≡ true → (told : Option Files) → IfSome told (λ files. ¬ HasIds files head column) → IfSome told (λ files. (¬ HasIds files head column) × ((rows : List (List Value)) → ¬ IsOfImage table files rows head))
      go column names None none = tt
      go column names (Some files) none = (none, λ rows of. none ((law query table files rows head valid of_table loaded of).readable column names))
