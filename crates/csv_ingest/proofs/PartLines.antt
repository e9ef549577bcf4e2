-- The rows of the records that the lines of a part are.
use Rattle.std.proofs.Common.{◌≡◌, ◌∙◌, ◌<◌, ◌≤◌, ◌+◌, ◌-◌, ◌*◌, ◌++◌, ◌==◌, ℕ, zero, suc, pos, List, [], ◌∷◌, length, map, drop, get_or, Bool, false, not, nat_lt, if◌then◌else◌, Option, Some, None, Result, Ok, Err, refl, sym, ap, ap₂, subst, arith, length-append}
use Rattle.std.proofs.lemmas.Bool.Decides.{nat_tests}
use Rattle.std.proofs.lemmas.List.{drop-drop, get_or-append-add, get_or-map, length-drop, length-map, length-replicate, replicate-append-replicate}
use Rattle.std.proofs.lemmas.List.Elements.{All-head, All-tail}
use Rattle.std.proofs.Math.Seq.{drop-cons}
use Rattle.std.specs.List.{All, enumerate_from}
use Rattle.csv.specs.Reading.{default_config, records_from}
use Rattle.csv.specs.declared.parser.State.TheVariants as st
use Rattle.values.proofs.RowLemmas.{length-rows}
use Rattle.values.specs.Columns.{Counts, Listed, ListedColumns, fronted, row_of, rows_in_columns}
use Rattle.values.specs.declared.value.Value.{Value}
use Rattle.values.specs.declared.value.Value.TheVariants.{Whole}
use Rattle.table_schema.specs.ValidTable.{most_rows}
use Rattle.table_schema.specs.declared.field.Field.{Field}
use Rattle.csv_row.proofs.ColumnLemmas.{widths}
use Rattle.csv_row.proofs.InOrder.{after-none, after-one}
use Rattle.csv_row.specs.Columns.{OfSorts}
use Rattle.csv_row.specs.InOrder.{after, all_or_first, joined}
use Rattle.csv_row.specs.Layouts.{IsLayout, header_of}
use Rattle.csv_row.specs.Row.{csv_limits, place_of, placed, row_at, value_at}
use Rattle.csv_row.specs.declared.fault.CsvFault.{CsvFault}
use Rattle.csv_row.specs.declared.layout.Layout.{Layout}
use Rattle.csv_ingest.specs.Blocks.{RowsOrFault, rows_from}
use Rattle.csv_ingest.specs.Kept.{Grown}
use Rattle.csv_ingest.specs.Lines.{AreLines, AtLineEnd}
use Rattle.csv_ingest.specs.Names.{number_field}
use Rattle.csv_ingest.specs.Parts.{AddsPart, IsPart, ReadsPart, field_value, line_cells, mark_at}
use Rattle.csv_ingest.specs.declared.parts.Part.{Part}
use Rattle.csv_ingest.proofs.BlockLemmas.{no-rows}
use Rattle.csv_ingest.proofs.MarkedLines.{line-record, mark-within}
use Rattle.csv_ingest.proofs.PartRows.{cells-count, end-feed, last-within, line-more}

-- ---- columns with more values at their ends

abbrev pub AllGrown : ℕ → List Listed → List Listed → Type 0
AllGrown rows old new = (k : ℕ) (d : Listed) → k < length old → Grown rows (get_or old k d) (get_or new k d)

pub sorts-grown : (rows : ℕ) (old new : List Listed) → length new ≡ length old → AllGrown rows old new → map (λ c. c.are_texts) new ≡ map (λ c. c.are_texts) old
sorts-grown rows [] [] same all = refl
sorts-grown rows [] (n ∷ ns) same all = absurd (omega (arith, same))
sorts-grown rows (o ∷ os) [] same all = absurd (omega (arith, same))
sorts-grown rows (o ∷ os) (n ∷ ns) same all =
    ap₂ ◌∷◌ (ap (λ c. c.are_texts) (all 0 o (omega arith)).new_is) (sorts-grown rows os ns (omega (arith, same)) (λ k d lt. all (suc k) d (omega (arith, lt))))

pub grown-count : (rows c : ℕ) (old new : Listed) → Grown rows old new → length old.values ≡ c → length new.values ≡ c + rows
grown-count rows c old new g is = ap (λ l. length l.values) g.new_is ∙ length-append old.values g.values ∙ ap₂ (λ a b. a + b) is g.count

length-fronted-up : (values : List Value) (rows : List (List Value)) → length rows ≤ length values → length (fronted values rows) ≡ length rows
length-fronted-up [] [] le = refl
length-fronted-up [] (r ∷ rs) le = absurd (omega (arith, le))
length-fronted-up (v ∷ vs) [] le = refl
length-fronted-up (v ∷ vs) (r ∷ rs) le = ap suc (length-fronted-up vs rs (omega (arith, le)))

fronted-longer : (values more : List Value) (rows : List (List Value)) → length rows ≤ length values → fronted (values ++ more) rows ≡ fronted values rows
fronted-longer [] [] [] le = refl
fronted-longer [] (m ∷ ms) [] le = refl
fronted-longer [] more (r ∷ rs) le = absurd (omega (arith, le))
fronted-longer (v ∷ vs) more [] le = refl
fronted-longer (v ∷ vs) more (r ∷ rs) le = ap (λ l. (v ∷ r) ∷ l) (fronted-longer vs more rs (omega (arith, le)))

-- the rows that were there are there
rows-stay : (c rows : ℕ) (old new : List Listed) → length new ≡ length old → AllGrown rows old new → All (Counts c) old → rows_in_columns c new ≡ rows_in_columns c old
rows-stay c rows [] [] same all counts = refl
rows-stay c rows [] (n ∷ ns) same all counts = absurd (omega (arith, same))
rows-stay c rows (o ∷ os) [] same all counts = absurd (omega (arith, same))
rows-stay c rows (o ∷ os) (n ∷ ns) same all counts =
    let g = all 0 o (omega arith) in
    let rest = All-tail (Counts c) o os counts in
    let head : length o.values ≡ c = All-head (Counts c) o os counts in
    ap₂ (λ l rs. fronted l.values rs) g.new_is (rows-stay c rows os ns (omega (arith, same)) (λ k d lt. all (suc k) d (omega (arith, lt))) rest)
    ∙ fronted-longer o.values g.values (rows_in_columns c os) (omega (arith, length-rows c os rest, head))

abbrev AllLonger : ℕ → List Listed → Type 0
AllLonger k columns = (j : ℕ) (d : Listed) → j < length columns → k < length (get_or columns j d).values

longer-count : (k : ℕ) (columns : List Listed) → AllLonger k columns → length (rows_in_columns k columns) ≡ k
longer-count k [] all = length-replicate k []
longer-count k (c ∷ cs) all =
    let rest = longer-count k cs (λ j d lt. all (suc j) d (omega (arith, lt))) in
    length-fronted-up c.values (rows_in_columns k cs) (omega (arith, rest, all 0 c (omega arith))) ∙ rest

fronted-next : (values : List Value) (rows : List (List Value)) (row : List Value) → length rows < length values → fronted values (rows ++ row ∷ []) ≡ fronted values rows ++ (get_or values (length rows) (Whole (pos 0)) ∷ row) ∷ []
fronted-next [] rows row lt = absurd (omega (arith, lt))
fronted-next (v ∷ vs) [] row lt = one vs
  where
    one : (vs : List Value) → fronted (v ∷ vs) (row ∷ []) ≡ (v ∷ row) ∷ []
    one [] = refl
    one (w ∷ ws) = refl
fronted-next (v ∷ vs) (r ∷ rs) row lt = ap (λ l. (v ∷ r) ∷ l) (fronted-next vs rs row (omega (arith, lt)))

-- one row more of longer columns
rows-next : (k : ℕ) (columns : List Listed) → AllLonger k columns → rows_in_columns (k + 1) columns ≡ rows_in_columns k columns ++ row_of columns k ∷ []
rows-next k [] all = sym (replicate-append-replicate k 1 [])
rows-next k (c ∷ cs) all =
    let rest : AllLonger k cs = λ j d lt. all (suc j) d (omega (arith, lt)) in
    let long = longer-count k cs rest in
    ap (fronted c.values) (rows-next k cs rest)
    ∙ fronted-next c.values (rows_in_columns k cs) (row_of cs k) (omega (arith, long, all 0 c (omega arith)))
    ∙ ap (λ n. fronted c.values (rows_in_columns k cs) ++ (get_or c.values n (Whole (pos 0)) ∷ row_of cs k) ∷ []) long

-- ---- the row of a line

-- what all give, one by one
pub all-at : {A B E : Type 0} (f : A → Result B E) (d : A) (e : B) (xs : List A) (ys : List B) → length xs ≡ length ys → ((k : ℕ) → k < length xs → f (get_or xs k d) ≡ Ok (get_or ys k e)) → all_or_first (map f xs) ≡ Ok ys
all-at f d e [] [] same each = refl
all-at f d e [] (y ∷ ys) same each = absurd (omega (arith, same))
all-at f d e (x ∷ xs) [] same each = absurd (omega (arith, same))
all-at f d e (x ∷ xs) (y ∷ ys) same each =
    ap₂ joined (each 0 (omega arith)) (all-at f d e xs ys (omega (arith, same)) (λ k lt. each (suc k) (omega (arith, lt))))

pub row-by : (many short : Bool) (much wrong : CsvFault) (given : Result (List Value) CsvFault) → many ≡ false → short ≡ false → (if many then Err much else if short then Err wrong else given) ≡ given
row-by many short much wrong given m s = rw (m, s) refl

value-of-field : (row : ℕ) (cells : List (List ℕ)) (field : Field) (place : Option ℕ) (v : Value) → field_value field place cells ≡ Ok v → value_at row cells field place ≡ Ok v
value-of-field row cells field None v is = ap Ok cc
value-of-field row cells field (Some column) v is = ap (placed row column) is

-- some field
pub a-field : Field
a-field = number_field []

no-column : Listed
no-column = record { are_texts = false; values = [] }

zero-value : Value
zero-value = Whole (pos 0)

module _ (part : Part) (is : IsPart part) (layout : Layout) (l : IsLayout layout) (width : part.width ≡ length layout.names.now) (old new : List Listed) (sorts : OfSorts layout.fields.now old)
    (adds : AddsPart part layout.fields.now layout.places.items old new) where
  abbrev fields : List Field
  fields = layout.fields.now

  abbrev header : List (List ℕ)
  header = header_of layout

  grown : AllGrown part.rows old new
  grown k d lt = let a = adds.each k d a-field lt in record { values = a.values; count = a.count; new_is = a.new_is }

  counts-all : (c : ℕ) → All (Counts c) old → All (Counts (c + part.rows)) new
  counts-all c counts k d lt =
      let below : k < length old = omega (arith, lt, adds.width) in
      grown-count part.rows c (get_or old k d) (get_or new k d) (grown k d below) (counts k d below)

  all-longer : (c r : ℕ) → All (Counts c) old → r < part.rows → AllLonger (c + r) new
  all-longer c r counts lt j d below = omega (arith, counts-all c counts j d below, lt)

  -- the row of a line
  line-row : (c r number : ℕ) → All (Counts c) old → r < part.rows → number ≤ most_rows (length fields) → row_at csv_limits fields header (number, line_cells part r) ≡ Ok (row_of new (c + r))
  line-row c r number counts lt at_most =
      let cells = line_cells part r in
      let names : length header ≡ length layout.names.now = length-map layout.names.now (λ f. f.now) in
      let count : length cells ≡ part.width = cells-count part.text.now part.places.now (r * part.step) part.width in
      let much : nat_lt (most_rows (length fields)) number ≡ false = grind (arith, nat_tests) in
      let short : not (length cells == length header) ≡ false = let same : length cells ≡ length header = count ∙ width ∙ sym names in grind (arith, nat_tests) in
      let wide : length new ≡ length fields = adds.width ∙ widths fields old sorts in
      row-by _ _ _ _ _ much short
      ∙ all-at (λ field. value_at number cells field (place_of header field)) a-field zero-value fields (row_of new (c + r)) (sym wide ∙ sym (length-map new (λ x. get_or x.values (c + r) (Whole (pos 0)))))
      (λ k below.
      let there : k < length old = omega (arith, below, wide, adds.width) in
      let a = adds.each k no-column a-field there in
      let field = get_or fields k a-field in
      let place : get_or layout.places.items k None ≡ place_of header field = ap (λ ps. get_or ps k None) l.places ∙ get_or-map (place_of header) fields k a-field None below in
      let was : length (get_or old k no-column).values ≡ c = counts k no-column there in
      let value : get_or (get_or new k no-column).values (c + r) (Whole (pos 0)) ≡ get_or a.values r (Whole (pos 0)) =
      ap (λ x. get_or x.values (c + r) (Whole (pos 0))) a.new_is ∙ ap (λ n. get_or ((get_or old k no-column).values ++ a.values) (n + r) (Whole (pos 0))) (sym was)
      ∙ get_or-append-add (get_or old k no-column).values a.values r (Whole (pos 0)) in
      ap (value_at number cells field) (sym place)
      ∙ value-of-field number cells field (get_or layout.places.items k None) (get_or a.values r (Whole (pos 0))) (a.each r lt)
      ∙ ap Ok (sym value ∙ sym (get_or-map (λ x. get_or x.values (c + r) (Whole (pos 0))) new k no-column zero-value (omega (arith, below, wide)))))

  text : List ℕ
  text = part.text.now

  abbrev left : ℕ → List ℕ
  left r = drop (get_or part.places.now (r * part.step) 0) part.text.now

  abbrev given : ℕ → ℕ → ℕ → RowsOrFault
  given before n r = rows_from before fields header (records_from default_config n st.StartRecord (left r))

  -- so many lines are rows
  some-lines : (c before n : ℕ) → All (Counts c) old → before + part.rows ≤ most_rows (length fields) → (r : ℕ) → r ≤ part.rows
      → after (rows_in_columns c old) (given before (n + part.rows) 0) ≡ after (rows_in_columns (c + r) new) (given (before + r) (n + (part.rows - r)) r)
  some-lines c before n counts room zero le =
      let stay = rows-stay c part.rows old new adds.width grown counts in
      let none : c ≡ c + 0 = omega arith in
      let first : before ≡ before + 0 = omega arith in
      let all : part.rows ≡ part.rows - 0 = omega arith in
      ap (λ rows. after rows (given before (n + part.rows) 0)) (sym stay)
      ∙ ap₂ (λ k b. after (rows_in_columns k new) (given b (n + part.rows) 0)) none first
      ∙ ap (λ k. after (rows_in_columns (c + 0) new) (given (before + 0) (n + k) 0)) all
  some-lines c before n counts room (suc r) le =
      let lt : r < part.rows = omega (arith, le) in
      let more : n + (part.rows - r) ≡ n + (part.rows - suc r) + 1 = omega (arith, le) in
      let number : 1 + (before + r) + 1 ≡ 1 + (before + suc r) = omega arith in
      let up : c + r + 1 ≡ c + suc r = omega arith in
      let end : r * part.step + part.step ≡ suc r * part.step = omega arith in
      let m = n + (part.rows - suc r) in
      let rest : List (List (List ℕ)) = records_from default_config m st.StartRecord (left (suc r)) in
      let cells = line_cells part r in
      let row = row_of new (c + r) in
      some-lines c before n counts room r (omega (arith, le))
      ∙ ap (λ k. after (rows_in_columns (c + r) new) (given (before + r) k r)) more
      ∙ ap (λ records. after (rows_in_columns (c + r) new) (rows_from (before + r) fields header records))
      (line-record part.text.now part.places.now is.marks part.width part.step (r * part.step) m is.some (is.lines r lt)
      ∙ ap (λ k. cells ∷ records_from default_config m st.StartRecord (drop (get_or part.places.now k 0) part.text.now)) end)
      ∙ after-one (rows_in_columns (c + r) new) row (row_at csv_limits fields header (1 + (before + r), cells)) (all_or_first (map (row_at csv_limits fields header) (enumerate_from (1 + (before + r) + 1) rest)))
      (line-row c r (1 + (before + r)) counts lt (omega (arith, room, lt)))
      ∙ ap₂ (λ rows k. after rows (all_or_first (map (row_at csv_limits fields header) (enumerate_from k rest)))) (sym (rows-next (c + r) new (all-longer c r counts lt)) ∙ ap (λ k. rows_in_columns k new) up) number

  -- the end of the last line
  end-is : 0 < part.rows → mark_at part.text.now part.places.now part.last ≡ 10
  end-is some =
      let r = part.rows - 1 in
      let all : r + 1 ≡ part.rows = omega (arith, some) in
      let there : r * part.step + part.step ≡ part.last = sym (line-more r part.step) ∙ ap (λ k. k * part.step) all ∙ sym is.last in
      ap (mark_at part.text.now part.places.now) (sym there) ∙ end-feed part.text.now part.places.now part.width part.step (r * part.step) (is.lines r (omega (arith, some)))

  pub reads-part : 0 < part.rows → ReadsPart fields header part.text.now old new part.rows (get_or part.places.now part.last 0)
  reads-part some =
      let within = mark-within part.text.now part.places.now is.marks part.last (last-within part is some) in
      let taken = get_or part.places.now part.last 0 in
      record {
        within = omega (arith, within);
        at_end = (drop (suc taken) part.text.now, drop-cons part.text.now taken 0 within ∙ ap (λ b. b ∷ drop (suc taken) part.text.now) (end-is some));
        sorts = sorts-grown part.rows old new adds.width grown ∙ sorts;
        counts = counts-all;
        each = λ c before n counts room.
            let none : n ≡ n + (part.rows - part.rows) = omega arith in
            let none_yet : 0 * part.step ≡ 0 = omega arith in
            let start : get_or part.places.now (0 * part.step) 0 ≡ 0 = ap (λ k. get_or part.places.now k 0) none_yet ∙ is.first in
            ap (λ t. after (rows_in_columns c old) (rows_from before fields header (records_from default_config (n + part.rows) st.StartRecord t))) (sym (ap (λ k. drop k part.text.now) start))
            ∙ some-lines c before n counts room part.rows (omega arith)
            ∙ ap₂ (λ k i. after (rows_in_columns (c + part.rows) new) (rows_from (before + part.rows) fields header (records_from default_config k st.StartRecord (drop (get_or part.places.now i 0) part.text.now)))) (sym none) (sym is.last);
      }

-- ---- the lines of a table

pub no-lines : (fields : List Field) (header : List (List ℕ)) (before : ℕ) (text : List ℕ) (columns : List Listed) (table : ListedColumns) → All (Counts 0) columns → table ≡ record { columns = columns; count = 0 }
    → AreLines fields header before text table 0
no-lines fields header before text columns table counts is =
    let given : ℕ → ℕ → RowsOrFault = λ n from. rows_from from fields header (records_from default_config n st.StartRecord text) in
    subst (λ t. AreLines fields header before text t 0) (sym is)
    (record {
      within = omega arith;
      at_end = λ e. e;
      each = λ n.
          let none : n + 0 ≡ n = omega arith in
          let same : before ≡ before + 0 = omega arith in
          ap (λ k. given k before) none ∙ after-none (given n before) ∙ ap₂ (λ rows from. after rows (given n from)) (sym (no-rows columns counts)) same;
    })

-- the first part
pub lines-first : (fields : List Field) (header : List (List ℕ)) (before : ℕ) (text : List ℕ) (old new : List Listed) (rows len : ℕ) (table : ListedColumns) → ReadsPart fields header text old new rows len → All (Counts 0) old → before + rows ≤ most_rows (length fields)
    → table ≡ record { columns = new; count = rows } → AreLines fields header before text table len
lines-first fields header before text old new rows len table r counts room is =
    let given : ℕ → RowsOrFault = λ n. rows_from before fields header (records_from default_config n st.StartRecord text) in
    subst (λ t. AreLines fields header before text t len) (sym is)
    (record {
      within = r.within;
      at_end = λ _. r.at_end;
      each = λ n.
          let rows_so : 0 + rows ≡ rows = omega arith in
          after-none (given (n + rows))
          ∙ ap (λ first. after first (given (n + rows))) (sym (no-rows old counts))
          ∙ r.each 0 before n counts room
          ∙ ap (λ k. after (rows_in_columns k new) (rows_from (before + rows) fields header (records_from default_config n st.StartRecord (drop len text)))) rows_so;
    })

-- a part more
pub lines-more : (fields : List Field) (header : List (List ℕ)) (text : List ℕ) (old new : List Listed) (c taken rows len : ℕ) → AreLines fields header 0 text (record { columns = old; count = c }) taken
    → ReadsPart fields header (drop taken text) old new rows len → All (Counts c) old → c + rows ≤ most_rows (length fields) → AreLines fields header 0 text (record { columns = new; count = c + rows }) (taken + len)
lines-more fields header text old new c taken rows len a r counts room =
    let left : drop len (drop taken text) ≡ drop (taken + len) text = drop-drop len taken text in
    record {
      within = omega (arith, a.within, r.within, length-drop taken text);
      at_end = λ _. subst AtLineEnd left r.at_end;
      each = λ n.
          let split : n + (c + rows) ≡ n + rows + c = omega arith in
          let number : 0 + c + rows ≡ 0 + (c + rows) = omega arith in
          let first : 0 + c + rows ≤ most_rows (length fields) = omega (arith, room) in
          ap (λ k. rows_from 0 fields header (records_from default_config k st.StartRecord text)) split
          ∙ a.each (n + rows)
          ∙ r.each c (0 + c) n counts first
          ∙ ap₂ (λ k t. after (rows_in_columns (c + rows) new) (rows_from k fields header (records_from default_config n st.StartRecord t))) number left;
    }
