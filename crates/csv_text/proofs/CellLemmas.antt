-- What is written of values, one after the other, and of it in a text.
use Rattle.std.proofs.Common.{◌≡◌, ◌∙◌, ◌<◌, ◌≤◌, ◌+◌, ◌&&◌, ◌==◌, ℕ, zero, suc, Bool, true, false, List, [], ◌∷◌, ◌++◌, length, map, take, drop, get_or, nat_lt, pos, Some, slice_get, Result, Ok, Err, IfOk, All, refl, sym, ap, subst, arith, append_assoc, length-append}
use Rattle.std.specs.Prelude.{if◌then◌else◌}
use Rattle.std.proofs.lemmas.Bool.{eq-eqb, le-ltb, ltb-true, ltb-false, ne_eqb}
use Rattle.std.proofs.lemmas.Grind.{flat_map-append}
use Rattle.std.proofs.lemmas.List.{append-nil, get_or-map, get_or_at, length-map, length-take-le, length_push, map-append, take-append-drop, take-take, take_all, take_more}
use Rattle.std.proofs.lemmas.List.Elements.{All-get_or, All-map, All-weaker}
use Rattle.std.proofs.lemmas.Option.{get_or_from_slice_get, slice_get-get_or}
use Rattle.std.proofs.lemmas.Simd.{length-chunk, map-map, take_more_put_chunk}
use lib.Lanes.{chunk, put_chunk}
use Rattle.std.proofs.Math.ListN.{get_or-append}
use Rattle.std.proofs.Math.Seq.{drop-append_seam, take-append_seam}
use Rattle.csv.specs.Writing.{default_writer, field_text, is_blank, next_sep, row_body, row_text}
use Rattle.values.specs.Columns.{Counts, Listed, row_of}
use Rattle.values.specs.Printed.{text_of}
use Rattle.values.specs.declared.value.Value.{Value}
use Rattle.values.specs.declared.value.Value.TheVariants.{Whole}
use Rattle.csv_text.specs.Cells.{AreCells, HasCells, IsPut, cell_text, cell_texts, joined}
use Rattle.csv_text.specs.Coded.{HasRow, IsCodedColumn, listed, values_of}
use Rattle.csv_text.specs.Rows.{end_of, records_text}
use Rattle.csv_text.specs.declared.cells.Cells.{Cells}
use Rattle.csv_text.specs.declared.coded.CodedColumn.{CodedColumn}
use Rattle.csv_text.proofs.Records.{fields_done, records_more}

-- ---- texts one after the other

joined-append : (xs ys : List (List ℕ)) → joined (xs ++ ys) ≡ joined xs ++ joined ys
joined-append xs ys = flat_map-append (λ text. text) xs ys

-- one more text
pub joined_more : (texts : List (List ℕ)) (k : ℕ) → k < length texts → joined (take (k + 1) texts) ≡ joined (take k texts) ++ get_or texts k []
joined_more texts k lt =
    ap joined (take_more texts k [] lt) ∙ joined-append (take k texts) (get_or texts k [] ∷ [])
    ∙ ap (λ t. joined (take k texts) ++ t) (append-nil (get_or texts k []))

pub long_more : (texts : List (List ℕ)) (k : ℕ) → k < length texts → length (joined (take (k + 1) texts)) ≡ length (joined (take k texts)) + length (get_or texts k [])
long_more texts k lt = ap length (joined_more texts k lt) ∙ length-append (joined (take k texts)) (get_or texts k [])

-- a text among them, what stands before it and what after it
pub record Around (texts : List (List ℕ)) (k : ℕ) (rest : List ℕ) : Type 0 where
  pub after : List ℕ
  pub is : joined texts ++ rest ≡ joined (take k texts) ++ (get_or texts k [] ++ (after ++ rest))

pub around : (texts : List (List ℕ)) (k : ℕ) (rest : List ℕ) → k < length texts → Around texts k rest
around [] k rest lt = absurd (omega (arith, lt))
around (t ∷ texts) zero rest lt = record { after = joined texts; is = append_assoc t (joined texts) rest }
around (t ∷ texts) (suc k) rest lt =
    let own = around texts k rest (omega (arith, lt)) in
    record {
      after = own.after;
      is = append_assoc t (joined texts) rest ∙ ap (λ l. t ++ l) own.is ∙ sym (append_assoc t (joined (take k texts)) (get_or texts k [] ++ (own.after ++ rest)));
    }

-- ---- the cells of a column

module _ (texts : List (List ℕ)) (cells : Cells) (has : HasCells texts cells) (k : ℕ) (lt : k < length texts) where
  pub from_is : get_or cells.starts.items k 0 ≡ length (joined (take k texts))
  from_is = has.starts_are k (omega (arith, lt))

  pub to_is : get_or cells.starts.items (k + 1) 0 ≡ length (joined (take k texts)) + length (get_or texts k [])
  to_is = has.starts_are (k + 1) (omega (arith, lt)) ∙ long_more texts k lt

  pub cell_there : drop (get_or cells.starts.items k 0) cells.bytes.items ≡ get_or texts k [] ++ ((around texts k has.rest lt).after ++ has.rest)
  cell_there =
      let own = around texts k has.rest lt in
      ap (λ n. drop n cells.bytes.items) from_is ∙ ap (drop (length (joined (take k texts)))) (has.bytes_are ∙ own.is)
      ∙ drop-append_seam (joined (take k texts)) (get_or texts k [] ++ (own.after ++ has.rest))

  pub cell_is : (n : ℕ) → n ≡ length (get_or texts k []) → take n (drop (get_or cells.starts.items k 0) cells.bytes.items) ≡ get_or texts k []
  cell_is n is =
      let own = around texts k has.rest lt in
      ap (take n) cell_there ∙ ap (λ m. take m (get_or texts k [] ++ (own.after ++ has.rest))) is ∙ take-append_seam (get_or texts k []) (own.after ++ has.rest)

  pub cells_long : length cells.bytes.items ≡ length (joined (take k texts)) + (length (get_or texts k []) + (length (around texts k has.rest lt).after + length has.rest))
  cells_long =
      let own = around texts k has.rest lt in
      ap length (has.bytes_are ∙ own.is) ∙ length-append (joined (take k texts)) (get_or texts k [] ++ (own.after ++ has.rest))
      ∙ ap (λ n. length (joined (take k texts)) + n) (length-append (get_or texts k []) (own.after ++ has.rest) ∙ ap (λ n. length (get_or texts k []) + n) (length-append own.after has.rest))

  pub cell_within : get_or cells.starts.items (k + 1) 0 + 16 ≤ length cells.bytes.items
  cell_within = omega (arith, cells_long, to_is, has.chunk)

-- ---- the cells of a column, one after the other

-- the first so many
pub record Begun (texts : List (List ℕ)) (at : ℕ) (bytes starts : List ℕ) : Type 0 where
  pub bytes_are : bytes ≡ joined (take at texts)
  pub count : length starts ≡ at
  pub starts_are : (k : ℕ) → k < at → get_or starts k 0 ≡ length (joined (take k texts))

starts_more : (texts : List (List ℕ)) (at : ℕ) (bytes starts more : List ℕ) → Begun texts at bytes starts → more ≡ starts ++ length bytes ∷ [] → (k : ℕ) → k < at + 1 → get_or more k 0 ≡ length (joined (take k texts))
starts_more texts at bytes starts more begun is k lt =
    elim (nat_lt k at) as (λ b. nat_lt k at ≡ b → get_or more k 0 ≡ length (joined (take k texts))) [
      | true ↦ λ t.
          let before : k < at = ltb-true k at t in
          ap (λ l. get_or l k 0) is ∙ get_or-append starts (length bytes ∷ []) 0 k (omega (arith, before, begun.count)) ∙ begun.starts_are k before
      | false ↦ λ t.
          let past : at ≤ k = ltb-false k at t in
          let here : at ≡ k = omega (arith, past, lt) in
          ap (λ l. get_or l k 0) is ∙ get_or_at starts (length bytes) [] 0 k (begun.count ∙ here) ∙ ap length begun.bytes_are ∙ ap (λ n. length (joined (take n texts))) here
    ] refl

pub begun_more : (texts : List (List ℕ)) (at : ℕ) (bytes starts bytes' starts' : List ℕ) → at < length texts → Begun texts at bytes starts → starts' ≡ starts ++ length bytes ∷ [] → bytes' ≡ bytes ++ get_or texts at [] → Begun texts (at + 1) bytes' starts'
begun_more texts at bytes starts bytes' starts' lt begun one more = record {
  bytes_are = more ∙ ap (λ l. l ++ get_or texts at []) begun.bytes_are ∙ sym (joined_more texts at lt);
  count = ap length one ∙ length_push starts (length bytes) ∙ ap (λ n. n + 1) begun.count;
  starts_are = starts_more texts at bytes starts starts' begun one;
}

pub begun_all : (texts : List (List ℕ)) (at : ℕ) (bytes starts rest : List ℕ) (cells : Cells) → at ≡ length texts → Begun texts at bytes starts → cells.starts.items ≡ starts ++ length bytes ∷ [] → cells.bytes.items ≡ bytes ++ rest → 16 ≤ length rest → HasCells texts cells
begun_all texts at bytes starts rest cells all begun one more long = record {
  rest = rest;
  bytes_are = more ∙ ap (λ l. l ++ rest) (begun.bytes_are ∙ ap joined (take_all at texts (omega (arith, all))));
  chunk = long;
  count = ap length one ∙ length_push starts (length bytes) ∙ ap (λ n. n + 1) (begun.count ∙ all);
  starts_are = λ k le. starts_more texts at bytes starts cells.starts.items begun one k (omega (arith, le, all));
}

-- ---- a cell in a record

-- one that another follows
pub cell_more : (at width : ℕ) (bytes : List ℕ) → at + 1 < width → cell_text at width bytes ≡ next_sep default_writer at ++ field_text default_writer bytes
cell_more at width bytes lt =
    let F : List ℕ = field_text default_writer bytes in
    ap (λ b. next_sep default_writer at ++ (F ++ (if b then end_of (nat_lt width 2 && (length F == 0)) else []))) (ne_eqb (at + 1) width (λ e. omega (arith, lt, e)))
    ∙ ap (λ t. next_sep default_writer at ++ t) (append-nil F)

-- the last one
pub cell_last : (at width : ℕ) (bytes : List ℕ) → at + 1 ≡ width
    → cell_text at width bytes ≡ next_sep default_writer at ++ (field_text default_writer bytes ++ end_of (nat_lt width 2 && (length (field_text default_writer bytes) == 0)))
cell_last at width bytes is =
    let F : List ℕ = field_text default_writer bytes in
    ap (λ b. next_sep default_writer at ++ (F ++ (if b then end_of (nat_lt width 2 && (length F == 0)) else []))) (eq-eqb (at + 1) width is)

-- whether a record of one more field shows no byte
pub blank_end : (fs : List (List ℕ)) (f : List ℕ) → is_blank default_writer (fs ++ f ∷ []) ≡ (nat_lt (length fs + 1) 2 && (length (field_text default_writer f) == 0))
unfolding is_blank
blank_end [] f = refl
blank_end (g ∷ []) f = refl
blank_end (g ∷ h ∷ fs) f = sym (ap (λ b. b && (length (field_text default_writer f) == 0)) (le-ltb (length (g ∷ h ∷ fs) + 1) 2 (omega arith)))

-- ---- what was put

pub put_none : (old : List ℕ) (at : ℕ) → at ≤ length old → IsPut old at [] old at
put_none old at le = record { within = le; text_is = sym (append-nil (take at old)) }

-- one after the other
pub put_then : (old mid new a b c : List ℕ) (at m end : ℕ) → IsPut old at a mid m → IsPut mid m b new end → c ≡ a ++ b → IsPut old at c new end
put_then old mid new a b c at m end first second is = record {
  within = second.within;
  text_is = second.text_is ∙ ap (λ l. l ++ b) first.text_is ∙ append_assoc (take at old) a b ∙ ap (λ l. take at old ++ l) (sym is);
}

-- ---- a chunk

taken_more : (p c : List ℕ) (n m : ℕ) → n ≤ length c → m ≡ length p + n → take m (p ++ c) ≡ p ++ take n c
taken_more p c n m le is =
    let q : List ℕ = p ++ take n c in
    let long : m ≡ length q = omega (arith, is, length-append p (take n c), length-take-le n c le) in
    let split : p ++ c ≡ q ++ drop n c = ap (λ l. p ++ l) (sym (take-append-drop n c)) ∙ sym (append_assoc p (take n c) (drop n c)) in
    ap (λ k. take k (p ++ c)) long ∙ ap (take (length q)) split ∙ take-append_seam q (drop n c)

-- a chunk that was put, as far as it is wanted
pub taken_chunk : (bytes text : List ℕ) (from at n : ℕ) → n ≤ 16 → from + 16 ≤ length bytes → at + 16 ≤ length text → take (at + n) (put_chunk at text (chunk from 16 bytes)) ≡ take at text ++ take n (drop from bytes)
taken_chunk bytes text from at n le there room =
    let C : List ℕ = chunk from 16 bytes in
    let long : length C ≡ 16 = length-chunk from 16 bytes there in
    let X : List ℕ = put_chunk at text C in
    let whole : take (at + 16) X ≡ take at text ++ C = take_more_put_chunk at text C (at + 16) (omega (arith, long)) room in
    let first : length (take at text) ≡ at = length-take-le at text (omega (arith, room)) in
    sym (take-take (at + n) (at + 16) X (omega (arith, le))) ∙ ap (take (at + n)) whole
    ∙ taken_more (take at text) C n (at + n) (omega (arith, le, long)) (omega (arith, first))
    ∙ ap (λ l. take at text ++ l) (take-take n 16 (drop from bytes) le)

-- ---- a row

-- what is written of a row in a column
abbrev pub written : ℕ → CodedColumn → List ℕ
written row column = text_of (get_or (listed column).values row (Whole (pos 0)))

-- the value's own cell
pub cell_placed : (at width row : ℕ) (column : CodedColumn) → HasRow row column → get_or column.ids row 0 < length (cell_texts at width (values_of column))
cell_placed at width row column has =
    let lt : get_or column.ids row 0 < length (values_of column) = All-get_or (λ id. id < length (values_of column)) column.ids row 0 has.within has.below in
    omega (arith, lt, length-map (values_of column) (λ v. cell_text at width (text_of v)))

pub cell_got : (at width row : ℕ) (column : CodedColumn) → HasRow row column → get_or (cell_texts at width (values_of column)) (get_or column.ids row 0) [] ≡ cell_text at width (written row column)
cell_got at width row column has =
    let values : List Value = values_of column in
    let ids : List ℕ = column.ids in
    let lt : get_or ids row 0 < length values = All-get_or (λ id. id < length values) ids row 0 has.within has.below in
    get_or-map (λ v. cell_text at width (text_of v)) values (get_or ids row 0) (Whole (pos 0)) [] lt
    ∙ ap (λ v. cell_text at width (text_of v)) (sym (get_or-map (λ id. get_or values id (Whole (pos 0))) ids row 0 (Whole (pos 0)) has.within))

-- one more field
pub body_step : (f : CodedColumn → List ℕ) (columns : List CodedColumn) (k : ℕ) (column : CodedColumn) → k < length columns → column ≡ get_or columns k column
    → row_body default_writer (map f (take (k + 1) columns)) ≡ row_body default_writer (map f (take k columns)) ++ (next_sep default_writer k ++ field_text default_writer (f column))
body_step f columns k column lt is =
    let A : List ℕ = row_body default_writer (map f (take k columns)) in
    let S : List ℕ = next_sep default_writer k in
    let F : List ℕ = field_text default_writer (f column) in
    sym (sym (append_assoc A S F) ∙ fields_done f columns k column [] A (A ++ S) ((A ++ S) ++ F) lt is refl refl refl)

pub row_step : (row : ℕ) (columns : List CodedColumn) (k : ℕ) (column : CodedColumn) (old mid new cell : List ℕ) (at m end : ℕ) → k + 1 < length columns → column ≡ get_or columns k column
    → IsPut old at (row_body default_writer (map (written row) (take k columns))) mid m → cell ≡ cell_text k (length columns) (written row column) → IsPut mid m cell new end
    → IsPut old at (row_body default_writer (map (written row) (take (k + 1) columns))) new end
row_step row columns k column old mid new cell at m end lt is first same second =
    let A : List ℕ = row_body default_writer (map (written row) (take k columns)) in
    put_then old mid new A cell (row_body default_writer (map (written row) (take (k + 1) columns))) at m end first second
    (body_step (written row) columns k column (omega (arith, lt)) is ∙ ap (λ t. A ++ t) (sym (same ∙ cell_more k (length columns) (written row column) lt)))

-- the fields of a row
row_written : (row : ℕ) (columns : List CodedColumn) → map text_of (row_of (map listed columns) row) ≡ map (written row) columns
row_written row columns =
    ap (map text_of) (map-map (λ (l : Listed). get_or l.values row (Whole (pos 0))) listed columns)
    ∙ map-map text_of (λ (c : CodedColumn). get_or (listed c).values row (Whole (pos 0))) columns

-- the last field
pub row_last : (row : ℕ) (columns : List CodedColumn) (k : ℕ) (column : CodedColumn) (old mid new cell : List ℕ) (at m end : ℕ) → k + 1 ≡ length columns → column ≡ get_or columns k column
    → IsPut old at (row_body default_writer (map (written row) (take k columns))) mid m → cell ≡ cell_text k (length columns) (written row column) → IsPut mid m cell new end
    → IsPut old at (row_text default_writer (map text_of (row_of (map listed columns) row))) new end
row_last row columns k column old mid new cell at m end last is first same second =
    let f : CodedColumn → List ℕ = written row in
    let A : List ℕ = row_body default_writer (map f (take k columns)) in
    let S : List ℕ = next_sep default_writer k in
    let F : List ℕ = field_text default_writer (f column) in
    let blank : Bool = nat_lt (length columns) 2 && (length F == 0) in
    let lt : k < length columns = omega (arith, last) in
    let all : take (k + 1) columns ≡ columns = take_all (k + 1) columns (omega (arith, last)) in
    let body : row_body default_writer (map f columns) ≡ A ++ (S ++ F) = ap (λ cs. row_body default_writer (map f cs)) (sym all) ∙ body_step f columns k column lt is in
    let parts : map f columns ≡ map f (take k columns) ++ f column ∷ [] =
    ap (map f) (sym all ∙ take_more columns k column lt ∙ ap (λ c. take k columns ++ c ∷ []) (sym is)) ∙ map-append f (take k columns) (column ∷ []) in
    let count : length (map f (take k columns)) + 1 ≡ length columns = omega (arith, length-map (take k columns) f, length-take-le k columns (omega (arith, lt)), last) in
    let shows : is_blank default_writer (map f columns) ≡ blank =
    ap (is_blank default_writer) parts ∙ blank_end (map f (take k columns)) (f column) ∙ ap (λ n. nat_lt n 2 && (length F == 0)) count in
    let whole : row_text default_writer (map f columns) ≡ A ++ cell =
    ap (λ b. row_body default_writer (map f columns) ++ end_of b) shows ∙ ap (λ t. t ++ end_of blank) body ∙ append_assoc A (S ++ F) (end_of blank) ∙ ap (λ t. A ++ t) (append_assoc S F (end_of blank))
    ∙ ap (λ t. A ++ t) (sym (same ∙ cell_last k (length columns) (f column) last)) in
    put_then old mid new A cell (row_text default_writer (map text_of (row_of (map listed columns) row))) at m end first second (ap (row_text default_writer) (row_written row columns) ∙ whole)

-- ---- rows

-- as many values in each column
pub counts_of : (rows : ℕ) (columns : List CodedColumn) → All (IsCodedColumn rows) columns → All (Counts rows) (map listed columns)
counts_of rows columns coded =
    All-map (Counts rows) listed columns
    (All-weaker (IsCodedColumn rows) (λ c. Counts rows (listed c)) (λ c is. length-map c.ids (λ id. get_or (values_of c) id (Whole (pos 0))) ∙ is.count) columns coded)

-- one more record
pub records_step : (rows : List (List Value)) (at : ℕ) (row : List Value) → slice_get rows at ≡ Some row → records_text (take (at + 1) rows) ≡ records_text (take at rows) ++ row_text default_writer (map text_of row)
records_step rows at row got =
    let A : List ℕ = records_text (take at rows) in
    sym (records_more rows at row [] A (A ++ row_text default_writer (map text_of row)) got refl refl)

-- ---- columns

pub at_of : {A : Type 0} (xs : List A) (k : ℕ) (x : A) → k < length xs → x ≡ get_or xs k x → slice_get xs k ≡ Some x
at_of xs k x lt is = slice_get-get_or xs k x lt ∙ ap Some (sym is)

-- what follows where a call ended well
pub told_ok : {E : Type 0} {T : Type 0} {P Q : T → Type 0} (result : Result T E) → ((t : T) → P t → Q t) → IfOk result P → IfOk result Q
told_ok (Ok t) f p = f t p
told_ok (Err why) f p = tt

-- the cells of one more column
pub cells_more : (columns : List CodedColumn) (at : ℕ) (column : CodedColumn) (cells new : List Cells) (own : Cells) → at < length columns → column ≡ get_or columns at column → AreCells columns at cells → new ≡ cells ++ own ∷ []
    → HasCells (cell_texts at (length columns) (values_of column)) own → AreCells columns (at + 1) new
cells_more columns at column cells new own lt is are one has = record {
  many = ap length one ∙ length_push cells own ∙ ap (λ n. n + 1) are.many;
  each = λ k other mine le got there.
      elim (nat_lt k at) as (λ b. nat_lt k at ≡ b → HasCells (cell_texts k (length columns) (values_of other)) mine) [
        | true ↦ λ t.
            let before : k < at = ltb-true k at t in
            let within : k < length cells = omega (arith, before, are.many) in
            let same : get_or cells k mine ≡ mine = sym (get_or-append cells (own ∷ []) mine k within) ∙ ap (λ l. get_or l k mine) (sym one) ∙ get_or_from_slice_get new k mine mine there in
            are.each k other mine before got (slice_get-get_or cells k mine within ∙ ap Some same)
        | false ↦ λ t.
            let past : at ≤ k = ltb-false k at t in
            let here : k ≡ at = omega (arith, past, le) in
            let end : length cells ≡ k = omega (arith, are.many, here) in
            let mine_is : own ≡ mine = sym (get_or_at cells own [] mine k end) ∙ ap (λ l. get_or l k mine) (sym one) ∙ get_or_from_slice_get new k mine mine there in
            let other_is : column ≡ other = is ∙ ap (λ n. get_or columns n column) (sym here) ∙ get_or_from_slice_get columns k other column got in
            subst (λ n. HasCells (cell_texts n (length columns) (values_of other)) mine) (sym here)
            (subst (λ (c : CodedColumn). HasCells (cell_texts at (length columns) (values_of c)) mine) other_is (subst (HasCells (cell_texts at (length columns) (values_of column))) mine_is has))
      ] refl;
}
