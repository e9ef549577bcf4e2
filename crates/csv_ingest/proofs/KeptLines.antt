-- The rows of lines, where some columns are not kept.
use Rattle.std.proofs.Common.{◌≡◌, ◌∙◌, ◌<◌, ℕ, suc, Bool, List, [], ◌∷◌, length, get_or, refl, sym, ap₂, subst, arith}
use Rattle.values.specs.Columns.{Listed, ListedColumns, rows_in_columns, rows_of}
use Rattle.table_schema.specs.declared.field.Field.{Field}
use Rattle.csv_row.specs.Columns.{OfSorts}
use Rattle.csv_row.specs.Layouts.{IsLayout, header_of}
use Rattle.csv_row.specs.declared.layout.Layout.{Layout}
use Rattle.csv_ingest.specs.Kept.{AreKept, HaveKept, KeepsPart, ReadsKept}
use Rattle.csv_ingest.specs.Parts.{IsPart, ReadsPart}
use Rattle.csv_ingest.specs.declared.parts.Part.{Part}
use Rattle.csv_ingest.proofs.PartLines.{grown-count, reads-part, sorts-grown}

pub kept-all : (kept : List Bool) (columns : List Listed) → HaveKept kept columns columns
kept-all kept columns = record { width = refl; each = λ i d keep. refl; counts = λ i d. refl }

-- where all are read
pub reads-all : (fields : List Field) (header : List (List ℕ)) (kept : List Bool) (text : List ℕ) (old new : List Listed) (rows taken : ℕ) → ReadsPart fields header text old new rows taken → ReadsKept fields header kept text old new rows taken
reads-all fields header kept text old new rows taken r = record { read = new; reads = r; same = kept-all kept new; sorts = r.sorts; counts = r.counts }

-- where some are passed over
pub reads-kept : (kept : List Bool) (part : Part) → IsPart part → (layout : Layout) → IsLayout layout → part.width ≡ length layout.names.now → (old new : List Listed) → OfSorts layout.fields.now old
    → KeepsPart kept part layout.fields.now layout.places.items old new → 0 < part.rows
    → ReadsKept layout.fields.now (header_of layout) kept part.text.now old new part.rows (get_or part.places.now part.last 0)
reads-kept kept part is layout l width old new sorts k some =
    let same : length new ≡ length old = k.same.width ∙ k.adds.width in
    record {
      read = k.read;
      reads = reads-part part is layout l width old k.read sorts k.adds some;
      same = k.same;
      sorts = sorts-grown part.rows old new same k.grown ∙ sorts;
      counts = λ c counts i d lt.
          let below : i < length old = omega (arith, lt, same) in
          grown-count part.rows c (get_or old i d) (get_or new i d) (k.grown i d below) (counts i d below);
    }

-- the columns of the first part
pub kept-first : (kept : List Bool) (read new : List Listed) (rows : ℕ) (table : ListedColumns) → HaveKept kept read new → table ≡ record { columns = new; count = rows } → AreKept kept (record { columns = read; count = rows }) table
kept-first kept read new rows table have is =
    subst (λ t. AreKept kept (record { columns = read; count = rows }) t) (sym is)
    (record { count = refl; same = have })

pub all-are-kept : (kept : List Bool) (columns : ListedColumns) → AreKept kept columns columns
all-are-kept kept columns = record { count = refl; same = kept-all kept columns.columns }

-- where all are kept
same-columns : (read columns : List Listed) → HaveKept [] read columns → columns ≡ read
same-columns [] [] h = refl
same-columns [] (c ∷ cs) h = absurd (omega (arith, h.width))
same-columns (r ∷ rs) [] h = absurd (omega (arith, h.width))
same-columns (r ∷ rs) (c ∷ cs) h =
    let head : c ≡ r = h.each 0 r refl in
    let tail = same-columns rs cs (record { width = omega (arith, h.width); each = λ i d keep. h.each (suc i) d refl; counts = λ i d. h.counts (suc i) d }) in
    (λ i. head i ∷ tail i)

pub same-rows : (read columns : ListedColumns) → AreKept [] read columns → rows_of columns ≡ rows_of read
same-rows read columns k = ap₂ rows_in_columns k.count (same-columns read.columns columns.columns k.same)
