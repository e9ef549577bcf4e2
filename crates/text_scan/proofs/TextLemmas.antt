-- The rows of a text, block after block, and the fault that ends them.
use Rattle.std.proofs.Common.{◌≡◌, ◌≢◌, ◌∙◌, ◌++◌, ℕ, true, List, [], Result, Ok, Err, IfErr, IsErrAnd, inl, inr, refl, sym, ap, subst, append_assoc, append-nil}
use Rattle.values.specs.declared.value.Value.{Value}
use Rattle.table_schema.specs.declared.field.Field.{Field}
use Rattle.table_schema.specs.declared.field.Schema.{Schema}
use Rattle.table_schema.specs.declared.query.BoundQuery.{BoundQuery}
use Rattle.csv_ingest.specs.Blocks.{RowsOrFault}
use Rattle.csv_row.specs.InOrder.{after}
use Rattle.csv_row.specs.Row.{csv_limits}
use Rattle.csv_ingest.specs.Rows.{number_rows_in, records_of, with_schema}
use Rattle.csv_row.specs.declared.fault.CsvFault.{CsvFault}
use Rattle.csv_row.specs.declared.fault.CsvFault.TheVariants as csv
use Rattle.sql_reply.specs.Reply.{conjuncts_reply}
use Rattle.sql_reply.specs.SqlReply.{replied, sql_reply}
use Rattle.text_scan.specs.Parts.{IsTextFault, RepliesOver}
use Rattle.text_scan.specs.TextReply.{Replies, TextReply, bare_table, rows_reply, scan_reply, text_fault, text_reply}
use Rattle.text_scan.specs.declared.fault.ScanFault.{ScanFault}
use Rattle.text_scan.specs.declared.fault.ScanFault.TheVariants.{NoMemory}

pub after-none : (whole : RowsOrFault) → whole ≡ after [] whole
after-none (Ok rows) = refl
after-none (Err wrong) = refl

pub after-more : (done rows : List (List Value)) (more : RowsOrFault) → after done (after rows more) ≡ after (done ++ rows) more
after-more done rows (Ok rest) = let regrouped : done ++ (rows ++ rest) ≡ (done ++ rows) ++ rest = rw append_assoc refl in ap Ok regrouped
after-more done rows (Err wrong) = refl

pub after-all : (done : List (List Value)) (whole more : RowsOrFault) → whole ≡ after done more → more ≡ Ok [] → whole ≡ Ok done
after-all done whole more is none = is ∙ ap (after done) none ∙ ap Ok (append-nil done)

-- ---- faults

-- the text's, where the reading stops
pub stops-by : (whole : RowsOrFault) (wrong : CsvFault) (fault : ScanFault) → fault ≡ text_fault wrong → (wrong ≢ csv.NoMemory → whole ≡ Err wrong) → IsTextFault whole fault
stops-by whole wrong fault is at = λ real. (wrong, at (λ e. real (is ∙ ap text_fault e)), is)

-- what stops later rows stops the text
pub stops-after : (done : List (List Value)) (whole more : RowsOrFault) (fault : ScanFault) → whole ≡ after done more → IsTextFault more fault → IsTextFault whole fault
stops-after done whole more fault is stops = λ real. let (wrong, at, fault_is) = stops real in (wrong, is ∙ ap (after done) at, fault_is)

-- and the query over it
text-stops : (sql : List ℕ) (fields : List Field) (whole : RowsOrFault) (fault : ScanFault) → IsTextFault whole fault → Replies (rows_reply sql (with_schema fields whole)) (Err fault)
text-stops sql fields whole fault stops = λ real. let (wrong, is, fault_is) = stops real in ap (λ w. rows_reply sql (with_schema fields w)) is ∙ ap Err (sym fault_is)

-- that of a text that has no header
pub no-rows : (sql text : List ℕ) (wrong : CsvFault) (fault : ScanFault) → fault ≡ text_fault wrong → (wrong ≢ csv.NoMemory → number_rows_in csv_limits (records_of text) ≡ Err wrong) → Replies (text_reply sql text) (Err fault)
unfolding text_reply
no-rows sql text wrong fault is at = λ real. ap (rows_reply sql) (at (λ e. real (is ∙ ap text_fault e))) ∙ ap Err (sym is)

-- a text whose rows begin with a header
pub has-rows : (sql text : List ℕ) (table : Result (Schema × List (List Value)) CsvFault) (r : TextReply) → number_rows_in csv_limits (records_of text) ≡ table → Replies (rows_reply sql table) r → Replies (text_reply sql text) r
unfolding text_reply
has-rows sql text table r is given = subst (λ t. Replies (rows_reply sql t) r) (sym is) given

-- want of memory
pub no-memory : (reply : TextReply) (fault : ScanFault) → fault ≡ NoMemory → Replies reply (Err fault)
no-memory reply fault is = λ real. absurd (real is)

-- what holds of a fault that is handed on
pub err-halted : {T E : Type 0} (r : Result T E) (P : E → Type 0) (why : E) → IsErrAnd r (λ s. s ≡ why) → P why → IfErr r P
err-halted (Ok t) P why is p = absurd is
err-halted (Err e) P why is p = subst P (sym is) p

-- ---- a query over a text whose rows, or whose first fault, are these
module _ (sql : List ℕ) (fields : List Field) (schema : Schema) (of_fields : schema ≡ record { fields = fields }) (whole : RowsOrFault) where
  pub by-rows : (rows : List (List Value)) → whole ≡ Ok rows → (r : TextReply) → Replies (scan_reply (sql_reply (bare_table schema) true sql rows)) r → Replies (rows_reply sql (with_schema fields whole)) r
  by-rows rows e r given =
      let is : Ok (schema, rows) ≡ with_schema fields whole = ap (λ s. Ok (s, rows)) of_fields ∙ ap (with_schema fields) (sym e) in
      subst (λ p. Replies (rows_reply sql p) r) is given

  pub by-over : (found : BoundQuery) → ((rows : List (List Value)) → sql_reply (bare_table schema) true sql rows ≡ replied (conjuncts_reply found rows)) → (r : TextReply)
      → RepliesOver found whole r → Replies (rows_reply sql (with_schema fields whole)) r
  by-over found so r (inl (rows, e, given)) = by-rows rows e r (subst (λ reply. Replies (scan_reply reply) r) (sym (so rows)) given)
  by-over found so (Ok text) (inr never) = absurd never
  by-over found so (Err fault) (inr stops) = text-stops sql fields whole fault stops
