use Rattle.std.proofs.Common.{◌≡◌, ◌≢◌, ◌∙◌, ◌+◌, ◌∷◌, ℕ, List, Err, ap}
use Rattle.csv.specs.Records.{fields_of}
use Rattle.csv_row.specs.declared.fault.CsvFault.TheVariants.{NoMemory}
use Rattle.csv_row.specs.Row.{csv_limits}
use Rattle.csv_ingest.specs.NumberBlocks.{IsNumberHeader}
use Rattle.csv_ingest.specs.Reading.{Reads, records_left}
use Rattle.csv_ingest.specs.Rows.{number_rows_in}
use Rattle.csv_ingest.proofs.NumberTextLemmas.{HeaderRead, both-ok, err-at, header-read, no-record}
use Rattle.csv_ingest.proofs.blocks.read_header.Goals as goal

pub returns-then-not-branch-clause-err : goal.returns-then-not-branch-clause-err
returns-then-not-branch-clause-err c = λ _ rest r n.
    let none = rw c.if-not-branch.true at (c.in_ok-next_record.ensures rest r) in
    ap (number_rows_in csv_limits) (none n) ∙ no-record

pub returns-clause-ok : goal.returns-clause-ok
returns-clause-ok c =
    let old = c.args.reader.now in
    let new = c.next_record.new.reader in
    let row = c.next_record.new.row in
    both-ok c.of_record.result IsNumberHeader (λ h. h.names ≡ row) (HeaderRead old new)
    (λ h is names rest r.
    let (left, reads, next) = rw c.if-not-branch.false at (c.in_ok-next_record.ensures rest r) in
    (left, reads, header-read old new rest left h (fields_of row) is (ap fields_of names) next)) c.of_record.ensures.header c.of_record.ensures.names

pub returns-clause-err : goal.returns-clause-err
returns-clause-err c =
    let old = c.args.reader.now in
    let new = c.next_record.new.reader in
    let names : List (List ℕ) = fields_of c.next_record.new.row in
    err-at c.of_record.result (λ fault. fault ≢ NoMemory → (records : List (List (List ℕ))) → number_rows_in csv_limits (names ∷ records) ≡ Err fault)
    (λ fault. fault ≢ NoMemory → (rest : List ℕ) → Reads old rest → (n : ℕ) → number_rows_in csv_limits (records_left (n + 1) old rest) ≡ Err fault)
    (λ fault bad real rest r n.
    let (left, reads, next) = rw c.if-not-branch.false at (c.in_ok-next_record.ensures rest r) in
    ap (number_rows_in csv_limits) (next n) ∙ bad real (records_left n new left)) c.of_record.ensures.err
