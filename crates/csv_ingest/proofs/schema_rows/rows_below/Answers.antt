use Rattle.std.proofs.Common.{◌≤◌, ◌-◌, Bor, ℕ, List, IfSome, map, subst, arith}
use Rattle.csv.specs.Reading.{strip_bom}
use Rattle.csv_ingest.specs.Parts.{AddsLines}
use Rattle.csv_ingest.proofs.LineColumns.{rows-fault, rows-whole}
use Rattle.csv_ingest.proofs.schema_rows.rows_below.Goals as goal

pub new-requires : goal.new-requires
new-requires c =
    let now : Bor (List ℕ) → List ℕ = λ f. f.now in
    let layout = c.args.layout.now in
    let taken = c.in-Some.taken in
    let lines : AddsLines layout.fields.now (map now layout.names.now) c.args.text.now c.push_lines.new.columns.items c.min-room.result taken =
    subst (λ t. IfSome t (λ l. AddsLines layout.fields.now (map now layout.names.now) c.args.text.now c.push_lines.new.columns.items c.min-room.result l)) c.in-Some.is c.in_ok-taken.ensures in
    c.in-Ok.ensures.counts taken.rows lines.counts

pub returns-in-Ok-clause-ok : goal.returns-in-Ok-clause-ok
returns-in-Ok-clause-ok c =
    let now : Bor (List ℕ) → List ℕ = λ f. f.now in
    let layout = c.args.layout.now in
    let header : List (List ℕ) = map now layout.names.now in
    let taken = c.in-Some.taken in
    let held = c.push_lines.new.columns.items in
    let lines : AddsLines layout.fields.now header c.args.text.now held c.min-room.result taken =
    subst (λ t. IfSome t (λ l. AddsLines layout.fields.now header c.args.text.now held c.min-room.result l)) c.in-Some.is c.in_ok-taken.ensures in
    let some : taken.rows ≤ c.args.most = omega (arith, lines.at_most, c.min-room.ensures) in
    let left : List ℕ = c.from_place.result.now in
    rows-whole layout.fields.now header c.args.text.now held c.min-room.result c.args.most taken c.text_reader-reader.result left lines some c.requires.end c.from_place.ensures c.text_reader-reader.ensures.left
    c.push_block.new.reader c.push_block.new.columns.items c.in-Ok.added c.new.result (c.in-Ok.ensures.ok (strip_bom left) c.text_reader-reader.ensures.reads) c.new.ensures

pub returns-in-Err-clause-err : goal.returns-in-Err-clause-err
returns-in-Err-clause-err c = λ real.
    let now : Bor (List ℕ) → List ℕ = λ f. f.now in
    let layout = c.args.layout.now in
    let header : List (List ℕ) = map now layout.names.now in
    let taken = c.in-Some.taken in
    let held = c.push_lines.new.columns.items in
    let lines : AddsLines layout.fields.now header c.args.text.now held c.min-room.result taken =
    subst (λ t. IfSome t (λ l. AddsLines layout.fields.now header c.args.text.now held c.min-room.result l)) c.in-Some.is c.in_ok-taken.ensures in
    let some : taken.rows ≤ c.args.most = omega (arith, lines.at_most, c.min-room.ensures) in
    let left : List ℕ = c.from_place.result.now in
    rows-fault layout.fields.now header c.args.text.now held c.min-room.result c.args.most taken c.text_reader-reader.result left lines some c.requires.end c.from_place.ensures c.text_reader-reader.ensures.left
    c.in-Err.fault (c.in-Err.ensures.err real (strip_bom left) c.text_reader-reader.ensures.reads (c.args.most - taken.rows) (omega arith))
