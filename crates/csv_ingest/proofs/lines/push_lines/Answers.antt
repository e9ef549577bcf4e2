use Rattle.std.proofs.Common.{◌≤◌, ◌+◌, ◌∙◌, Bor, List, ℕ, drop, get_or, length, map, refl, sym, subst, arith}
use Rattle.table_schema.specs.ValidTable.{most_rows}
use Rattle.csv_ingest.specs.Parts.{ReadsPart}
use Rattle.csv_ingest.proofs.PartLines.{lines-more, no-lines}
use Rattle.csv_ingest.proofs.lines.push_lines.Goals as goal

pub parts-init : goal.parts-init
parts-init c =
    let now : Bor (List ℕ) → List ℕ = λ f. f.now in
    record {
      lines = no-lines c.args.layout.now.fields.now (map now c.args.layout.now.names.now) 0 c.args.text.now c.args.columns.now.items _ c.requires.empty refl;
      counts = c.requires.empty;
      sorts = c.requires.sorts;
      at_most = omega arith;
    }

pub parts-preserved : goal.parts-preserved
parts-preserved c =
    let now : Bor (List ℕ) → List ℕ = λ f. f.now in
    let layout = c.args.layout.now in
    let fields = layout.fields.now in
    let header : List (List ℕ) = map now layout.names.now in
    let part = c.in-Some.part in
    let is = c.in-Some.ensures in
    let old = c.parts.columns.items in
    let new = c.push_part.new.columns.items in
    let s = c.parts.invariant in
    let reads = c.in_ok-push_part.ensures c.if-not-branch.false in
    let rest : List ℕ = drop c.parts.bytes c.args.text.now in
    let read : ReadsPart fields header rest old new part.rows c.len.result =
    subst (λ n. ReadsPart fields header rest old new part.rows n) (sym c.len.ensures)
    (subst (λ t. ReadsPart fields header t old new part.rows (get_or part.places.now part.last 0)) (is.text ∙ c.from_place-rest.ensures) reads) in
    let room : c.parts.rows + part.rows ≤ most_rows (length fields) = omega (arith, is.at_most, c.parts-test.true, c.requires.at_most, c.requires.layout.most) in
    record {
      lines = lines-more fields header c.args.text.now old new c.parts.rows c.parts.bytes part.rows c.len.result s.lines read s.counts room;
      counts = read.counts c.parts.rows s.counts;
      sorts = read.sorts;
      at_most = omega (arith, is.at_most, c.parts-test.true);
    }
