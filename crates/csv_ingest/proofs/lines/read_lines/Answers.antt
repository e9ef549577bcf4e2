use Rattle.std.proofs.Common.{◌≡◌, ◌≤◌, ◌+◌, rules, tests, Bor, List, ℕ, get_or, length, map, refl, subst, sym, arith}
use Rattle.std.specs.List.{All}
use Rattle.values.specs.Columns.{Counts}
use Rattle.table_schema.specs.ValidTable.{most_rows}
use Rattle.csv_ingest.specs.Parts.{ReadsPart}
use Rattle.csv_ingest.proofs.KeptLines.{all-are-kept, kept-first}
use Rattle.csv_ingest.proofs.PartLines.{lines-first, no-lines}
use Rattle.csv_ingest.proofs.lines.read_lines.Goals as goal

pub new-columns-requires : goal.new-columns-requires
new-columns-requires c =
    let reads = c.in_ok-push_kept.ensures c.if-branch.true in
    let rows : 0 + c.in-Some.part.rows ≡ c.in-Some.part.rows = omega arith in
    subst (λ n. All (Counts n) c.push_kept.new.columns.items) rows (reads.counts 0 c.in_ok-columns.ensures.empty)

pub returns-then-branch : goal.returns-then-branch
returns-then-branch c =
    let now : Bor (List ℕ) → List ℕ = λ f. f.now in
    let fields = c.args.layout.now.fields.now in
    let header : List (List ℕ) = map now c.args.layout.now.names.now in
    let part = c.in-Some.part in
    let is = c.in-Some.ensures in
    let old = c.in_ok-columns.columns.items in
    let k = c.in_ok-push_kept.ensures c.if-branch.true in
    let read : ReadsPart fields header c.args.text.now old k.read part.rows c.len.result =
    subst (λ n. ReadsPart fields header c.args.text.now old k.read part.rows n) (sym c.len.ensures)
    (subst (λ t. ReadsPart fields header t old k.read part.rows (get_or part.places.now part.last 0)) is.text k.reads) in
    let room : c.args.before + part.rows ≤ most_rows (length fields) = omega (arith, is.at_most, is.some, c.requires.most) in
    record {
      read = record { columns = k.read; count = part.rows };
      same = kept-first c.args.kept.now k.read c.push_kept.new.columns.items part.rows _ k.same c.new-columns.ensures;
      lines = lines-first fields header c.args.before c.args.text.now old k.read part.rows c.len.result _ read c.in_ok-columns.ensures.empty room refl;
      sorts = search (rules, tests);
      at_most = search (rules, tests);
    }

pub returns : goal.returns
returns c =
    let now : Bor (List ℕ) → List ℕ = λ f. f.now in
    record {
      read = c.new-columns-2.result;
      same = all-are-kept c.args.kept.now c.new-columns-2.result;
      lines = no-lines c.args.layout.now.fields.now (map now c.args.layout.now.names.now) c.args.before c.args.text.now c.in_ok-columns-2.columns.items _ c.in_ok-columns-2.ensures.empty c.new-columns-2.ensures;
      sorts = search (rules, tests);
      at_most = search (rules, tests);
    }
