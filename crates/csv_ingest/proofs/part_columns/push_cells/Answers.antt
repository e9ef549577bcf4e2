use Rattle.std.proofs.Common.{◌∙◌, ◌+◌, ◌*◌, ℕ, List, ap, sym, arith}
use Rattle.csv_row.specs.Row.{cell_value}
use Rattle.csv_ingest.specs.Parts.{cell_at}
use Rattle.csv_ingest.proofs.PartRows.{adds-more, line-more}
use Rattle.csv_ingest.proofs.part_columns.push_cells.Goals as goal

pub rows-preserved : goal.rows-preserved
rows-preserved c =
    let part = c.args.part in
    let field = c.args.field.now in
    let i = c.rows._i in
    let so_far = c.rows.invariant in
    let p = c.in_ok-push_cell.ensures c.if-not-branch.false in
    let cell : ℕ → List ℕ = λ k. cell_at part.text.now part.places.now k in
    record {
      place = omega (arith, so_far.place, line-more i part.step);
      added = adds-more (λ r. cell_value field (cell (r * part.step + c.args.at))) i c.args.column.now c.rows.column c.push_cell.new.column p.value so_far.added
          (ap (λ k. cell_value field (cell k)) (sym so_far.place) ∙ p.given_is) p.new_is;
    }
