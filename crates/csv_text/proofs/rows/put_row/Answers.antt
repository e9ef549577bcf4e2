use Rattle.std.proofs.Common.{◌≡◌, ◌∙◌, ◌<◌, ◌+◌, ◌-◌, ℕ, List, [], length, map, take, get_or, sym, ap, subst, arith}
use Rattle.std.proofs.lemmas.List.Elements.{All-get_or}
use Rattle.csv.specs.Writing.{default_writer, row_body}
use Rattle.csv_text.specs.Cells.{IsPut, cell_texts}
use Rattle.csv_text.specs.Coded.{HasRow, values_of}
use Rattle.csv_text.specs.declared.coded.CodedColumn.{CodedColumn}
use Rattle.csv_text.proofs.CellLemmas.{cell_got, cell_placed, at_of, row_last, row_step, told_ok, written}
use Rattle.csv_text.proofs.rows.put_row.Goals as goal

pub put_cell-requires-clause-cells : goal.put_cell-requires-clause-cells
put_cell-requires-clause-cells c =
    let columns = c.args.columns.now in
    let k : ℕ = c.cells.k in
    let column = c.index-columns-k.result in
    let lt : k < length columns = omega (arith, c.cells-test.true) in
    let has = subst (HasRow c.args.row) (sym c.index-columns-k.is) (All-get_or (HasRow c.args.row) columns k column lt c.requires.row) in
    let texts : List (List ℕ) = cell_texts k (length columns) (values_of column) in
    let own = c.requires.cells.each k column c.index-cells-k.result lt (at_of columns k column lt c.index-columns-k.is) (at_of c.args.cells.now k c.index-cells-k.result (omega (arith, lt, c.requires.cells.many)) c.index-cells-k.is) in
    (texts, own, subst (λ n. n < length texts) (sym (c.at.ensures ∙ ap (λ (x : CodedColumn). get_or x.ids c.args.row 0) (sym c.index-columns-k.is))) (cell_placed k (length columns) c.args.row column has))

pub cells-preserved : goal.cells-preserved
cells-preserved c =
    let columns = c.args.columns.now in
    let row : ℕ = c.args.row in
    let k : ℕ = c.cells.k in
    let column = c.index-columns-k.result in
    let next : k + 1 < length columns = omega (arith, c.cells-test.true) in
    let lt : k < length columns = omega (arith, next) in
    let has = subst (HasRow row) (sym c.index-columns-k.is) (All-get_or (HasRow row) columns k column lt c.requires.row) in
    let texts : List (List ℕ) = cell_texts k (length columns) (values_of column) in
    let own = c.requires.cells.each k column c.index-cells-k.result lt (at_of columns k column lt c.index-columns-k.is) (at_of c.args.cells.now k c.index-cells-k.result (omega (arith, lt, c.requires.cells.many)) c.index-cells-k.is) in
    let placed = subst (λ n. n < length texts) (sym (c.at.ensures ∙ ap (λ (x : CodedColumn). get_or x.ids c.args.row 0) (sym c.index-columns-k.is))) (cell_placed k (length columns) row column has) in
    row_step row columns k column c.args.text.now.items c.cells.text.items c.put_cell.new.text.items (get_or texts c.at.result []) c.args.at c.cells.end c.in_ok-end.end next c.index-columns-k.is c.cells.invariant
    (ap (λ n. get_or texts n []) (c.at.ensures ∙ ap (λ (x : CodedColumn). get_or x.ids c.args.row 0) (sym c.index-columns-k.is)) ∙ cell_got k (length columns) row column has) (c.in_ok-end.ensures texts own placed)

pub put_cell-requires-2-clause-cells : goal.put_cell-requires-2-clause-cells
put_cell-requires-2-clause-cells c =
    let columns = c.args.columns.now in
    let k : ℕ = length columns - 1 in
    let column = c.index-columns-last.result in
    let lt : k < length columns = omega (arith, c.requires.some) in
    let has = subst (HasRow c.args.row) (sym c.index-columns-last.is) (All-get_or (HasRow c.args.row) columns k column lt c.requires.row) in
    let texts : List (List ℕ) = cell_texts k (length columns) (values_of column) in
    let own = c.requires.cells.each k column c.index-cells-last.result lt (at_of columns k column lt c.index-columns-last.is) (at_of c.args.cells.now k c.index-cells-last.result (omega (arith, lt, c.requires.cells.many)) c.index-cells-last.is) in
    (texts, own, subst (λ n. n < length texts) (sym (c.at-2.ensures ∙ ap (λ (x : CodedColumn). get_or x.ids c.args.row 0) (sym c.index-columns-last.is))) (cell_placed k (length columns) c.args.row column has))

pub returns : goal.returns
returns c =
    let columns = c.args.columns.now in
    let row : ℕ = c.args.row in
    let k : ℕ = length columns - 1 in
    let column = c.index-columns-last.result in
    let lt : k < length columns = omega (arith, c.requires.some) in
    let last : k + 1 ≡ length columns = omega (arith, c.requires.some) in
    let has = subst (HasRow row) (sym c.index-columns-last.is) (All-get_or (HasRow row) columns k column lt c.requires.row) in
    let texts : List (List ℕ) = cell_texts k (length columns) (values_of column) in
    let own = c.requires.cells.each k column c.index-cells-last.result lt (at_of columns k column lt c.index-columns-last.is) (at_of c.args.cells.now k c.index-cells-last.result (omega (arith, lt, c.requires.cells.many)) c.index-cells-last.is) in
    let placed = subst (λ n. n < length texts) (sym (c.at-2.ensures ∙ ap (λ (x : CodedColumn). get_or x.ids c.args.row 0) (sym c.index-columns-last.is))) (cell_placed k (length columns) row column has) in
    let end : c.cells.k ≡ k = omega (arith, c.cells-test.false, c.cells.auto.k-end) in
    let first : IsPut c.args.text.now.items c.args.at (row_body default_writer (map (written row) (take k columns))) c.cells.text.items c.cells.end =
    subst (λ n. IsPut c.args.text.now.items c.args.at (row_body default_writer (map (written row) (take n columns))) c.cells.text.items c.cells.end) end c.cells.invariant in
    told_ok c.put_cell-2.result
    (λ done put.
    row_last row columns k column c.args.text.now.items c.cells.text.items c.put_cell-2.new.text.items (get_or texts c.at-2.result []) c.args.at c.cells.end done last c.index-columns-last.is first
    (ap (λ n. get_or texts n []) (c.at-2.ensures ∙ ap (λ (x : CodedColumn). get_or x.ids c.args.row 0) (sym c.index-columns-last.is)) ∙ cell_got k (length columns) row column has) put)
    (c.put_cell-2.ensures texts own placed)
