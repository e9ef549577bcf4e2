use Rattle.std.proofs.Common.{◌≡◌, ◌∙◌, ◌≤◌, ◌+◌, ◌-◌, ℕ, [], length, take, drop, get_or, IfOk, sym, ap, subst, arith}
use Rattle.csv_text.specs.Cells.{IsPut}
use Rattle.csv_text.proofs.CellLemmas.{cell_is, cell_within, from_is, to_is}
use Rattle.csv_text.proofs.putting.put_cell.Goals as goal

pub put_part-requires-clause-order : goal.put_part-requires-clause-order
put_part-requires-clause-order c =
    let (texts, has, lt) = c.requires.cells in
    let starts = c.as_slice-starts.ensures.value in
    let order : get_or c.args.cells.now.starts.items c.args.id 0 ≤ get_or c.args.cells.now.starts.items (c.args.id + 1) 0 =
    omega (arith, from_is texts c.args.cells.now has c.args.id lt, to_is texts c.args.cells.now has c.args.id lt) in
    subst (λ l. get_or l c.args.id 0 ≤ get_or l (c.args.id + 1) 0) (sym starts) order

pub put_part-requires-clause-within : goal.put_part-requires-clause-within
put_part-requires-clause-within c =
    let (texts, has, lt) = c.requires.cells in
    subst (λ l. get_or l (c.args.id + 1) 0 + 16 ≤ length c.as_slice.result.now) (sym c.as_slice-starts.ensures.value)
    (subst (λ b. get_or c.args.cells.now.starts.items (c.args.id + 1) 0 + 16 ≤ length b) (sym c.as_slice.ensures.value) (cell_within texts c.args.cells.now has c.args.id lt))

pub returns : goal.returns
returns c = λ texts has lt.
    let cells = c.args.cells.now in
    let id : ℕ = c.args.id in
    let from : ℕ = get_or cells.starts.items id 0 in
    let to : ℕ = get_or cells.starts.items (id + 1) 0 in
    let long : to - from ≡ length (get_or texts id []) = omega (arith, from_is texts cells has id lt, to_is texts cells has id lt) in
    let own : take (to - from) (drop from cells.bytes.items) ≡ get_or texts id [] = cell_is texts cells has id lt (to - from) long in
    let starts = c.as_slice-starts.ensures.value in
    let bytes = c.as_slice.ensures.value in
    subst (λ t. IfOk c.put_part.result (IsPut c.args.text.now.items c.args.at t c.put_part.new.text.items))
    (ap (λ l. take (get_or l (id + 1) 0 - get_or l id 0) (drop (get_or l id 0) c.as_slice.result.now)) starts ∙ ap (λ b. take (to - from) (drop from b)) bytes ∙ own) c.put_part.ensures
