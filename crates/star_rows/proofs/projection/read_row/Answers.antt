use Rattle.std.proofs.Common.{◌≡◌, ◌+◌, ◌<◌, ◌∷◌, [], suc, List, map, Some, take, slice_get, length}
use Rattle.std.proofs.Common.{sym, ap, subst, ◌∙◌, arith, length-append}
use Rattle.std.proofs.lemmas.Option.{get_or_from_slice_get}
use Rattle.star_rows.proofs.RowLemmas as rows
use Rattle.star_rows.proofs.projection.read_row.Goals as goal

pub loop-i-preserved : goal.loop-i-preserved
loop-i-preserved g c =
    let columns = c.args.columns.now in
    let column = c.as_slice-column.result.now in
    let i = c.loop-i.i in
    let row = c.args.row in
    let x = c.index-column-row.result in
    let n : suc i ≡ i + 1 = omega arith in
    let lt : i < length columns = omega (arith, c.loop-i-test.true, c.len-i-end.ensures) in
    let is = c.as_slice-column.ensures
    ∙ sym (get_or_from_slice_get columns i c.at.result.now [] c.at.ensures) in
    let in' : row < length column =
    subst (λ (c : List g.row.T.Denot). row < length c) (sym is) (c.requires i [] lt) in
    let items = c.in_ok-push.ensures.items in
    record {
      items = ap (map (λ x. Some x)) items
          ∙ rows.more_items row i columns c.loop-i.out.items x x column is lt in'
          c.index-column-row.is c.loop-i.invariant.items
          ∙ ap (λ m. map (λ (c : List g.row.T.Denot). slice_get c row) (take m columns)) n;
      lengths = ap length items ∙ length-append c.loop-i.out.items (x ∷ [])
          ∙ ap (λ m. m + 1) c.loop-i.invariant.lengths;
    }
