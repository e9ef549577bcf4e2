use Rattle.std.proofs.Common.{◌<◌, ◌∙◌, ℕ, List, length, map, get_or, sym, arith}
use Rattle.std.proofs.lemmas.Grind.{same_number_lists}
use Rattle.std.proofs.lemmas.List.{get_or-map, length-map}
use Rattle.row_ids.proofs.copying.put_at_narrow.Goals as goal

pub returns : goal.returns
returns c =
    let rows : List ℕ = c.args.rows.now in
    let id : ℕ → ℕ = λ row. get_or c.args.ids.now row 0 in
    same_number_lists c.loop-at.out (map id rows) (omega (arith, length-map rows id)) (λ k lt.
    let within : k < length rows = omega (arith, lt) in
    c.loop-at.invariant k (omega (arith, within)) ∙ sym (get_or-map id rows k 0 0 within))
