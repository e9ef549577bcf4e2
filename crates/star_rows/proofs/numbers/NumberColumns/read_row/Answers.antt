use Rattle.std.proofs.Common.{◌≡◌, ◌+◌, ◌<◌, ◌∷◌, [], ℤ, suc, List, map, Some, take, slice_get, length}
use Rattle.std.proofs.Common.{get_or, pos, rules, FitsSigned, w64, sym, ap, subst, ◌∙◌, arith, length-append}
use Rattle.std.specs.Int.{cast_signed, cast_unsigned}
use Rattle.std.proofs.lemmas.Int.{to_z-of_z}
use Rattle.std.proofs.lemmas.Option.{get_or_from_slice_get}
use Rattle.state_columns.proofs.RegionLemmas.{any_default}
use Rattle.star_rows.specs.Numbers.{numbers_of}
use Rattle.star_rows.proofs.RowLemmas as rows
use Rattle.star_rows.proofs.numbers.NumberColumns.read_row.Goals as goal

pub loop-pair-preserved : goal.loop-pair-preserved
loop-pair-preserved c =
    let columns = c.args.self.now in
    let column : List ℤ = numbers_of c.at-column.result in
    let i = c.loop-pair.pair in
    let row = c.args.row in
    let number : ℤ = c.at.result in
    let fits : FitsSigned w64 number = search rules in
    let x : ℤ = cast_signed w64 (cast_unsigned w64 number) in
    let is_x : x ≡ get_or column row (pos 0) = to_z-of_z w64 number fits
    ∙ sym (get_or_from_slice_get column row number (pos 0) c.at.ensures) in
    let n : suc i ≡ i + 1 = omega arith in
    let lt : i < length columns = omega (arith, c.loop-pair-test.true, c.len-pair-end.ensures) in
    let is = c.at-column.ensures ∙ any_default columns i column [] lt in
    let in' : row < length column =
    subst (λ (c : List ℤ). row < length c) (sym is) (c.requires i [] lt) in
    let items = c.in_ok-push.ensures.items in
    record {
      items = ap (map (λ x. Some x)) items
          ∙ rows.more_items row i columns c.loop-pair.out.items x (pos 0) column is lt in'
          is_x c.loop-pair.invariant.items
          ∙ ap (λ m. map (λ (c : List ℤ). slice_get c row) (take m columns)) n;
      lengths = ap length items ∙ length-append c.loop-pair.out.items (x ∷ [])
          ∙ ap (λ m. m + 1) c.loop-pair.invariant.lengths;
    }
