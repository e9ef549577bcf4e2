use Rattle.std.proofs.Common.{◌≡◌, ◌∙◌, ℕ, sym, arith, length, get_or, pos}
use Rattle.std.proofs.lemmas.List.{ext_get_or}
use Rattle.std.proofs.lemmas.List.FromFn.{get_or-map-range_with_len, length-map-range_with_len}
use Rattle.segment_head.proofs.column_ids.put_ids.Goals as goal

pub returns : goal.returns
returns c =
    let n : ℕ = length c.args.numbers.now in
    let long = length-map-range_with_len pos 0 n in
    let same = c.loop-at.invariant.same in
    ext_get_or (pos 0) c.loop-at.numbers _ (same ∙ sym long)
    (λ k lt. c.loop-at.invariant.each k (omega (arith, lt, same, c.loop-at-test.false)) ∙ sym (get_or-map-range_with_len pos 0 n k k (pos 0) (omega (arith, lt, same)) (omega arith)))
