use Rattle.std.proofs.Common.{◌≡◌, ◌∙◌, ◌+◌, ◌<◌, ◌∷◌, [], length, ap, arith, length-append}
use Rattle.state_columns.proofs.RegionLemmas.{any_default}
use Rattle.star_rows.specs.Numbers.{numbers_of}
use Rattle.star_records.proofs.BlockSteps as steps
use Rattle.star_records.proofs.blocks.zero_columns.Goals as goal

pub loop-i-preserved : goal.loop-i-preserved
loop-i-preserved c =
    let columns = c.args.columns.now in
    let i = c.loop-i.i in
    let inv = c.loop-i.invariant in
    let lt : i < length columns = omega (arith, c.loop-i-test.true, c.len-i-end.ensures) in
    let at = c.at.ensures ∙ any_default columns i (numbers_of c.at.result) [] lt in
    record {
      lengths = ap length c.in_ok-push.ensures.items
          ∙ length-append c.loop-i.zeros.items (c.are_zeros.result ∷ []) ∙ ap (λ n. n + 1) inv.lengths;
      zero = steps.zero_more c.loop-i.zeros.items c.push.new.self.items columns i c.are_zeros.result
          (numbers_of c.at.result) lt at inv.lengths inv.zero c.are_zeros.ensures c.in_ok-push.ensures.items;
    }

pub returns : goal.returns
returns c =
    let end : c.loop-i.i ≡ length c.args.columns.now =
    omega (arith, c.loop-i-test.false, c.len-i-end.ensures, c.loop-i.auto.i-end) in
    record {
      lengths = c.loop-i.invariant.lengths ∙ end;
      zero = λ k lt e. c.loop-i.invariant.zero k (omega (arith, lt, end)) e;
    }
