use Rattle.std.proofs.Common.{◌≡◌, ◌∙◌, ◌++◌, ℕ, Bool, List, ap, arith}
use Rattle.coded_scan.specs.RowFilters.{all_let, passing}
use Rattle.coded_scan.proofs.AddSteps.{blocks-enough}
use Rattle.coded_scan.proofs.KeyedMerges.{passed-more}
use Rattle.coded_scan.proofs.keyed_scan.places_of.Goals as goal

pub loop-init : goal.loop-init
loop-init c = record {
  within = omega arith;
  left = blocks-enough c.args.rows.segment.now.count;
  places = c.in_ok-places.ensures.items;
}

pub loop-preserved : goal.loop-preserved
loop-preserved c =
    let holds : ℕ → Bool = λ at. all_let at c.args.rows.row_filters.now in
    let block = c.block_from-block.result in
    let from : ℕ = c.loop.from in
    record {
      within = c.block_from-block.ensures.within;
      left = omega (arith, c.block_from-block.ensures.left, c.loop.invariant.left, c.loop-test.true);
      places = c.in_ok-push_block.ensures
          ∙ ap (λ (l : List ℕ). l ++ passing holds block.from block.length) c.loop.invariant.places
          ∙ ap (λ f. passing holds 0 from ++ passing holds f block.length) c.block_from-block.ensures.from
          ∙ passed-more holds from block.length;
    }

pub returns : goal.returns
returns c =
    let holds : ℕ → Bool = λ at. all_let at c.args.rows.row_filters.now in
    let end : c.loop.from ≡ c.args.rows.segment.now.count = omega (arith, c.loop.invariant.within, c.loop.invariant.left, c.loop-test.false) in
    c.loop.invariant.places ∙ ap (λ n. passing holds 0 n) end
