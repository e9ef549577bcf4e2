use Rattle.std.proofs.Common.{◌<◌, ◌∙◌, ◌++◌, ◌^◌, take, ap, arith, sym, refl, length}
use Rattle.coded_scan.specs.Marks.{ones}
use Rattle.coded_scan.proofs.Ones.{length-none, one-more, place-step, places-end}
use Rattle.coded_scan.proofs.marked_places.push_ones.Goals as goal

pub bounds-out-n : goal.bounds-out-n
bounds-out-n c =
    let some : 0 < c.loop-left.left = omega (arith, c.loop-left-test.true) in
    let small : c.loop-left.left < 2 ^ 64 = omega (arith, c.loop-left.invariant.small, c.ranges.word.fits) in
    omega (arith, one-more c.args.from c.loop-left.left some small, c.loop-left.invariant.count, c.requires.room, c.loop-left.auto.out)

pub loop-left-preserved : goal.loop-left-preserved
loop-left-preserved c =
    let from = c.args.from in
    let left = c.loop-left.left in
    let next = c.without_lowest-left.result in
    let some : 0 < left = omega (arith, c.loop-left-test.true) in
    let small : left < 2 ^ 64 = omega (arith, c.loop-left.invariant.small, c.ranges.word.fits) in
    let more = one-more from left some small in
    let same = ap (λ n. length (ones from 64 n)) c.without_lowest-left.ensures.value in
    record {
      count = omega (arith, more, same, c.loop-left.invariant.count);
      small = omega (arith, c.without_lowest-left.ensures.less, c.loop-left.invariant.small);
      places = place-step from left next c.loop-left.n _ c.loop-left.out _ (omega (arith, more, c.loop-left.invariant.count, c.requires.room, c.loop-left.auto.out)) refl c.without_lowest-left.ensures.value some small c.loop-left.invariant.places;
    }

pub returns-clause-count : goal.returns-clause-count
returns-clause-count c =
    omega (arith, c.loop-left.invariant.count, ap (λ n. length (ones c.args.from 64 n)) c.loop-left-test.false, length-none c.args.from)

pub returns-clause-places : goal.returns-clause-places
returns-clause-places c =
    places-end c.args.from c.loop-left.n c.loop-left.out _ (ap (λ left. take c.loop-left.n c.loop-left.out ++ ones c.args.from 64 left) (sym c.loop-left-test.false) ∙ c.loop-left.invariant.places)
