use Rattle.std.proofs.Common.{◌≡◌, ◌∙◌, ◌≤◌, ◌+◌, ◌-◌, ◌+ℤ◌, ◌∷◌, [], ℕ, ℤ, List, length, get_or, take, pos, ap, sym, subst, arith, to_z, of_z}
use Rattle.std.specs.Int.{w128}
use Rattle.std.proofs.lemmas.Int.{ints, to_z-of_z}
use Rattle.std.proofs.lemmas.List.{take_all, take_more}
use Rattle.agg_laws.specs.Numbers.{IsWhole, SumFits, sum_of}
use Rattle.agg_laws.specs.laws.Sums as sums
use Rattle.coded_columns.specs.Coded.{most_rows}
use Rattle.coded_columns.proofs.FoldSteps.{whole-at, whole-kept}
use Rattle.coded_columns.proofs.summing.total_of.Goals as goal

-- a sum that is kept is the sum
kept : (sum : ℤ) (n : ℕ) → n ≤ 1048576 → SumFits sum n → to_z w128 (of_z w128 sum) ≡ sum
kept sum n le fits = to_z-of_z w128 sum (sums.fits_128 sum n le fits)

pub loop-k-init : goal.loop-k-init
loop-k-init c =
    let n : ℕ = most_rows - length c.args.numbers.now in
    let same = kept c.args.sum n (omega arith) c.requires.fits in
    record {
      total = same ∙ omega (arith, ints);
      fits = subst (λ (s : ℤ). SumFits s (n + 0)) (sym same) (sums.fits_more c.args.sum n (n + 0) c.requires.fits (omega arith));
    }

pub plus-total-requires : goal.plus-total-requires
plus-total-requires c =
    sums.fits_more (to_z w128 c.loop-k.total-bits) (most_rows - length c.args.numbers.now + c.loop-k.k) most_rows c.loop-k.invariant.fits (omega (arith, c.loop-k-test.true, c.requires.at_most))

pub loop-k-preserved : goal.loop-k-preserved
loop-k-preserved c =
    let k : ℕ = c.loop-k.k in
    let numbers : List ℤ = c.args.numbers.now in
    let x : ℤ = get_or numbers k (pos 0) in
    let n : ℕ = most_rows - length numbers + k in
    let old : ℤ = to_z w128 c.loop-k.total-bits in
    let whole : IsWhole x = whole-at numbers k c.requires.whole in
    let own : c.plus-total.result ≡ old +ℤ x = c.plus-total.ensures ∙ ap (λ (w : ℤ). old +ℤ w) (whole-kept x whole) in
    let fits : SumFits c.plus-total.result (n + 1) =
    subst (λ (s : ℤ). SumFits s (n + 1)) (sym own) (sums.fits_both old x n 1 c.loop-k.invariant.fits (let w = whole in (omega (arith, ints), omega (arith, ints)))) in
    let here : to_z w128 (of_z w128 c.plus-total.result) ≡ c.plus-total.result = kept c.plus-total.result (n + 1) (omega (arith, c.loop-k-test.true, c.requires.at_most)) fits in
    let more : sum_of (take (k + 1) numbers) ≡ sum_of (take k numbers) +ℤ sum_of (x ∷ []) =
    ap sum_of (take_more numbers k (pos 0) c.loop-k-test.true) ∙ sums.of_both (take k numbers) (x ∷ []) in
    let one : sum_of (x ∷ []) ≡ x = omega (arith, ints) in
    let so = c.loop-k.invariant.total in
    let next : n + 1 ≡ most_rows - length numbers + (k + 1) = omega arith in
    record {
      total = here ∙ own ∙ omega (arith, ints, more, one, so);
      fits = subst (λ (s : ℤ). SumFits s (most_rows - length numbers + (k + 1))) (sym here) (subst (λ (j : ℕ). SumFits c.plus-total.result j) next fits);
    }

pub returns : goal.returns
returns c =
    c.loop-k.invariant.total
    ∙ ap (λ (s : ℤ). s +ℤ sum_of (take c.loop-k.k c.args.numbers.now)) (kept c.args.sum (most_rows - length c.args.numbers.now) (omega arith) c.requires.fits)
    ∙ ap (λ (ns : List ℤ). c.args.sum +ℤ sum_of ns) (take_all c.loop-k.k c.args.numbers.now (omega (arith, c.loop-k-test.false)))
