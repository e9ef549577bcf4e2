use Rattle.std.proofs.Common.{◌≡◌, ◌<◌, ◌-◌, take, drop, bit_and, refl, sym, subst, arith}
use lib.Count.{count_trailing_zeros}
use Rattle.csv_ingest.specs.Places.{is_separator}
use Rattle.csv_ingest.proofs.PlaceLemmas.{Taken, all_taken, block_length, less_left, none_taken, one_taken}
use Rattle.csv_ingest.proofs.marks.push_block.Goals as goal

pub bits-init : goal.bits-init
bits-init c =
    let block = take 64 (drop c.args.at c.args.text.now) in
    let long = block_length c.args.text.now c.args.at c.requires.within in
    none_taken is_separator block c.args.at c.mask_at-left.result c.args.out.now.items (omega (arith, long)) c.mask_at-left.ensures

pub overflow_add-first : goal.overflow_add-first
overflow_add-first c =
    let block = take 64 (drop c.args.at c.args.text.now) in
    let some : 0 < c.bits.left = omega (arith, c.bits-test.true) in
    let one = one_taken is_separator block c.args.at c.bits.left (count_trailing_zeros 64 c.bits.left) c.args.out.now.items c.bits.out.items some refl c.bits.invariant in
    record { fits = omega (arith, one.0, c.requires.within, c.requires.few) }

pub bits-preserved : goal.bits-preserved
bits-preserved c =
    let block = take 64 (drop c.args.at c.args.text.now) in
    let j = count_trailing_zeros 64 c.bits.left in
    let some : 0 < c.bits.left = omega (arith, c.bits-test.true) in
    let one = one_taken is_separator block c.args.at c.bits.left j c.args.out.now.items c.bits.out.items some refl c.bits.invariant in
    subst (Taken is_separator block c.args.at (bit_and c.bits.left (c.bits.left - 1)) c.args.out.now.items) (sym c.in_ok-push.ensures.items) one.1

pub bits-smaller : goal.bits-smaller
bits-smaller c = less_left c.bits.left (omega (arith, c.bits-test.true))

pub returns : goal.returns
returns c =
    let block = take 64 (drop c.args.at c.args.text.now) in
    let none : c.bits.left ≡ 0 = omega (arith, c.bits-test.false) in
    all_taken is_separator block c.args.at c.args.out.now.items c.bits.out.items
    (subst (λ left. Taken is_separator block c.args.at left c.args.out.now.items c.bits.out.items) none c.bits.invariant)
