use Rattle.std.proofs.Common.{◌≡◌, ◌∙◌, ◌<◌, ◌-◌, ◌*◌, ◌/◌, ◌%◌, ◌^◌, ℕ, List, length, replicate, refl, sym, ap₂, arith, rules, w8}
use lib.Bits.{bit_and, and_le_r}
use lib.Lanes.{zip2, digits_l, number_l}
use Rattle.std.proofs.lemmas.Simd.{SwzOk-from_below, Each1-zip2, Each2-splat, Each1-all, length-zip2, get_or-zip2, get_or-replicate}
use Rattle.bit_column.proofs.EightSteps.{eight-lane}
use Rattle.bit_column.proofs.LaneSteps.{picked}
use Rattle.bit_column.proofs.eights.eight.Goals as goal

pub swizzle-own : goal.swizzle-own
swizzle-own c =
    let v = c.args.plan.positions in
    let small = Each1-all (λ a. bit_and a 15 < 16) (λ a. omega (arith, and_le_r a 15)) v in
    SwzOk-from_below w8 16 1 16 0 (zip2 bit_and v (replicate 16 15)) refl (omega (arith, length-zip2 bit_and v (replicate 16 15) c.requires.plan.positions.long, c.requires.plan.positions.long))
    (Each1-zip2 bit_and (λ j. j < 16) v (replicate 16 15) (Each2-splat (λ a b. bit_and a b < 16) v 16 15 small))

pub returns-clause-each : goal.returns-clause-each
returns-clause-each c i lt =
    let words : List ℕ = digits_l 65536 8 (number_l 256 (picked c.args.bytes.now c.args.at c.args.plan.positions)) in
    let factors = c.args.plan.factors in
    let down = 16 - c.args.width.bits in
    let mul : ℕ → ℕ → ℕ = λ a b. a * b % 2 ^ 16 in
    let long : length words ≡ length factors = sym c.requires.plan.factors.long in
    get_or-zip2 (λ a b. a / 2 ^ b) (zip2 mul words factors) (replicate 8 down) i 0 0 0 (omega (arith, length-zip2 mul words factors long, long, c.requires.plan.factors.long, lt)) lt
    ∙ ap₂ (λ (a b : ℕ). a / 2 ^ b) (get_or-zip2 mul words factors i 0 0 0 lt (omega (arith, c.requires.plan.factors.long, lt))) (get_or-replicate 8 i down 0 lt)
    ∙ eight-lane c.args.bytes.now c.args.at c.args.plan.bit c.args.width.bits c.args.plan.positions factors i c.requires.there c.requires.plan.bit c.requires.narrow lt (search rules) c.requires.plan.positions c.requires.plan.factors
