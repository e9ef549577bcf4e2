use Rattle.std.proofs.Common.{◌≡◌, ◌∙◌, ◌<◌, ◌+◌, ◌-◌, ◌*◌, ◌/◌, ◌%◌, ◌^◌, ℕ, List, length, get_or, replicate, refl, sym, ap, ap₂, arith, rules, w8}
use lib.Bits.{bit_and, and_le_r}
use lib.Lanes.{zip2, digits_l, number_l}
use Rattle.std.proofs.lemmas.Simd.{SwzOk-from_below, Each1-zip2, Each2-splat, Each1-all, length-zip2, get_or-zip2, get_or-replicate}
use Rattle.bit_column.proofs.LaneSteps.{picked}
use Rattle.bit_column.proofs.LongSteps.{long-lane}
use Rattle.bit_column.proofs.long_eights.long_eight.Goals as goal

pub swizzle-two : goal.swizzle-two
swizzle-two c =
    let v = c.args.plan.positions in
    let small = Each1-all (λ a. bit_and a 15 < 16) (λ a. omega (arith, and_le_r a 15)) v in
    SwzOk-from_below w8 16 1 16 0 (zip2 bit_and v (replicate 16 15)) refl (omega (arith, length-zip2 bit_and v (replicate 16 15) c.requires.plan.positions.long, c.requires.plan.positions.long))
    (Each1-zip2 bit_and (λ j. j < 16) v (replicate 16 15) (Each2-splat (λ a b. bit_and a b < 16) v 16 15 small))

pub swizzle-third : goal.swizzle-third
swizzle-third c =
    let v = c.args.last in
    let small = Each1-all (λ a. bit_and a 15 < 16) (λ a. omega (arith, and_le_r a 15)) v in
    SwzOk-from_below w8 16 1 16 0 (zip2 bit_and v (replicate 16 15)) refl (omega (arith, length-zip2 bit_and v (replicate 16 15) c.requires.last.long, c.requires.last.long))
    (Each1-zip2 bit_and (λ j. j < 16) v (replicate 16 15) (Each2-splat (λ a b. bit_and a b < 16) v 16 15 small))

pub returns-clause-each : goal.returns-clause-each
returns-clause-each c i lt =
    let two : List ℕ = digits_l 65536 8 (number_l 256 (picked c.args.bytes.now c.args.at c.args.plan.positions)) in
    let ends : List ℕ = digits_l 65536 8 (number_l 256 (picked c.args.bytes.now c.args.at c.args.last)) in
    let factors : List ℕ = c.args.plan.factors in
    let down = 16 - c.args.width.bits in
    let mul : ℕ → ℕ → ℕ = λ a b. a * b % 2 ^ 16 in
    let add : ℕ → ℕ → ℕ = λ a b. (a + b) % 2 ^ 16 in
    let shr : ℕ → ℕ → ℕ = λ a b. a / 2 ^ b in
    let third : List ℕ = zip2 bit_and ends (replicate 8 255) in
    let up : List ℕ = zip2 mul third factors in
    let low : List ℕ = zip2 shr up (replicate 8 8) in
    let high : List ℕ = zip2 mul two factors in
    let eight : length factors ≡ 8 = c.requires.plan.factors.long in
    let third_long : length third ≡ 8 = length-zip2 bit_and ends (replicate 8 255) refl in
    let up_long : length up ≡ 8 = length-zip2 mul third factors (third_long ∙ sym eight) ∙ third_long in
    let low_long : length low ≡ 8 = length-zip2 shr up (replicate 8 8) up_long ∙ up_long in
    let high_long : length high ≡ 8 = length-zip2 mul two factors (sym eight) in
    let sum_long : length (zip2 add high low) ≡ 8 = length-zip2 add high low (high_long ∙ sym low_long) ∙ high_long in
    let third_at : get_or third i 0 ≡ bit_and (get_or ends i 0) 255 = get_or-zip2 bit_and ends (replicate 8 255) i 0 0 0 lt lt ∙ ap (bit_and (get_or ends i 0)) (get_or-replicate 8 i 255 0 lt) in
    let up_at : get_or up i 0 ≡ mul (bit_and (get_or ends i 0) 255) (get_or factors i 0) = get_or-zip2 mul third factors i 0 0 0 (omega (arith, third_long, lt)) (omega (arith, eight, lt)) ∙ ap (λ a. mul a (get_or factors i 0)) third_at in
    let low_at : get_or low i 0 ≡ shr (mul (bit_and (get_or ends i 0) 255) (get_or factors i 0)) 8 = get_or-zip2 shr up (replicate 8 8) i 0 0 0 (omega (arith, up_long, lt)) lt ∙ ap₂ shr up_at (get_or-replicate 8 i 8 0 lt) in
    let high_at : get_or high i 0 ≡ mul (get_or two i 0) (get_or factors i 0) = get_or-zip2 mul two factors i 0 0 0 lt (omega (arith, eight, lt)) in
    let sum_at = get_or-zip2 add high low i 0 0 0 (omega (arith, high_long, lt)) (omega (arith, low_long, lt)) ∙ ap₂ add high_at low_at in
    get_or-zip2 shr (zip2 add high low) (replicate 8 down) i 0 0 0 (omega (arith, sum_long, lt)) lt
    ∙ ap₂ shr sum_at (get_or-replicate 8 i down 0 lt)
    ∙ long-lane c.args.bytes.now c.args.at c.args.plan.bit c.args.width.bits c.args.plan.positions c.args.last factors i c.requires.there c.requires.plan.bit c.requires.narrow lt (search rules) c.requires.plan.positions c.requires.last c.requires.plan.factors
