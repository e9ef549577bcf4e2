use Rattle.std.proofs.Common.{◌≡◌, ◌∙◌, ◌<◌, ◌+◌, ◌*◌, [], ℕ, List, length, take, ap, arith, subst, sym}
use native.Mathlib.Nat.{mul_assoc}
use Rattle.std.proofs.lemmas.List.{length-take-le}
use Rattle.bit_column.specs.Bits.{bits_of}
use Rattle.bit_column.specs.Unpacked.{IsFilled}
use Rattle.bit_column.proofs.Most.{AreMost, are_most-more, are_most-none, are_most-tell, greater-at, greater-long}
use Rattle.bit_column.proofs.eights.put_eights.Goals as goal

pub loop-group-init : goal.loop-group-init
loop-group-init c = record {
  filled = record { filled = λ i. [] };
  most = are_most-none c.args.count;
}

pub loop-group-preserved : goal.loop-group-preserved
loop-group-preserved c =
    let group : ℕ = c.loop-group.group in
    let width : ℕ = c.args.width.bits in
    let lanes : List ℕ = c.loop-group.most in
    let more : List ℕ = c.put_eight-lanes.result in
    let parts : 8 * group * width ≡ 8 * (group * width) = mul_assoc 8 group width in
    let next : 8 * group + 8 ≡ 8 * (group + 1) = omega arith in
    let done = c.put_eight-lanes.ensures.filled c.args.bit (omega (arith, parts, c.plan_from-plan.ensures.bit)) c.loop-group.invariant.filled in
    let put : take (8 * (group + 1)) c.put_eight-lanes.new.ids ≡ _ = ap (λ n. take n c.put_eight-lanes.new.ids) (sym next) ∙ c.put_eight-lanes.ensures.put in
    let told = c.loop-group.invariant.most in
    record {
      filled = subst (λ n. IsFilled c.args.bit width n (bits_of 8 c.args.bytes.now) c.put_eight-lanes.new.ids) next done;
      most = subst (AreMost c.args.count _) (sym put)
          (are_most-more c.args.count lanes more _ (take (8 * group) c.loop-group.ids) c.put_eight-lanes.ensures.long
          (greater-long lanes more told.long c.put_eight-lanes.ensures.long) (greater-at lanes more told.long c.put_eight-lanes.ensures.long) told);
    }

pub returns-clause-below : goal.returns-clause-below
returns-clause-below c =
    let end : c.loop-group.group ≡ c.args.groups = omega (arith, c.loop-group.auto.group-end, c.loop-group-test.false) in
    let front : List ℕ = take (8 * c.args.groups) c.loop-group.ids in
    let told : AreMost c.args.count c.loop-group.most front = subst (λ g. AreMost c.args.count c.loop-group.most (take (8 * g) c.loop-group.ids)) end c.loop-group.invariant.most in
    let long : length front ≡ 8 * c.args.groups = length-take-le (8 * c.args.groups) c.loop-group.ids (omega (arith, c.requires.room, c.loop-group.auto.ids)) in
    let some : 0 < length front = omega (arith, long, c.requires.some) in
    let tell = are_most-tell c.args.count c.loop-group.most front some told in
    (λ yes. tell.0 (c.narrow_below.ensures.0 yes), λ all. c.narrow_below.ensures.1 (tell.1 all))
