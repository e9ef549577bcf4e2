use Rattle.std.proofs.Common.{◌≡◌, ◌<◌, ◌^◌, subst, arith}
use Rattle.dictionary.specs.Keys.{head}
use Rattle.dictionary.proofs.KeyLemmas.{head-step, room-left}
use Rattle.dictionary.proofs.keyed.key_of.Goals as goal

pub overflow_mul-key : goal.overflow_mul-key
overflow_mul-key c =
    let small : c.bytes.key < 256 ^ 15 = room-left c.bytes.i c.args.text.now c.bytes.key (omega arith) (λ i. (c.type_inv.text i).fits) c.bytes.invariant in
    record { fits = omega (arith, small) }

pub overflow_add-key : goal.overflow_add-key
overflow_add-key c =
    let small : c.bytes.key < 256 ^ 15 = room-left c.bytes.i c.args.text.now c.bytes.key (omega arith) (λ i. (c.type_inv.text i).fits) c.bytes.invariant in
    record { fits = omega (arith, small) }

pub bytes-preserved : goal.bytes-preserved
bytes-preserved c = head-step c.bytes.i c.args.text.now c.bytes.key c.byte_at.result c.bytes.invariant c.byte_at.ensures

pub returns : goal.returns
returns c =
    let all : c.bytes.i ≡ 16 = omega arith in
    record {
      bytes = λ i. (c.type_inv.text i).fits;
      is = subst (λ i. c.bytes.key ≡ head i c.args.text.now) all c.bytes.invariant;
    }
