use Rattle.std.proofs.Common.{◌≡◌, ◌++◌, [], arith, ap, ◌∙◌, ◌-◌, take}
use Rattle.std.proofs.lemmas.List.{take_all}
use Rattle.bit_column.specs.Bits.{bits, bits_of}
use Rattle.bit_column.proofs.Pushed.{begins-itself, last-pushed, none-pushed}
use Rattle.bit_column.proofs.writing.push_ids.Goals as goal

pub loop-id-init : goal.loop-id-init
unfolding bits
loop-id-init c = record {
  bits = ap (λ xs. bits_of 8 xs ++ []) c.reserve.ensures.items;
  kept = begins-itself c.args.out.now.items c.reserve.new.self.items c.reserve.ensures.items;
  at_most = omega arith;
}

pub returns-in_ok-push-clause-bits : goal.returns-in_ok-push-clause-bits
returns-in_ok-push-clause-bits c =
    let left = c.in_ok-left.left in
    let ids = c.args.ids.now in
    let all : take c.loop-id.id-index ids ≡ ids = take_all c.loop-id.id-index ids (omega arith) in
    let old = c.args.out.now.items in
    let out = c.push_bytes.new.out.items in
    let byte = c.last_byte.result in (
      8 - left,
      omega arith,
      ap (bits_of 8) c.in_ok-push.ensures.items
          ∙ last-pushed old out ids c.args.width.bits left c.loop-id.window byte (c.in_ok-left.ensures.bits ∙ c.loop-id.invariant.bits ∙ ap (λ xs. bits_of 8 old ++ bits_of c.args.width.bits xs) all) c.last_byte.ensures,
    )

pub returns-else-left-gt0-clause-bits : goal.returns-else-left-gt0-clause-bits
returns-else-left-gt0-clause-bits c =
    let ids = c.args.ids.now in
    let all : take c.loop-id.id-index ids ≡ ids = take_all c.loop-id.id-index ids (omega arith) in
    let old = c.args.out.now.items in (
      0,
      omega arith,
      none-pushed old c.push_bytes.new.out.items ids c.args.width.bits c.in_ok-left.left c.loop-id.window (omega arith)
          (c.in_ok-left.ensures.bits ∙ c.loop-id.invariant.bits ∙ ap (λ xs. bits_of 8 old ++ bits_of c.args.width.bits xs) all),
    )
