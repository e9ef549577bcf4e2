use Rattle.std.proofs.Common.{◌∙◌, arith}
use Rattle.std.proofs.lemmas.List.{take_all}
use Rattle.value_ids.proofs.CodingLemmas.{among-more, below-one, reads-more}
use Rattle.dictionary.proofs.number_index.code_numbers.Goals as goal

pub loop-number-preserved : goal.loop-number-preserved
loop-number-preserved c =
    let numbers = c.args.numbers.now in
    let i = c.loop-number.number-index in
    let seen = c.loop-number.seen.items in
    let new = c.place.new.seen.items in
    let ids = c.loop-number.ids.items in
    let lt = c.loop-number-test.true in
    let at = c.in_ok-id.ensures.place in
    let grows = c.in_ok-id.ensures.grows in
    let is = c.in_ok-push.ensures.items in
    let (so_far, below, among) = c.loop-number.invariant in (
      reads-more numbers i seen new ids c.push.new.self.items c.in_ok-id.id lt at grows is below so_far,
      below-one numbers i seen new ids c.push.new.self.items c.in_ok-id.id lt at grows is below,
      among-more numbers i seen new ids c.push.new.self.items c.in_ok-id.id lt at grows is below among,
    )

pub returns : goal.returns
returns c =
    let (so_far, below, among) = c.loop-number.invariant in
    record { each = so_far ∙ take_all c.loop-number.number-index c.args.numbers.now (omega arith); below = below; among = among }
