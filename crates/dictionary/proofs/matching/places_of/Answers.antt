use Rattle.value_ids.proofs.MatchLemmas.{place_absent, place_there, no_places, all_places}
use Rattle.dictionary.proofs.matching.places_of.Goals as goal

pub loop-member-init : goal.loop-member-init
loop-member-init c = no_places c.args.members.now c.args.ascending.values.now c.new-places.result.items c.new-places.ensures.items

pub loop-member-preserved : goal.loop-member-preserved
loop-member-preserved c =
    place_there c.args.members.now c.args.ascending.values.now c.loop-member.member-index c.cut_at-from.result.from c.cut_at-from.result.to c.member-item.result c.loop-member.places.items c.push.new.self.items c.loop-member-test.true
    c.member-item.is c.cut_at-from.ensures c.if-to-from.false c.loop-member.invariant c.in_ok-push.ensures.items

pub loop-member-preserved-then-to-from : goal.loop-member-preserved-then-to-from
loop-member-preserved-then-to-from c =
    place_absent c.args.members.now c.args.ascending.values.now c.loop-member.member-index c.cut_at-from.result.from c.cut_at-from.result.to c.member-item.result c.loop-member.places.items c.loop-member-test.true c.member-item.is
    c.cut_at-from.ensures c.if-to-from.true c.loop-member.invariant

pub returns : goal.returns
returns c = all_places c.args.members.now c.args.ascending.values.now c.loop-member.member-index c.loop-member.places.items c.loop-member-test.false c.loop-member.invariant
