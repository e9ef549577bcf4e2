use Rattle.value_ids.proofs.MatchLemmas.{no_places}
use Rattle.dictionary_reading.proofs.MatchedLemmas.{place_kept, place_passed, places_all}
use Rattle.dictionary_reading.proofs.matching.places_of.Goals as goal

pub loop-cut-init : goal.loop-cut-init
loop-cut-init c = λ values members each are. no_places members values c.new-places.result.items c.new-places.ensures.items

pub loop-cut-preserved-then-cut : goal.loop-cut-preserved-then-cut
loop-cut-preserved-then-cut c = place_passed c.args.cuts.now c.loop-cut.cut-index (record { from = 0; to = 0 }) c.loop-cut.places.items c.loop-cut-test.true c.if-cut.true c.loop-cut.invariant

pub loop-cut-preserved : goal.loop-cut-preserved
loop-cut-preserved c = place_kept c.args.cuts.now c.loop-cut.cut-index (record { from = 0; to = 0 }) c.loop-cut.places.items c.push.new.self.items c.loop-cut-test.true c.if-cut.false c.in_ok-push.ensures.items c.loop-cut.invariant

pub returns : goal.returns
returns c = places_all c.args.cuts.now c.loop-cut.cut-index c.loop-cut.places.items c.loop-cut-test.false c.loop-cut.invariant
