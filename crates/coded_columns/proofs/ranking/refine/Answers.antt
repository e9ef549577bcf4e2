use Rattle.std.proofs.Common.{◌≡◌, ◌∙◌, ℕ, List, ◌+◌, ◌*◌, nat_eq, arith, get_or, ap}
use Rattle.std.specs.HashMap.{get}
use Rattle.coded_columns.specs.Slots.{led_by, packed}
use Rattle.coded_columns.proofs.RankSteps.{rank-step}
use Rattle.coded_columns.proofs.ranking.refine.Goals as goal

pub loop-k-preserved : goal.loop-k-preserved
loop-k-preserved c =
    let ids = c.args.column.ids.now in
    let places = c.args.column.places.now in
    let width = c.args.column.width in
    let k = c.loop-k.k in
    let id_is : c.at-id.result ≡ get_or ids (get_or places k 0) 0 = c.at-id.ensures ∙ ap (λ (l : List ℕ). get_or l (get_or places k 0) 0) c.slices-ids.ensures in
    rank-step (packed c.args.slots.now width ids places) c.args.slots.now k (λ q. led_by (get nat_eq c.loop-k.map q)) (λ q. led_by (get nat_eq c.slot_in_map.new.map q))
    c.loop-k.slots c.in_ok-slots.field-0 c.loop-k.firsts.items c.slot_in_map.new.firsts.items (omega arith) c.loop-k.invariant
    c.key_of-key.result (c.key_of-key.ensures ∙ (λ i. c.loop-k.invariant.rest k (omega arith) i * width + id_is i)) c.in_ok-slots.ensures
