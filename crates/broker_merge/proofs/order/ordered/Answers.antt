use Rattle.std.proofs.Common.{◌≡◌, ◌∙◌, ◌+◌, ◌*◌, ◌++◌, ◌∷◌, ◌<◌, IsPermutation, length, map, flat_map, sym, ap, subst, slice_index, List, ℕ}
use Rattle.std.specs.List.{All}
use Rattle.std.proofs.lemmas.List.Folds.{flat_map-map}
use Rattle.std.proofs.lemmas.Result.{IfOk-weaker}
use Rattle.group_table.specs.Kept.{KeptGroups, group_at}
use Rattle.broker_merge.specs.Rank.{places_of}
use Rattle.broker_merge.specs.Ranked.{BeginInOrder}
use Rattle.broker_merge.proofs.RankLemmas.{Entry, all_shown, first_below, first_places, in_order_places, length_shares, length_places, ranked_all, shown_moved}
use Rattle.broker_merge.proofs.AskedLemmas.{as_many, chosen, chosen_at}
use Rattle.broker_merge.proofs.order.ordered.Goals as goal

pub ranked-requires-clause-whole : goal.ranked-requires-clause-whole
ranked-requires-clause-whole c = ap length (c.deref.ensures.value ∙ c.in_ok-places.ensures)
    ∙ length_shares (λ at. places_of c.args.order.now (group_at c.args.table.now at)) (length c.args.order.now + 1) (λ at. length_places c.args.order.now (group_at c.args.table.now at)) c.args.kept.now

pub places_in-requires : goal.places_in-requires
places_in-requires c =
    let t : KeptGroups = chosen c.args.table.now c.args.kept.now in
    let order = c.args.order.now in
    let all : List Entry = c.in_ok-ranked.ranked.items in
    let parts = c.select_nth_unstable-first.result in
    let e = c.select_nth_unstable-first.ensures in
    let ranked = ranked_all t order c.deref.result.now (length c.args.kept.now) all
    (c.deref.ensures.value ∙ c.in_ok-places.ensures ∙ sym (flat_map-map (places_of order) (group_at c.args.table.now) c.args.kept.now)) (sym (as_many c.args.table.now c.args.kept.now)) c.in_ok-ranked.ensures in
    subst (λ n. All (λ (r : Entry). r.1 < n) c.sort_unstable.new.self) (as_many c.args.table.now c.args.kept.now)
    (first_below t order all parts.0.now c.sort_unstable.new.self parts.2.now parts.1.now ranked
    (subst (λ l. IsPermutation l (parts.0.now ++ parts.1.now ∷ parts.2.now)) c.deref_mut.ensures.value e.permutation) c.sort_unstable.ensures.permutation)

pub returns-then-most-len : goal.returns-then-most-len
returns-then-most-len c =
    let t : KeptGroups = chosen c.args.table.now c.args.kept.now in
    let order = c.args.order.now in
    let all : List Entry = c.in_ok-ranked.ranked.items in
    let parts = c.select_nth_unstable-first.result in
    let e = c.select_nth_unstable-first.ensures in
    let ranked = ranked_all t order c.deref.result.now (length c.args.kept.now) all
    (c.deref.ensures.value ∙ c.in_ok-places.ensures ∙ sym (flat_map-map (places_of order) (group_at c.args.table.now) c.args.kept.now)) (sym (as_many c.args.table.now c.args.kept.now)) c.in_ok-ranked.ensures in
    let done = chosen_at c.args.table.now c.args.kept.now order c.args.most c.sort_unstable.new.self c.requires.kept.below (first_places t order c.args.most all parts.0.now c.sort_unstable.new.self parts.2.now parts.1.now c.requires.kept.once ranked
    (subst (λ l. IsPermutation l (parts.0.now ++ parts.1.now ∷ parts.2.now)) c.deref_mut.ensures.value e.permutation) e.front_len e.partitioned
    c.sort_unstable.ensures.permutation c.sort_unstable.ensures.sorted) in
    IfOk-weaker c.places_in.result _ _ (λ v is. subst (λ (l : List ℕ). BeginInOrder c.args.table.now t.groups order c.args.most l) (sym is) done) c.places_in.ensures

pub places_in-requires-else-most-len : goal.places_in-requires-else-most-len
places_in-requires-else-most-len c =
    let t : KeptGroups = chosen c.args.table.now c.args.kept.now in
    let order = c.args.order.now in
    let ranked = ranked_all t order c.deref.result.now (length c.args.kept.now) c.in_ok-ranked.ranked.items
    (c.deref.ensures.value ∙ c.in_ok-places.ensures ∙ sym (flat_map-map (places_of order) (group_at c.args.table.now) c.args.kept.now)) (sym (as_many c.args.table.now c.args.kept.now)) c.in_ok-ranked.ensures in
    let sorted = c.sort_unstable-else-most-len in
    subst (λ l. All (λ (r : Entry). r.1 < length c.args.kept.now) l) (sym c.deref-else-most-len.ensures.value)
    (subst (λ n. All (λ (r : Entry). r.1 < n) sorted.new.self.items) (as_many c.args.table.now c.args.kept.now)
    (shown_moved t order c.in_ok-ranked.ranked.items sorted.new.self.items sorted.ensures.permutation (all_shown t order c.in_ok-ranked.ranked.items ranked)).below)

pub returns : goal.returns
returns c =
    let t : KeptGroups = chosen c.args.table.now c.args.kept.now in
    let order = c.args.order.now in
    let ranked = ranked_all t order c.deref.result.now (length c.args.kept.now) c.in_ok-ranked.ranked.items
    (c.deref.ensures.value ∙ c.in_ok-places.ensures ∙ sym (flat_map-map (places_of order) (group_at c.args.table.now) c.args.kept.now)) (sym (as_many c.args.table.now c.args.kept.now)) c.in_ok-ranked.ensures in
    let sorted = c.sort_unstable-else-most-len in
    let done = chosen_at c.args.table.now c.args.kept.now order c.args.most sorted.new.self.items c.requires.kept.below
    (in_order_places t order c.args.most c.in_ok-ranked.ranked.items sorted.new.self.items c.requires.kept.once ranked sorted.ensures.permutation sorted.ensures.sorted) in
    IfOk-weaker c.places_in-else-most-len.result _ _ (λ v is. subst (λ (l : List ℕ). BeginInOrder c.args.table.now t.groups order c.args.most l)
    (ap (map (λ (r : Entry). slice_index c.args.kept.now r.1)) (sym c.deref-else-most-len.ensures.value) ∙ sym is) done) c.places_in-else-most-len.ensures
