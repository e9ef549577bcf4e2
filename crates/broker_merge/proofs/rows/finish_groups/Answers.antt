use Rattle.std.proofs.Common.{◌≡◌, ◌∙◌, ◌+◌, ap, map, subst, take, drop}
use Rattle.table_schema.specs.declared.query.BoundQuery.{BoundQuery}
use Rattle.std.specs.FinMap as finite
use Rattle.group_table.specs.Kept.{KeptGroups, group_at, groups_in}
use Rattle.broker_merge.specs.Having.{asked_groups}
use Rattle.broker_merge.specs.Ranked.{BeginInOrder}
use Rattle.broker_merge.specs.Answer.{item_cell}
use Rattle.broker_merge.proofs.AnswerLemmas.{rows_are}
use Rattle.broker_merge.proofs.rows.finish_groups.Goals as goal

pub rows_of-requires-clause-table : goal.rows_of-requires-clause-table
rows_of-requires-clause-table c = c.first_in_order.ensures.table

pub returns-clause-answer : goal.returns-clause-answer
returns-clause-answer c =
    let t : KeptGroups = c.args.table.now in
    let q : BoundQuery = c.args.query.now in
    let written : c.written_of-written.result.now ≡ take q.limit (drop q.offset c.in_ok-places.places.items) =
    c.written_of-written.ensures ∙ ap (λ l. take q.limit (drop q.offset l)) c.deref.ensures.value in
    let made : c.in_ok-rows.rows ≡ map (λ at. map (item_cell (group_at t at)) c.as_slice.result.now) c.written_of-written.result.now = c.in_ok-rows.ensures in
    let rows = made ∙ ap (λ l. map (λ at. map (item_cell (group_at t at)) l) c.written_of-written.result.now) c.as_slice.ensures
    ∙ ap (map (λ at. map (item_cell (group_at t at)) q.items)) written
    ∙ rows_are t (asked_groups q.having (finite.entries (groups_in t))) q.order q.items q.limit q.offset c.in_ok-places.places.items
    (subst (λ n. BeginInOrder t (asked_groups q.having (finite.entries (groups_in t))) q.order n c.in_ok-places.places.items) (λ i. c.from.ensures i + c.from-2.ensures i) c.in_ok-places.ensures.order) in
    let labels : c.in_ok-labels.labels ≡ q.labels = c.in_ok-labels.ensures ∙ c.as_slice-2.ensures in
    λ i. record { labels = labels i; rows = rows i }
