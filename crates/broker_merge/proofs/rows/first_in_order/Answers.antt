use Rattle.std.proofs.Common.{◌≡◌, ◌∙◌, ◌<◌, ◌≤◌, ap, map, sym, subst, arith, length, List, ℕ}
use Rattle.std.specs.List.{All}
use Rattle.std.specs.FinMap as finite
use Rattle.std.proofs.lemmas.Result.{IfOk-weaker}
use Rattle.table_schema.specs.declared.query.OrderKey.{OrderKey}
use Rattle.group_table.specs.Kept.{KeptGroups, group_at, groups_in}
use Rattle.broker_merge.specs.Having.{asked_groups, asked_places}
use Rattle.broker_merge.specs.Rank.{IsItem}
use Rattle.broker_merge.specs.Ranked.{AreKept, BeginInOrder}
use Rattle.broker_merge.proofs.FewLemmas.{grouped, asked_of_table, keys_of_table}
use Rattle.broker_merge.proofs.AskedLemmas.{asked_fewer, asked_in_order, asked_kept, begun_as, few_begin}
use Rattle.broker_merge.proofs.rows.first_in_order.Goals as goal

pub asked-requires-clause-asked : goal.asked-requires-clause-asked
asked-requires-clause-asked c = asked_of_table c.args.query.now c.args.table.now c.requires.table c.args.query.now.having c.requires.places.grouped c.requires.places.asked

pub ordered-requires-clause-of_table : goal.ordered-requires-clause-of_table
ordered-requires-clause-of_table c =
    let t : KeptGroups = c.args.table.now in
    let is : c.in_ok-kept.kept.items ≡ asked_places t c.args.query.now.having = c.in_ok-kept.ensures in
    let fewer = asked_fewer t c.args.query.now.having in
    let two : 2 ≤ length t.groups = omega (arith, fewer, ap length is) in
    record {
      is_table = c.groups-count.ensures.table;
      grouped = grouped t c.groups-count.ensures.table two;
      keys = subst (All (λ (k : OrderKey). IsItem t k.item)) (sym c.as_slice.ensures) (keys_of_table c.args.query.now t c.requires.table c.args.query.now.order c.requires.places.keys);
    }

pub ordered-requires-clause-kept : goal.ordered-requires-clause-kept
ordered-requires-clause-kept c = subst (AreKept c.args.table.now) (sym c.in_ok-kept.ensures ∙ sym c.deref.ensures.value) (asked_kept c.args.table.now c.args.query.now.having c.groups-count.ensures.table)

pub returns-then-len-lt2-clause-order : goal.returns-then-len-lt2-clause-order
returns-then-len-lt2-clause-order c =
    let t : KeptGroups = c.args.table.now in
    let q = c.args.query.now in
    let is : c.in_ok-kept.kept.items ≡ asked_places t q.having = c.in_ok-kept.ensures in
    subst (BeginInOrder t (asked_groups q.having (finite.entries (groups_in t))) q.order c.args.most) (sym is)
    (few_begin t q.order c.args.most q.having c.groups-count.ensures.table (omega (arith, ap length is)))

pub returns-else-len-lt2-clause-order : goal.returns-else-len-lt2-clause-order
returns-else-len-lt2-clause-order c =
    let t : KeptGroups = c.args.table.now in
    let q = c.args.query.now in
    let order = c.as_slice.ensures in
    let same = ap (map (group_at t)) (c.deref.ensures.value ∙ c.in_ok-kept.ensures) in
    IfOk-weaker c.ordered.result _ _ (λ v h. begun_as t (map (group_at t) (asked_places t q.having)) (asked_groups q.having (finite.entries (groups_in t))) q.order c.args.most v.items
    (asked_in_order t q.order q.having c.groups-count.ensures.table)
    (subst (λ gs. BeginInOrder t gs q.order c.args.most v.items) same (subst (λ ks. BeginInOrder t (map (group_at t) c.deref.result.now) ks c.args.most v.items) order h))) c.ordered.ensures
