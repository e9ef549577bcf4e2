use Rattle.std.proofs.Common.{◌≡◌, ◌∙◌, ◌+◌, ◌-◌, ◌*◌, ◌<◌, ◌≤◌, [], length, get_or, take, drop, sym, ap, subst, arith}
use Rattle.state_pool.specs.Pool.{kinds_at}
use Rattle.group_table.specs.Pooled.{PooledTable, with_slots}
use Rattle.group_table.specs.contracts.table.GroupTable.{the_view}
use Rattle.group_table.proofs.SavedSteps as steps
use Rattle.group_table.proofs.table.GroupTable.restore.Goals as goal

pub newer-init : goal.newer-init
newer-init c =
    let t = c.args.self.now in
    record {
      columns = ap (λ (u : PooledTable). u.columns) c.self.view_is;
      owner = ap (λ (u : PooledTable). u.owner) c.self.view_is;
      most = ap (λ (u : PooledTable). u.most) c.self.view_is;
      fewer = subst (λ (u : PooledTable). c.args.count ≤ length u.slots) (sym c.self.view_is) c.requires.fewer;
      short = subst (λ (u : PooledTable). steps.Shortened t c.args.pool.now c.args.pool.now u.slots) (sym c.self.view_is)
          (steps.shortened_none t c.args.pool.now c.requires.table);
    }

pub give_back-requires : goal.give_back-requires
give_back-requires c =
    let t = c.args.self.now in
    let short = subst (steps.Shortened t c.args.pool.now c.newer.pool) c.in-Some.ensures.entries c.newer.invariant.short in
    steps.newest_out t c.args.pool.now c.newer.pool c.pop.new.self.entries c.in-Some._key c.in-Some.slot short

pub newer-preserved : goal.newer-preserved
newer-preserved c =
    let t = c.args.self.now in
    let short = subst (steps.Shortened t c.args.pool.now c.newer.pool) c.in-Some.ensures.entries c.newer.invariant.short in
    record {
      columns = c.newer.invariant.columns;
      owner = c.newer.invariant.owner;
      most = c.newer.invariant.most;
      fewer = omega (arith, c.newer-test.true, c.len.ensures.len, c.in-Some.ensures.len);
      short = steps.shortened_next t c.args.pool.now c.newer.pool c.pop.new.self.entries c.in-Some._key c.in-Some.slot short c.give_back.new.self c.give_back.ensures;
    }

pub groups-init : goal.groups-init
groups-init c =
    steps.put_none c.args.self.now c.args.pool.now c.args.states.now c.kind_count-kinds.result c.newer.self-inside.slots.entries c.newer.pool c.newer.invariant.short

pub put_states-requires-clause-out : goal.put_states-requires-clause-out
put_states-requires-clause-out c =
    let t = c.args.self.now in
    let es = c.newer.self-inside.slots.entries in
    let k = c.kind_count-kinds.result in
    steps.own_out t c.args.pool.now c.args.states.now k es c.groups.pool c.groups.at c.groups.invariant c.in-Some-get_index.field-0-0.now c.in-Some-get_index.own.now c.in-Some-get_index.ensures.entry

pub put_states-requires-clause-length : goal.put_states-requires-clause-length
put_states-requires-clause-length c =
    let t = c.args.self.now in
    let es = c.newer.self-inside.slots.entries in
    let k = c.kind_count-kinds.result in
    let kinds : k ≡ length (kinds_at c.args.pool.now t.owner) = c.kind_count-kinds.ensures ∙ ap (λ o. length (kinds_at c.newer.pool o)) c.newer.invariant.owner
    ∙ ap (λ kss. length (get_or kss t.owner [])) c.newer.invariant.short.keeps.kinds in
    let long = c.requires.length ∙ ap (λ n. c.args.count * n) (sym kinds) in
    let from = c.groups.at * k in
    let wide : from + k - from ≡ k = omega arith in
    let lt : c.groups.at < c.args.count = omega (arith, c.groups-test.true) in
    ap (λ n. length (take n (drop from c.args.states.now))) wide ∙ steps.row_long t c.args.pool.now c.args.states.now k es c.groups.at c.args.count lt long
    ∙ kinds ∙ sym (ap length (steps.own_kinds t c.args.pool.now c.args.states.now k es c.groups.pool c.groups.at c.groups.invariant c.in-Some-get_index.field-0-0.now c.in-Some-get_index.own.now c.in-Some-get_index.ensures.entry))

pub groups-preserved : goal.groups-preserved
groups-preserved c =
    let t = c.args.self.now in
    let es = c.newer.self-inside.slots.entries in
    let k = c.kind_count-kinds.result in
    let kinds : k ≡ length (kinds_at c.args.pool.now t.owner) = c.kind_count-kinds.ensures ∙ ap (λ o. length (kinds_at c.newer.pool o)) c.newer.invariant.owner
    ∙ ap (λ kss. length (get_or kss t.owner [])) c.newer.invariant.short.keeps.kinds in
    let long = c.requires.length ∙ ap (λ n. c.args.count * n) (sym kinds) in
    let from = c.groups.at * k in
    let wide : from + k - from ≡ k = omega arith in
    let lt : c.groups.at < c.args.count = omega (arith, c.groups-test.true) in
    let row = ap (λ n. take n (drop from c.args.states.now)) wide in
    steps.put_next t c.args.pool.now c.args.states.now k es c.groups.pool c.groups.at c.groups.invariant c.in-Some-get_index.field-0-0.now c.in-Some-get_index.own.now c.in-Some-get_index.ensures.entry
    _ row (ap length row ∙ steps.row_long t c.args.pool.now c.args.states.now k es c.groups.at c.args.count lt long) c.put_states.new.self c.put_states.ensures

pub returns-clause-restored : goal.returns-clause-restored
returns-clause-restored c = λ was before extends same has.
    let t = c.args.self.now in
    let es = c.newer.self-inside.slots.entries in
    let k = c.kind_count-kinds.result in
    let kinds : k ≡ length (kinds_at c.args.pool.now t.owner) = c.kind_count-kinds.ensures ∙ ap (λ o. length (kinds_at c.newer.pool o)) c.newer.invariant.owner
    ∙ ap (λ kss. length (get_or kss t.owner [])) c.newer.invariant.short.keeps.kinds in
    let long = c.requires.length ∙ ap (λ n. c.args.count * n) (sym kinds) in
    let inv = c.newer.invariant in
    let count : length es ≡ c.args.count = omega (arith, c.newer-test.false, c.len.ensures.len, inv.fewer) in
    let all : c.groups.at ≡ length es = omega (arith, count, c.groups-test.false, c.groups.auto.at-end) in
    let whole = long ∙ ap (λ n. n * k) (sym count) in
    let seen : the_view c.newer.self-inside ≡ with_slots t es = λ i. record { columns = inv.columns i; owner = inv.owner i; most = inv.most i; slots = es } in (
      seen ∙ steps.table_back t c.args.pool.now c.args.states.now k es c.groups.pool c.groups.at c.groups.invariant inv.short.front all whole was before extends (count ∙ same) has,
      steps.slots_back t c.args.pool.now c.args.states.now k es c.groups.pool c.groups.at c.groups.invariant inv.short.front all whole was before extends (count ∙ same) has,
    )
