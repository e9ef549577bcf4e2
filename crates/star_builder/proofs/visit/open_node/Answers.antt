use Rattle.std.proofs.Common.{rules, ◌≡◌, ◌-◌, length, ◌+◌, arith, true, false, sym, ◌∙◌}
use Rattle.star_builder.proofs.Open.{OpenedTo, rising_at, ordinary_at, open_plain, open_star}
use Rattle.star_builder.specs.Growing.{written}
use Rattle.star_builder.proofs.visit.open_node.Goals as goal

pub push_groups-requires-clause-rising : goal.push_groups-requires-clause-rising
push_groups-requires-clause-rising c =
    rw (c.bounds-start.ensures.start, c.bounds-start.ensures.end)
    (rising_at c.args.shape.now c.args.level c.args.at (written c.args.tree.now) c.requires.tree.stands c.requires.levels)

pub push_groups-requires-clause-ordinary : goal.push_groups-requires-clause-ordinary
push_groups-requires-clause-ordinary c =
    rw (c.bounds-start.ensures.start, c.bounds-start.ensures.end)
    (ordinary_at c.args.shape.now c.args.level c.args.at (written c.args.tree.now) c.requires.tree.stands c.requires.levels)

plain : (c : goal.Then-not-takes_star) → OpenedTo c.args.shape.now c.args.level c.args.at
    (written c.args.tree.now) (
      c.push_groups.new.nodes.items,
      c.args.tree.now.docs.docs,
    ) false
plain c =
    let groups : c.len.result - c.len-first.result ≡ length c.push_groups.new.nodes.items - length
    c.args.tree.now.nodes.items = search rules in
    open_plain c.args.shape.now c.args.level c.args.at (written c.args.tree.now) c.requires.tree.stands c.requires.levels
    c.bounds-start.result.0 c.bounds-start.result.1 (c.len.result - c.len-first.result)
    c.push_groups.new.nodes.items c.bounds-start.ensures.start c.bounds-start.ensures.end
    c.in_ok-push_groups.ensures groups (sym c.takes_star.ensures ∙ c.if-not-takes_star.true)

pub returns-then-not-takes_star-clause-opens : goal.returns-then-not-takes_star-clause-opens
returns-then-not-takes_star-clause-opens c = (plain c).is

pub returns-then-not-takes_star-clause-star : goal.returns-then-not-takes_star-clause-star
returns-then-not-takes_star-clause-star c = (plain c).has

starred : (c : goal.In_ok-push) → OpenedTo c.args.shape.now c.args.level c.args.at
    (written c.args.tree.now) (
      c.push.new.self.items,
      c.add_starred.new.docs.docs,
    ) true
starred c =
    let groups : c.len.result - c.len-first.result ≡ length c.push_groups.new.nodes.items - length
    c.args.tree.now.nodes.items = search rules in
    open_star c.args.shape.now c.args.level c.args.at (written c.args.tree.now) c.requires.tree.stands c.requires.levels
    c.bounds-start.result.0 c.bounds-start.result.1 (c.len.result - c.len-first.result)
    c.push_groups.new.nodes.items c.bounds-start.ensures.start c.bounds-start.ensures.end
    c.in_ok-push_groups.ensures groups (sym c.takes_star.ensures ∙ c.if-not-takes_star.false)
    c.count_of-from.result (c.count_of-from.result + c.in_ok-more.more) 0 c.push.new.self.items
    c.add_starred.new.docs.docs
    c.in_ok-more.ensures.docs c.count_of-from.ensures.value
    (let n = c.in_ok-more.ensures.count in let m = c.count_of-from.ensures.value in
    omega (arith, n, m))
    c.in_ok-push.ensures.items

pub returns-clause-opens : goal.returns-clause-opens
returns-clause-opens c = (starred c).is

pub returns-clause-star : goal.returns-clause-star
returns-clause-star c = (starred c).has
