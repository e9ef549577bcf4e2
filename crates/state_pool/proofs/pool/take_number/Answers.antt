use Rattle.std.proofs.Common.{◌≡◌, ◌++◌, ◌-◌, Some, length, replicate, set, subst, sym, ap, ◌∙◌, rules}
use Rattle.agg_laws.specs.declared.states.AggState.TheVariants.{Count}
use Rattle.state_pool.specs.Kept.{AreFree, TakesCells, TakesNumber}
use Rattle.state_pool.proofs.CellLemmas.{taken_again, taken_new, last_there, last_unheld, takes_free, takes_new}
use Rattle.state_pool.proofs.pool.take_number.Goals as goal

pub returns-in-Some-clause-taken : goal.returns-in-Some-clause-taken
returns-in-Some-clause-taken c =
    let free = subst (AreFree c.args.holders.now.items) c.in-Some.ensures.items c.requires.free in
    subst (TakesCells c.args.owner c.args.width c.args.kinds.now c.in-Some.number c.args.holders.now.items _ c.args.cells.now.items) (sym c.write_units.ensures.cells)
    (taken_again c.args.owner c.args.width c.args.kinds.now c.in-Some.number c.args.holders.now.items c.args.cells.now.items c.requires.kinds c.requires.cells
    (last_there c.args.holders.now.items c.pop.new.self.items c.in-Some.number free)
    (last_unheld c.args.holders.now.items c.pop.new.self.items c.in-Some.number free))

pub returns-in-Some-clause-numbers : goal.returns-in-Some-clause-numbers
returns-in-Some-clause-numbers c =
    subst (λ free. TakesNumber c.args.holders.now.items (set c.args.holders.now.items c.in-Some.number (Some c.args.owner)) free c.pop.new.self.items) (sym c.in-Some.ensures.items)
    (takes_free c.args.holders.now.items c.pop.new.self.items c.in-Some.number c.args.owner
    (subst (AreFree c.args.holders.now.items) c.in-Some.ensures.items c.requires.free))

pub returns-clause-taken : goal.returns-clause-taken
returns-clause-taken c =
    let number : length c.args.holders.now.items ≡ c.len-number.result = search rules in
    let cells = c.add_spare.ensures.cells ∙ ap (λ l. l ++ replicate (c.args.width - length c.args.kinds.now) (Count 0)) c.add_units.ensures.cells in
    subst (λ n. TakesCells c.args.owner c.args.width c.args.kinds.now n c.args.holders.now.items c.put_all.new.out.items c.args.cells.now.items c.add_spare.new.cells.items) number
    (subst (λ hs. TakesCells c.args.owner c.args.width c.args.kinds.now (length c.args.holders.now.items) c.args.holders.now.items hs c.args.cells.now.items c.add_spare.new.cells.items) (sym c.put_all.ensures.items)
    (subst (TakesCells c.args.owner c.args.width c.args.kinds.now (length c.args.holders.now.items) c.args.holders.now.items _ c.args.cells.now.items) (sym cells)
    (taken_new c.args.owner c.args.width c.args.kinds.now c.args.holders.now.items c.args.cells.now.items c.requires.kinds c.requires.cells)))

pub returns-clause-numbers : goal.returns-clause-numbers
returns-clause-numbers c =
    let none : length c.args.free.now.items ≡ 0 = search rules in
    let none_left : length c.pop.new.self.items ≡ 0 = search rules in
    subst (λ hs. TakesNumber c.args.holders.now.items hs c.args.free.now.items c.pop.new.self.items) (sym c.put_all.ensures.items)
    (takes_new c.args.holders.now.items c.args.owner c.args.free.now.items c.pop.new.self.items none none_left)
