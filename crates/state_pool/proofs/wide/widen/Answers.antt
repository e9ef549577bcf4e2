use Rattle.std.proofs.Common.{◌≡◌, ◌-◌, ◌*◌, length, replicate, length-append, arith, sym, ap, subst, ◌∙◌}
use Rattle.std.proofs.lemmas.List.{with_items_is, length-replicate}
use Rattle.agg_laws.specs.declared.states.AggState.TheVariants.{Count}
use Rattle.state_pool.specs.Kept.{Widens, part_of}
use Rattle.state_pool.proofs.WideSteps.{grow_wide, wide_length}
use Rattle.state_pool.proofs.wide.widen.Goals as goal

pub returns-clause-widens : goal.returns-clause-widens
returns-clause-widens c =
    let count = c.args.count in let width = c.args.width in let wanted = c.args.wanted in let old = c.args.cells.now.items in
    let added = c.as_mut_slice.ensures.value ∙ c.add_spare.ensures.cells in
    let more = replicate (count * (wanted - width)) (Count 0) in
    let long : length c.move_apart.new.cells ≡ count * wanted = omega (arith, c.move_apart.ensures.length, ap length added, length-append old more, length-replicate (count * (wanted - width)) (Count 0), c.requires.length, wide_length count width wanted (omega (arith, c.if-wanted-width.false))) in
    let len : length c.move_apart.new.cells ≡ c.add_spare.new.cells.len = omega (arith, c.move_apart.ensures.length, ap length c.as_mut_slice.ensures.value, c.add_spare.new.cells.ok.0) in
    subst (Widens count width wanted wanted old) (sym (with_items_is c.add_spare.new.cells c.move_apart.new.cells len))
    (grow_wide count width wanted old more c.move_apart.new.cells (omega (arith, c.if-wanted-width.false)) c.requires.length long
    (λ q few lt le. c.move_apart.ensures.rows q few lt le ∙ ap (λ cs. part_of cs (q * width) few) added))
