use Rattle.std.proofs.Common.{◌+◌, ◌++◌, ◌∷◌, [], sym, ap, ◌∙◌, append_assoc}
use Rattle.state_columns.specs.Region.{range}
use Rattle.star_tree.specs.Flat.{blank}
use Rattle.star_builder.specs.Building.{group_nodes}
use Rattle.star_builder.proofs.Steps.{group_step, Stepped}
use Rattle.star_builder.proofs.groups.push_groups.Goals as goal

pub loop-from-preserved : goal.loop-from-preserved
loop-from-preserved c =
    let rows = c.args.docs.now.docs in
    let s : Stepped c.args.level c.loop-from.from c.run_end-to.result c.args.end rows =
    group_step c.args.level c.loop-from.from c.run_end-to.result c.args.end rows
    c.run_end-to.ensures.after c.run_end-to.ensures.within c.requires.inside
    c.run_end-to.ensures.alike c.run_end-to.ensures.stops c.loop-from.invariant.rising
    c.loop-from.invariant.ordinary in
    record {
      within = c.run_end-to.ensures.within;
      left = ap (λ l. l ++ group_nodes c.args.level c.run_end-to.result (range c.run_end-to.result
          c.args.end rows)) c.in_ok-push.ensures.items
          ∙ append_assoc c.loop-from.nodes.items (_ ∷ []) (group_nodes c.args.level
          c.run_end-to.result (range c.run_end-to.result c.args.end rows))
          ∙ ap (λ v. c.loop-from.nodes.items ++ blank (c.args.level + 1) v c.loop-from.from
          c.run_end-to.result ∷ group_nodes c.args.level c.run_end-to.result (range
          c.run_end-to.result c.args.end rows)) c.dim-id.ensures
          ∙ ap (λ l. c.loop-from.nodes.items ++ l) (sym s.groups) ∙ c.loop-from.invariant.left;
      rising = s.rising;
      ordinary = s.ordinary;
    }
