use Rattle.std.proofs.Common.{ℕ, ◌<◌, ◌-◌, ◌^◌, List, ap, subst, ◌∙◌, arith}
use Rattle.agg_laws.specs.Tree.{set_star}
use Rattle.state_columns.specs.Packing.{pack, AreWithin}
use Rattle.state_columns.proofs.PackSteps as steps
use Rattle.star_table.proofs.star_table.StarTable.words.Goals as goal

pub loop-at-preserved : goal.loop-at-preserved
loop-at-preserved c =
    let at_most : c.loop-at.at - c.args.start < 2 ^ 20 = omega
    (arith, c.loop-at-test.true, c.if-end-start-gt1048576.false, c.loop-at.auto.at) in
    let small : c.loop-at.at < 2 ^ 32 = omega (arith, c.loop-at-test.true, c.ranges.end.fits) in
    record {
      places = steps.more_places c.args.spans.now c.args.level c.args.start c.loop-at.at
          c.in-Some.key c.args.self.now.docs c.loop-at.words.items c.push.new.self.items
          c.loop-at.auto.at at_most small c.in_ok-push-in-Some.ensures.items c.loop-at.invariant.places;
      words = steps.more_words c.args.spans.now c.args.level c.args.start c.loop-at.at
          c.in-Some.key c.args.self.now.docs c.loop-at.words.items c.push.new.self.items
          c.loop-at.auto.at at_most small c.in_ok-push-in-Some.ensures.items c.loop-at.invariant.words
          (subst (λ (xs : List ℕ). AreWithin c.args.spans.now (set_star c.args.level xs))
          c.ids_of.ensures c.in-Some.ensures.0)
          (c.in-Some.ensures.1
          ∙ ap (λ (xs : List ℕ). pack 0 c.args.spans.now (set_star c.args.level xs))
          c.ids_of.ensures);
    }
