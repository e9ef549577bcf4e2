use Rattle.std.proofs.Common.{◌≡◌, ◌<◌, ◌≤◌, length, get_or, sym, ◌∙◌, refl, true, false}
use Rattle.std.proofs.lemmas.Bool.{eqb-true, eq-eqb}
use Rattle.star_tree.specs.Flat.{blank}
use Rattle.star_file.specs.declared.children.ChildRules.{ChildRules}
use Rattle.star_file.proofs.ChildLemmas as subtrees
use Rattle.star_file.proofs.children.children_keep.Goals as goal

pub loop-i-preserved : goal.loop-i-preserved
loop-i-preserved c =
    let node = c.args.node.now in
    let ns = c.args.subtrees.now in
    let r : ChildRules = record {
      level = node.level;
      count = get_or c.args.counts.now node.level 0;
      skipped = c.skips.result;
      most = c.saturating_sub.result;
    } in
    let lt : c.loop-i.i < length ns = c.loop-i-test.true in
    record {
      on = λ h. subtrees.turn_on r node.end c.loop-i.i c.loop-i.from c.loop-i.least ns (blank 0 0 0 0) lt
          c.end_of-from.result c.end_of-from.ensures (c.loop-i.invariant.on h);
      back = λ h. c.loop-i.invariant.back
          (subtrees.turn_back r node.end c.loop-i.i c.loop-i.from c.loop-i.least ns (blank 0 0 0 0) lt
          c.end_of-from.result c.end_of-from.ensures (c.child_keeps.ensures.0 c.if-not-child_keeps.false)
          h);
    }

pub returns-then-not-child_keeps : goal.returns-then-not-child_keeps
returns-then-not-child_keeps c =
    let node = c.args.node.now in
    let ns = c.args.subtrees.now in
    let r : ChildRules = record {
      level = node.level;
      count = get_or c.args.counts.now node.level 0;
      skipped = c.skips.result;
      most = c.saturating_sub.result;
    } in
    let lt : c.loop-i.i < length ns = c.loop-i-test.true in (
      λ t. cc,
      λ k. absurd (subtrees.turn_bad r node.end c.loop-i.i c.loop-i.from c.loop-i.least ns
          (blank 0 0 0 0) lt (λ one. apart (sym c.if-not-child_keeps.true ∙ c.child_keeps.ensures.1 one))
          (c.loop-i.invariant.on (subtrees.start c.args.shape.now c.args.counts.now r node.start node.end
          ns refl c.skips.ensures c.saturating_sub.ensures k))),
    )
  where
    apart : false ≡ true → ⊥
    apart e = cc

pub returns : goal.returns
returns c =
    let node = c.args.node.now in
    let ns = c.args.subtrees.now in
    let r : ChildRules = record {
      level = node.level;
      count = get_or c.args.counts.now node.level 0;
      skipped = c.skips.result;
      most = c.saturating_sub.result;
    } in
    let le : length ns ≤ c.loop-i.i = c.loop-i-test.false in (
      λ t. subtrees.done c.args.shape.now c.args.counts.now r node.start node.end ns refl
          c.skips.ensures c.saturating_sub.ensures (c.loop-i.invariant.back
          (subtrees.end_back r node.end c.loop-i.i c.loop-i.from c.loop-i.least ns le
          (eqb-true c.loop-i.from node.end t))),
      λ k. eq-eqb c.loop-i.from node.end
          (subtrees.end_on r node.end c.loop-i.i c.loop-i.from c.loop-i.least ns le
          (c.loop-i.invariant.on (subtrees.start c.args.shape.now c.args.counts.now r node.start node.end
          ns refl c.skips.ensures c.saturating_sub.ensures k))),
    )
