use Rattle.std.proofs.Common.{◌≡◌, ◌∙◌, ◌+◌, ◌++◌, ◌∷◌, ◌<◌, ◌≤◌, [], List, ℕ, length, ap, sym, subst, arith}
use Rattle.star_records.specs.Folding.{AreHeads}
use Rattle.star_records.proofs.BlockSteps as steps
use Rattle.star_records.proofs.blocks.heads_of.Goals as goal
use Rattle.star_records.proofs.blocks.heads_of.Goals.{then-not-repeats+in_ok-push-2, else-not-repeats}

pub loop-at-preserved : goal.loop-at-preserved
loop-at-preserved c =
    let words = c.args.words.now in
    let from = c.args.block.from in
    let at = c.loop-at.at in
    let heads = c.loop-at.heads.items in
    let slots = c.loop-at.slots.items in
    let slots' = c.push.new.self.items in
    let lt : at < length words = omega (arith, c.loop-at-test.true, c.requires) in
    let low : from ≤ at = omega (arith, c.loop-at.auto.at) in
    let is : slots' ≡ slots ++ (length heads ∷ []) = c.in_ok-push.ensures.items
    ∙ ap (λ (l : List ℕ). slots ++ (length l ∷ [])) c.as_slice.ensures.value in
    elim c.if-not-repeats.branch [
      | then-not-repeats+in_ok-push-2 w ↦
          steps.taken words from at heads slots slots' c.loop-at.invariant low lt is
          c.if-not-repeats.heads.items
          (ap (λ v. v.items) w.heads-is ∙ w.in_ok-push-2.ensures.items)
      | else-not-repeats w ↦
          let same = c.repeats.ensures.same w.if-not-repeats.false in
          subst (λ (l : List ℕ). AreHeads words from (at + 1) l slots') (sym (ap (λ v. v.items) w.heads-is))
          (steps.passed words from at heads slots slots' c.loop-at.invariant low lt is same)
    ]
