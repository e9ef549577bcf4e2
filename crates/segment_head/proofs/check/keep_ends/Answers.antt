use Rattle.std.proofs.Common.{◌∙◌, ◌-◌, sym, ap}
use Rattle.std.specs.List.{slice_get}
use Rattle.segment_head.proofs.Loops.{ends_kept, none_kept}
use Rattle.segment_head.proofs.check.keep_ends.Goals as goal

pub returns-then-count-eq0 : goal.returns-then-count-eq0
returns-then-count-eq0 c = none_kept c.args.dictionary.now.values c.args.bounds.now.items (sym c.count-count.ensures.count ∙ c.if-count-eq0.true)

pub returns : goal.returns
returns c =
    let values = c.args.dictionary.now.values in
    let old = c.args.bounds.now.items in
    let last = ap (slice_get values) (ap (λ n. n - 1) (sym c.count-count.ensures.count)) ∙ c.in_ok-greatest.ensures in
    ends_kept values c.in_ok-least.least c.in_ok-greatest.greatest old c.push.new.self.items c.in_ok-least.ensures last c.in_ok-push.ensures.items
