use Rattle.std.proofs.Common.{◌≡◌, ◌∙◌, sym}
use Rattle.segment_opening.proofs.tests.is_met_by.Goals as goal

pub returns : goal.returns
returns c = λ is. (c.args.value.now, sym c.holds_value.ensures ∙ is)
