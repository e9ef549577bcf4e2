use Rattle.std.proofs.Common.{◌∙◌, ap, sym, length}
use Rattle.star_walk.specs.Coalescing.{coalesced}
use Rattle.star_walk.proofs.CoalesceSteps.{coalesced_same, coalesced_within, coalesced_apart, read_numbers}
use Rattle.star_walk.proofs.CoalesceSteps.{coalesced_passing}
use Rattle.star_walk.proofs.laws.coalesced_law.Goals as goal

pub returns : goal.returns
returns c = record {
  same = coalesced_same;
  within = coalesced_within;
  apart = coalesced_apart;
  read = λ documents k ps h. read_numbers (coalesced ps) ∙ ap length (coalesced_same documents k ps h)
      ∙ sym (read_numbers ps);
  passing = coalesced_passing;
}
