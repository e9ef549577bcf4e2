use Rattle.std.proofs.Common.{◌≡◌, ◌<◌, ◌+◌, ◌-◌, ◌∷◌, [], ℕ, drop, get_or, length}
use Rattle.agg_laws.specs.Numbers.{most_values}
use Rattle.state_columns.specs.Columns.{all_added}
use Rattle.state_columns.proofs.state_column.add_each_in.Given as goal

abbrev pub invariant-loop-k : goal.invariant-loop-k
invariant-loop-k g l =
    let a = g.A.Aggregator in
    record {
      added : all_added (λ s v. a.merged s (a.of (v ∷ []))) a.empty (drop l.k l.places) (drop l.k l.values) l.states
          ≡ all_added (λ s v. a.merged s (a.of (v ∷ []))) a.empty l.places l.values l.fn.states;
      fits : (place : ℕ) → place < length l.states → a.fits (get_or l.states place a.empty) (most_values - length l.places + l.k);
    }
