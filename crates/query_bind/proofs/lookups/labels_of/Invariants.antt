use Rattle.std.proofs.Common.{◌≡◌, ◌≤◌, ℕ, List, length, drop, option_map}
use Rattle.std.specs.Str.{bytes_eq}
use Rattle.std.specs.HashMap as hash
use Rattle.query_bind.specs.Names.{labelled}
use Rattle.query_bind.proofs.lookups.labels_of.Given as goal

abbrev pub invariant-loop-left : goal.invariant-loop-left
invariant-loop-left l = (l.left ≤ length l.items) × ((name : List ℕ) → option_map (λ t. t.now) (hash.get_by (λ k. bytes_eq name k.now) l.terms) ≡ labelled (drop l.left l.items) name)

abbrev pub decreases-loop-left : goal.decreases-loop-left
decreases-loop-left l = l.left
