use Rattle.std.proofs.Common.{◌≡◌, ℕ, List, take, is_some}
use Rattle.std.specs.List.{list_any}
use Rattle.std.specs.Str.{bytes_eq}
use Rattle.std.specs.HashMap as hash
use Rattle.query_bind.proofs.lookups.groups_of.Given as goal

abbrev pub invariant-loop-group : goal.invariant-loop-group
invariant-loop-group l = (name : List ℕ) → is_some (hash.get_by (λ k. bytes_eq name k.now) l.names) ≡ list_any (λ g. bytes_eq g.name name) (take l.group-index l.groups)
