-- Names of a query that are looked up in maps.
use Rattle.std.specs.Prelude.{◌≡◌, ℕ, List, option_map, is_some}
use Rattle.std.specs.List.{list_any}
use Rattle.std.specs.Str.{bytes_eq}
use Rattle.std.specs.Borrow.{Bor}
use Rattle.std.specs.HashMap as hash
use Rattle.query_tokens.specs.declared.tree.NameAt.{NameAt}
use Rattle.query_tokens.specs.declared.tree.QueryItem.{QueryItem}
use Rattle.query_tokens.specs.declared.tree.Term.{Term}
use Rattle.query_bind.specs.Names.{labelled}

-- the map has the term of the first item with each AS name
abbrev pub KnowsLabels : {S : Type 0} → List QueryItem → hash.HashMap (Bor (List ℕ)) (Bor Term) S
    → Type 0
KnowsLabels items terms = (name : List ℕ) → option_map (λ t. t.now)
    (hash.get_by (λ k. bytes_eq name k.now) terms) ≡ labelled items name

-- the map has the names of GROUP BY
abbrev pub KnowsGroups : {S : Type 0} → List NameAt → hash.HashMap (Bor (List ℕ)) (Bor NameAt) S
    → Type 0
KnowsGroups groups names = (name : List ℕ) → is_some (hash.get_by (λ k. bytes_eq name k.now) names)
    ≡ list_any (λ g. bytes_eq g.name name) groups
