-- A query that is read by its parts is the query.
use Rattle.std.proofs.Common.{◌≡◌, ℕ, Bool, List, Option, Ok, Err, refl}
use Rattle.query_parser.specs.declared.query.Selected.{Selected}
use Rattle.query_parser.specs.declared.query.Shaped.{Shaped}
use Rattle.query_tokens.specs.declared.token.Kind.TheVariants as k
use Rattle.query_tokens.specs.declared.tree.NameAt.{NameAt}
use Rattle.query_tokens.specs.declared.tree.LiteralAt.{LiteralAt}
use Rattle.query_tokens.specs.declared.tree.QueryItem.{QueryItem}
use Rattle.query_tokens.specs.declared.tree.QueryKey.{QueryKey}
use Rattle.query_tokens.specs.declared.tree.Query.{Query}
use Rattle.query_tokens.specs.declared.tree.Cond.{Cond}
use Rattle.query_tokens.specs.declared.tree.HavingCond.{HavingCond}
use Rattle.query_tokens.specs.Stream.{Stream, place}
use Rattle.query_parser.specs.Reading.{Outcome, Parser, and_then, ◌>>=◌, ◌>>◌, pure, expect, name, separated}
use Rattle.query_parser.specs.Query as q
use Rattle.query_parser.specs.QueryParts as parts

abbrev Limits : Type 0
Limits = Option LiteralAt × Option LiteralAt

abbrev shape_of : List NameAt → Option HavingCond → List QueryKey → Limits → Shaped
shape_of g h o l = record { groups = g; having = h; order = o; limit = l.0; offset = l.1 }

-- the rest of a query may be said of the shape or of each of its parts
module _ (rest : Shaped → Parser Query) where
  at_limits : (g : List NameAt) (h : Option HavingCond) (o : List QueryKey) (l : Outcome Limits) → and_then (and_then l (λ x. pure (shape_of g h o x))) rest ≡ and_then l (λ x. rest (shape_of g h o x))
  at_limits g h o (Ok p) = refl
  at_limits g h o (Err e) = refl

  at_order : (g : List NameAt) (h : Option HavingCond) (o : Outcome (List QueryKey)) → and_then (and_then o (λ k. q.closing >>= (λ l. pure (shape_of g h k l)))) rest ≡ and_then o (λ k. q.closing >>= (λ l. rest (shape_of g h k l)))
  at_order g h (Ok p) = at_limits g h p.0 (q.closing p.1)
  at_order g h (Err e) = refl

  at_having : (g : List NameAt) (o : Outcome (Option HavingCond))
      → and_then (and_then o (λ h. q.order >>= (λ k. q.closing >>= (λ l. pure (shape_of g h k l))))) rest ≡ and_then o (λ h. q.order >>= (λ k. q.closing >>= (λ l. rest (shape_of g h k l))))
  at_having g (Ok p) = at_order g p.0 (q.order p.1)
  at_having g (Err e) = refl

  at_groups : (o : Outcome (List NameAt))
      → and_then (and_then o (λ g. q.having_if g >>= (λ h. q.order >>= (λ k. q.closing >>= (λ l. pure (shape_of g h k l)))))) rest
      ≡ and_then o (λ g. q.having_if g >>= (λ h. q.order >>= (λ k. q.closing >>= (λ l. rest (shape_of g h k l)))))
  at_groups (Ok p) = at_having p.0 (q.having_if p.0 p.1)
  at_groups (Err e) = refl

abbrev query_of : Bool → Selected → Option Cond → Shaped → Query
query_of u s c e = record { use_tree = u; select = s.select; items = s.items; table = s.table; condition = c; groups = e.groups; having = e.having; order = e.order; limit = e.limit; offset = e.offset }

abbrev selection_of : ℕ → List QueryItem → NameAt → Selected
selection_of s i t = record { select = s; items = i; table = t }

-- what follows FROM, by the shape and one by one
abbrev by_shape : Bool → Selected → Parser Query
by_shape u s = q.condition_if >>= (λ c. parts.shape >>= (λ e. pure (query_of u s c e)))

abbrev one_by_one : Bool → Selected → Parser Query
one_by_one u s = q.condition_if >>= (λ c. q.groups >>= (λ g. q.having_if g >>= (λ h. q.order >>= (λ o. q.closing >>= (λ l. pure (query_of u s c (shape_of g h o l)))))))

at_condition : (u : Bool) (s : Selected) (o : Outcome (Option Cond))
    → and_then o (λ c. parts.shape >>= (λ e. pure (query_of u s c e))) ≡ and_then o (λ c. q.groups >>= (λ g. q.having_if g >>= (λ h. q.order >>= (λ k. q.closing >>= (λ l. pure (query_of u s c (shape_of g h k l)))))))
unfolding parts.shape
at_condition u s (Ok p) = at_groups (λ e. pure (query_of u s p.0 e)) (q.groups p.1)
at_condition u s (Err e) = refl

at_table : (u : Bool) (s : ℕ) (i : List QueryItem) (o : Outcome NameAt) → and_then (and_then o (λ t. pure (selection_of s i t))) (by_shape u) ≡ and_then o (λ t. one_by_one u (selection_of s i t))
at_table u s i (Ok p) = at_condition u (selection_of s i p.0) (q.condition_if p.1)
at_table u s i (Err e) = refl

at_from : (u : Bool) (s : ℕ) (i : List QueryItem) (o : Outcome (Unit {0}))
    → and_then (and_then o (λ _. name >>= (λ t. pure (selection_of s i t)))) (by_shape u) ≡ and_then o (λ _. name >>= (λ t. one_by_one u (selection_of s i t)))
at_from u s i (Ok p) = at_table u s i (name p.1)
at_from u s i (Err e) = refl

at_items : (u : Bool) (s : ℕ) (o : Outcome (List QueryItem))
    → and_then (and_then o (λ i. expect k.From >> (name >>= (λ t. pure (selection_of s i t))))) (by_shape u) ≡ and_then o (λ i. expect k.From >> (name >>= (λ t. one_by_one u (selection_of s i t))))
at_items u s (Ok p) = at_from u s p.0 (expect k.From p.1)
at_items u s (Err e) = refl

at_select : (u : Bool) (s : ℕ) (o : Outcome (Unit {0}))
    → and_then (and_then o (λ _. separated k.Comma q.item >>= (λ i. expect k.From >> (name >>= (λ t. pure (selection_of s i t)))))) (by_shape u)
    ≡ and_then o (λ _. separated k.Comma q.item >>= (λ i. expect k.From >> (name >>= (λ t. one_by_one u (selection_of s i t)))))
at_select u s (Ok p) = at_items u s (separated k.Comma q.item p.1)
at_select u s (Err e) = refl

at_options : (o : Outcome Bool)
    → and_then o (λ u. parts.selection >>= by_shape u)
    ≡ and_then o (λ u. q.here >>= (λ s. expect k.Select >> (separated k.Comma q.item >>= (λ i. expect k.From >> (name >>= (λ t. one_by_one u (selection_of s i t)))))))
unfolding parts.selection
at_options (Ok p) = at_select p.0 (place p.1) (expect k.Select p.1)
at_options (Err e) = refl

pub query_is : (ts : Stream) → parts.query ts ≡ q.query ts
unfolding parts.query q.query
query_is ts = at_options (q.options ts)
