-- A conjunct of a query that some text spells names a field, and two where it is on no single one.
use Rattle.std.proofs.Common.{◌≡◌, ◌==◌, ℕ, Bool, true, false, not, ◌&&◌, ◌||◌, List, [], ◌∷◌, ◌++◌, map, flat_map, Option, Some, None, Ok, if◌then◌else◌, refl, sym, ap, ◌∙◌, subst}
use Rattle.std.specs.List.{list_all, list_any}
use Rattle.std.proofs.lemmas.Bool.{false≢true}
use Rattle.std.proofs.lemmas.Option.{none-some}
use Rattle.std.proofs.lemmas.List.Folds.{list_all-append}
use Rattle.values.specs.declared.test.Test.{Test}
use Rattle.values.specs.declared.test.Test.TheVariants as test
use Rattle.values.specs.Tests.{negated_if}
use Rattle.table_schema.specs.declared.table.Table.{Table}
use Rattle.table_schema.specs.declared.query.Wide.{Wide}
use Rattle.table_schema.specs.declared.query.Wide.TheVariants as wide
use Rattle.query_tokens.specs.declared.tree.Query.{Query}
use Rattle.query_bind.specs.Written.{Written, Compare, OneOf, Between, Not, All, Any, Members, no_members, member, where_written}
use Rattle.query_bind.specs.Conjuncts.{opposite_if, conjoined, disjoined, normal, normals, only_field, conjunct_by, conjunct, where_conjuncts}
use Rattle.query_bind.specs.Bound.{Bound, Spelled, bound_of, bound, query_finding}
use Rattle.query_bind.proofs.Truth.{and_of, both}
use Rattle.query_bind.proofs.PlaceLemmas.{or_true, answered}
use Rattle.query_bind.proofs.WideLemmas.{fields_of-Leaf, conjoined-Leaf, conjoined-All, conjoined-Any, disjoined-Leaf, disjoined-All, disjoined-Any}
use Rattle.query_bind.proofs.WithinLemmas.{named_in, names_in, normal_fields}
use Rattle.query_bind.proofs.SpelledLemmas.{is_full, some_full, all_full, WhereIsFull, where_full}
use Rattle.table_schema.specs.ValidQuery.{fields_of, some_differ, conjunct_names}

-- ---- a condition names a field

abbrev has_field : List ℕ → Bool
has_field [] = false
has_field (c ∷ cs) = true

has_more : (cs ds : List ℕ) → has_field cs ≡ true → has_field (cs ++ ds) ≡ true
has_more [] ds e = absurd (false≢true e)
has_more (c ∷ cs) ds e = refl

some_all : (ws : Members) → some_full ws ≡ true → all_full ws ≡ true
some_all no_members e = absurd (false≢true e)
some_all (member w ws) e = e

mutual
  written_has : (w : Written) → is_full w ≡ true → has_field (named_in w) ≡ true
  written_has (Compare c op v) full = refl
  written_has (OneOf c vs n) full = refl
  written_has (Between c low high n) full = refl
  written_has (Not w) full = written_has w full
  written_has (All ws) full = members_have ws full
  written_has (Any ws) full = members_have ws full

  members_have : (ws : Members) → some_full ws ≡ true → has_field (names_in ws) ≡ true
  members_have no_members full = absurd (false≢true full)
  members_have (member w ws) full = has_more (named_in w) (names_in ws) (written_has w (both (is_full w) (all_full ws) full).0)

abbrev is_named : Wide → Bool
is_named w = has_field (fields_of w)

abbrev are_named : List Wide → Bool
are_named ws = list_all is_named ws

alone : (w : Wide) → is_named w ≡ true → are_named (w ∷ []) ≡ true
alone w e = and_of (is_named w) true e refl

-- the same of a leaf
leaf_named : (c : ℕ) (t : Test) → are_named (wide.Leaf c t ∷ []) ≡ true
leaf_named c t = alone (wide.Leaf c t) (ap has_field (fields_of-Leaf c t))

normal_named : (n : Bool) (w : Written) → is_full w ≡ true → is_named (normal n w) ≡ true
normal_named n w full = ap has_field (normal_fields n w) ∙ written_has w full

-- among the members of an AND, and among those of an OR
abbrev AreParts : Wide → Type 0
AreParts w = (are_named (conjoined w) ≡ true) × (are_named (disjoined w) ≡ true)

leaf_parts : (c : ℕ) (t : Test) → AreParts (wide.Leaf c t)
leaf_parts c t = (ap are_named (conjoined-Leaf c t) ∙ leaf_named c t, ap are_named (disjoined-Leaf c t) ∙ leaf_named c t)

all_parts : (ws : List Wide) → is_named (wide.All ws) ≡ true → are_named ws ≡ true → AreParts (wide.All ws)
all_parts ws own inner = (ap are_named (conjoined-All ws) ∙ inner, ap are_named (disjoined-All ws) ∙ alone (wide.All ws) own)

any_parts : (ws : List Wide) → is_named (wide.Any ws) ≡ true → are_named ws ≡ true → AreParts (wide.Any ws)
any_parts ws own inner = (ap are_named (conjoined-Any ws) ∙ alone (wide.Any ws) own, ap are_named (disjoined-Any ws) ∙ inner)

mutual
  normal_parts : (n : Bool) (w : Written) → is_full w ≡ true → AreParts (normal n w)
  normal_parts n (Compare c op v) full = leaf_parts c (test.Compare (opposite_if n op) v)
  normal_parts n (OneOf c vs m) full = leaf_parts c (test.OneOf vs (negated_if n m))
  normal_parts n (Between c low high m) full = leaf_parts c (test.Between low high (negated_if n m))
  normal_parts true (Not w) full = normal_parts false w full
  normal_parts false (Not w) full = normal_parts true w full
  normal_parts true (All ws) full = any_parts (flat_map disjoined (normals true ws)) (normal_named true (All ws) full) (disjoined_named true ws (some_all ws full))
  normal_parts false (All ws) full = all_parts (flat_map conjoined (normals false ws)) (normal_named false (All ws) full) (conjoined_named false ws (some_all ws full))
  normal_parts true (Any ws) full = all_parts (flat_map conjoined (normals true ws)) (normal_named true (Any ws) full) (conjoined_named true ws (some_all ws full))
  normal_parts false (Any ws) full = any_parts (flat_map disjoined (normals false ws)) (normal_named false (Any ws) full) (disjoined_named false ws (some_all ws full))

  conjoined_named : (n : Bool) (ws : Members) → all_full ws ≡ true → are_named (flat_map conjoined (normals n ws)) ≡ true
  conjoined_named n no_members full = refl
  conjoined_named n (member w ws) full =
      let parts = both (is_full w) (all_full ws) full in
      list_all-append is_named (conjoined (normal n w)) (flat_map conjoined (normals n ws))
      ∙ and_of (are_named (conjoined (normal n w))) _ (normal_parts n w parts.0).0 (conjoined_named n ws parts.1)

  disjoined_named : (n : Bool) (ws : Members) → all_full ws ≡ true → are_named (flat_map disjoined (normals n ws)) ≡ true
  disjoined_named n no_members full = refl
  disjoined_named n (member w ws) full =
      let parts = both (is_full w) (all_full ws) full in
      list_all-append is_named (disjoined (normal n w)) (flat_map disjoined (normals n ws))
      ∙ and_of (are_named (disjoined (normal n w))) _ (normal_parts n w parts.0).1 (disjoined_named n ws parts.1)

-- ---- where it is on no single field, two of those that it names differ

other_by : (b : Bool) (test : ℕ → Bool) (cs : List ℕ) → (list_all test cs ≡ false → list_any (λ c. not (test c)) cs ≡ true)
    → (b && list_all test cs) ≡ false → (not b || list_any (λ c. not (test c)) cs) ≡ true
other_by true test cs later e = later e
other_by false test cs later e = refl

other : (test : ℕ → Bool) (cs : List ℕ) → list_all test cs ≡ false → list_any (λ c. not (test c)) cs ≡ true
other test [] e = absurd (false≢true (sym e))
other test (c ∷ cs) e = other_by (test c) test cs (other test cs) e

not_only : (c : ℕ) (b : Bool) → (if b then Some c else None) ≡ None → b ≡ false
not_only c true e = absurd (none-some c (sym e))
not_only c false e = refl

differ : (cs : List ℕ) → has_field cs ≡ true → only_field cs ≡ None → some_differ cs ≡ true
differ [] has e = absurd (false≢true has)
differ (c ∷ cs) has e =
    let rest = other (λ d. d == c) cs (not_only c (list_all (λ d. d == c) cs) e) in
    let here : list_any (λ d. not (d == c)) (c ∷ cs) ≡ true = ap (λ b. not (c == c) || b) rest ∙ or_true (not (c == c)) in
    ap (λ b. b || list_any (λ x. list_any (λ d. not (d == x)) (c ∷ cs)) cs) here

several_by : (w : Wide) (o : Option ℕ) → only_field (fields_of w) ≡ o → is_named w ≡ true → conjunct_names (conjunct_by w o) ≡ true
several_by w None e own = differ (fields_of w) own e
several_by w (Some field) e own = refl

several : (ws : List Wide) → are_named ws ≡ true → list_all conjunct_names (map conjunct ws) ≡ true
several [] own = refl
several (w ∷ ws) own =
    let parts = both (is_named w) (are_named ws) own in
    and_of (conjunct_names (conjunct w)) _ (several_by w (only_field (fields_of w)) refl parts.0) (several ws parts.1)

where_several : (o : Option Written) → WhereIsFull o → list_all conjunct_names (where_conjuncts o) ≡ true
where_several None full = refl
where_several (Some w) full = several (conjoined (normal false w)) (normal_parts false w full).0

module _ (table : Table) (any_table : Bool) (q : Query) (b : Bound) (is : bound table any_table q ≡ Ok b) (spelled : Spelled q) where
  pub all_several : list_all conjunct_names (where_conjuncts b.condition) ≡ true
  all_several =
      let fields = table.schema.fields in
      let own = answered (query_finding table any_table q) (bound_of fields q) b is in
      let s = spelled.2 in
      subst (λ x. list_all conjunct_names (where_conjuncts x.condition) ≡ true) own.1
      (where_several (where_written fields q.condition) (where_full fields q.condition s.after_table s.after_condition s.spells_condition))
