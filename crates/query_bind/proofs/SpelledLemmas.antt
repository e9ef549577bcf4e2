-- What the grammar keeps out of a query that some text spells: ANDs and ORs without members, and `*` in other calls than COUNT.
use Rattle.std.proofs.Common.{◌≡◌, ℕ, zero, suc, ◌<◌, Bool, true, false, ◌&&◌, List, [], ◌∷◌, length, map, flat_map, Option, Some, None, is_some, refl, sym, ap, ◌∙◌, subst, inl, inr, arith}
use Rattle.std.specs.List.{list_all}
use Rattle.std.proofs.lemmas.Bool.{false≢true}
use Rattle.std.proofs.lemmas.List.Folds.{list_all-append}
use Rattle.table_schema.specs.declared.field.Field.{Field}
use Rattle.values.specs.declared.test.CompareOp.{CompareOp}
use Rattle.query_tokens.specs.declared.token.Kind.{Kind}
use Rattle.query_tokens.specs.declared.token.Kind.TheVariants as k
use Rattle.query_tokens.specs.declared.tree.NameAt.{NameAt}
use Rattle.query_tokens.specs.declared.tree.LiteralAt.{LiteralAt}
use Rattle.query_tokens.specs.declared.tree.Func.{Func}
use Rattle.query_tokens.specs.declared.tree.Argument.{Argument}
use Rattle.query_tokens.specs.declared.tree.Argument.TheVariants as argument
use Rattle.query_tokens.specs.declared.tree.Term.{Term}
use Rattle.query_tokens.specs.declared.tree.Term.TheVariants as term
use Rattle.query_tokens.specs.declared.tree.QueryKey.{QueryKey}
use Rattle.query_tokens.specs.declared.tree.Query.{Query}
use Rattle.query_tokens.specs.declared.tree.Cond.{Cond}
use Rattle.query_tokens.specs.declared.tree.Cond.TheVariants as cond
use Rattle.query_tokens.specs.declared.tree.Cond.TheVariants.{rolls-Compare, rolls-OneOf, rolls-Between, rolls-Not}
use Rattle.query_tokens.specs.declared.tree.Cond.TheOpen.{Cond-F}
use Rattle.query_tokens.specs.declared.tree.Cond.TheFolds.{fold-roll-Cond}
use Rattle.query_tokens.specs.declared.tree.HavingCond.{HavingCond}
use Rattle.query_tokens.specs.declared.tree.HavingCond.TheVariants as asked
use Rattle.query_tokens.specs.Stream.{Stream}
use Rattle.query_parser.specs.Cond.{joined, row_joints, deepest}
use Rattle.query_parser.specs.Query.{is_count, group_joints}
use Rattle.query_parser.specs.Spells.{Rule, SpellsList, SpellsTest, SpellsConjunction, SpellsCond, SpellsFactor, SpellsCondition}
use Rattle.query_parser.specs.SpellsQuery.{SpellsArgument, SpellsTerm, SpellsGroupTest, SpellsHaving, SpellsHavingIf, SpellsItem, SpellsKey, SpellsBy, SpellsListed, SpellsOptional, SpellsQuery}
use Rattle.query_bind.specs.Written.{Written, Compare, OneOf, Between, Not, All, Any, Members, no_members, member, members_of, written_step, written, where_written}
use Rattle.query_bind.specs.GroupTests.{GroupTest, tests_of, having_tests}
use Rattle.query_bind.proofs.HavingLemmas.{tests_of-Compare, tests_of-Not, tests_of-All, tests_of-Any}
use Rattle.query_bind.proofs.Truth.{and_of}
use Rattle.query_bind.proofs.JointLemmas.{written-All, written-Any}

-- ---- conditions

-- each AND and OR has a member
abbrev mutual
  pub is_full : Written → Bool
  is_full (Compare c op v) = true
  is_full (OneOf c vs n) = true
  is_full (Between c low high n) = true
  is_full (Not w) = is_full w
  is_full (All ws) = some_full ws
  is_full (Any ws) = some_full ws

  -- there is a member, and each is full
  pub some_full : Members → Bool
  some_full no_members = false
  some_full (member w ws) = is_full w && all_full ws

  pub all_full : Members → Bool
  all_full no_members = true
  all_full (member w ws) = is_full w && all_full ws

abbrev pub WhereIsFull : Option Written → Type 0
WhereIsFull None = Unit {0}
WhereIsFull (Some w) = is_full w ≡ true

module _ (fields : List Field) where
  abbrev IsFull : Cond → Type 0
  IsFull c = is_full (written fields c) ≡ true

  compare_full : (n : NameAt) (op : CompareOp) (l : LiteralAt) → IsFull (cond.Compare n op l)
  compare_full n op l = ap (λ c. is_full (written fields c)) (sym (rolls-Compare n op l)) ∙ ap is_full (fold-roll-Cond Written (written_step fields) (Cond-F.Compare n op l))

  one_of_full : (n : NameAt) (ls : List LiteralAt) (m : Bool) → IsFull (cond.OneOf n ls m)
  one_of_full n ls m = ap (λ c. is_full (written fields c)) (sym (rolls-OneOf n ls m)) ∙ ap is_full (fold-roll-Cond Written (written_step fields) (Cond-F.OneOf n ls m))

  between_full : (n : NameAt) (low high : LiteralAt) (m : Bool) → IsFull (cond.Between n low high m)
  between_full n low high m = ap (λ c. is_full (written fields c)) (sym (rolls-Between n low high m)) ∙ ap is_full (fold-roll-Cond Written (written_step fields) (Cond-F.Between n low high m))

  not_full : (inner : Cond) → IsFull inner → IsFull (cond.Not inner)
  not_full inner full = ap (λ c. is_full (written fields c)) (sym (rolls-Not inner)) ∙ ap is_full (fold-roll-Cond Written (written_step fields) (Cond-F.Not inner)) ∙ full

  abbrev AreFull : List Cond → Type 0
  AreFull cs = all_full (members_of (map (written fields) cs)) ≡ true

  conjunction_full : (c : Cond) (cs : List Cond) → AreFull (c ∷ cs) → IsFull (cond.All (c ∷ cs))
  conjunction_full c cs full = ap is_full (written-All fields (c ∷ cs)) ∙ full

  either_full : (c : Cond) (cs : List Cond) → AreFull (c ∷ cs) → IsFull (cond.Any (c ∷ cs))
  either_full c cs full = ap is_full (written-Any fields (c ∷ cs)) ∙ full

  test_full : (ts : Stream) (c : Cond) (us : Stream) → SpellsTest ts c us → IsFull c
  test_full ts c us s = elim s [
    | inl t ↦ subst IsFull (sym t.tree) (compare_full t.column t.op t.value)
    | inr r ↦ elim r [
      | inl t ↦ subst IsFull (sym t.tree) (one_of_full t.column t.values t.negated)
      | inr t ↦ subst IsFull (sym t.tree) (between_full t.column t.low t.high t.negated)
    ]
  ]

  module _ (rule : Rule Cond) (each : (ts : Stream) (c : Cond) (us : Stream) → rule ts c us → IsFull c) where
    list_full : (sep : Kind) (cs : List Cond) (ts us : Stream) → SpellsList sep rule ts cs us → AreFull cs
    list_full sep [] ts us s = absurd s
    list_full sep (c ∷ []) ts us s = and_of (is_full (written fields c)) true (each ts c us s) refl
    list_full sep (c ∷ d ∷ cs) ts us s = and_of (is_full (written fields c)) _ (each ts c s.0 s.2) (list_full sep (d ∷ cs) s.1 us s.4)

    joined_full : (sep : Kind) (joint : List Cond → Cond) → ((c : Cond) (cs : List Cond) → AreFull (c ∷ cs) → IsFull (joint (c ∷ cs)))
        → (cs : List Cond) (ts us : Stream) → SpellsList sep rule ts cs us → IsFull (joined joint cs)
    joined_full sep joint full [] ts us s = absurd s
    joined_full sep joint full (c ∷ []) ts us s = each ts c us s
    joined_full sep joint full (c ∷ d ∷ cs) ts us s = full c (d ∷ cs) (list_full sep (c ∷ d ∷ cs) ts us s)

    ands_full : (ts : Stream) (c : Cond) (us : Stream) → SpellsConjunction row_joints rule ts c us → IsFull c
    ands_full ts c us s = subst IsFull (sym s.2) (joined_full k.And cond.All conjunction_full s.0 ts us s.1)

  ors_full : (rule : Rule Cond) → ((ts : Stream) (c : Cond) (us : Stream) → rule ts c us → IsFull c)
      → (ts : Stream) (c : Cond) (us : Stream) → SpellsCond row_joints rule ts c us → IsFull c
  ors_full rule each ts c us s = subst IsFull (sym s.2) (joined_full (SpellsConjunction row_joints rule) (ands_full rule each) k.Or cond.Any either_full s.0 ts us s.1)

  factor_full : (d : ℕ) (ts : Stream) (c : Cond) (us : Stream) → SpellsFactor SpellsTest row_joints d ts c us → IsFull c
  unfolding SpellsFactor
  factor_full zero ts c us s = test_full ts c us s
  factor_full (suc d) ts c us s = elim s [
    | inl t ↦ test_full ts c us t
    | inr r ↦ elim r [
      | inl n ↦ subst IsFull (sym n.4) (not_full n.1 (factor_full d n.0 n.1 us n.3))
      | inr g ↦ ors_full (SpellsFactor SpellsTest row_joints d) (factor_full d) g.0 c g.1 g.3
    ]
  ]

  condition_full : (ts : Stream) (c : Cond) (us : Stream) → SpellsCondition ts c us → IsFull c
  condition_full = ors_full (SpellsFactor SpellsTest row_joints deepest) (factor_full deepest)

  pub where_full : (o : Option Cond) (ts us : Stream) → SpellsOptional k.Where SpellsCondition ts o us → WhereIsFull (where_written fields o)
  where_full None ts us s = tt
  where_full (Some c) ts us s = condition_full s.0 c us s.2

-- ---- terms

abbrev pub takes_argument : Func → Argument → Bool
takes_argument f argument.Star = is_count f
takes_argument f (argument.Column n) = true

-- `*` stands in COUNT alone
abbrev pub is_term : Term → Bool
is_term (term.Column n) = true
is_term (term.Call c) = takes_argument c.func c.argument

argument_taken : (f : Func) (ts : Stream) (a : Argument) (us : Stream) → SpellsArgument f ts a us → takes_argument f a ≡ true
argument_taken f ts a us s = elim s [ inl n ↦ ap (takes_argument f) n.2 ∙ n.1 | inr n ↦ ap (takes_argument f) n.2 ]

spelled_term : (ts : Stream) (x : Term) (us : Stream) → SpellsTerm ts x us → is_term x ≡ true
spelled_term ts x us s = elim s [ inl n ↦ ap is_term n.2 | inr t ↦ ap is_term t.tree ∙ argument_taken t.func t.inside t.argument t.at_close t.spells_argument ]

all_spelled : {A : Type 0} (p : A → Bool) (sep : Kind) (rule : Rule A) → ((ts : Stream) (x : A) (us : Stream) → rule ts x us → p x ≡ true)
    → (xs : List A) (ts us : Stream) → SpellsList sep rule ts xs us → list_all p xs ≡ true
all_spelled p sep rule each [] ts us s = absurd s
all_spelled p sep rule each (x ∷ []) ts us s = and_of (p x) true (each ts x us s) refl
all_spelled p sep rule each (x ∷ y ∷ xs) ts us s = and_of (p x) _ (each ts x s.0 s.2) (all_spelled p sep rule each (y ∷ xs) s.1 us s.4)

pub spelled_items : (ts : Stream) (q : Query) → SpellsQuery ts q → list_all (λ i. is_term i.term) q.items ≡ true
spelled_items ts q s = all_spelled (λ i. is_term i.term) k.Comma SpellsItem (λ ts i us t. spelled_term ts i.term t.0 t.1) q.items s.at_items s.at_from s.spells_items

keys_by : (ks : List QueryKey) (ts us : Stream) → SpellsListed k.Order (SpellsBy SpellsKey) ts ks us → list_all (λ i. is_term i.term) ks ≡ true
keys_by [] ts us s = refl
keys_by (i ∷ ks) ts us s = all_spelled (λ i. is_term i.term) k.Comma SpellsKey (λ ts i us t. spelled_term ts i.term t.0 t.1) (i ∷ ks) s.2.0 us s.2.2

pub spelled_keys : (ts : Stream) (q : Query) → SpellsQuery ts q → list_all (λ i. is_term i.term) q.order ≡ true
spelled_keys ts q s = keys_by q.order s.after_having s.after_order s.spells_order

-- ---- HAVING

-- `*` stands in COUNT alone
abbrev pub is_test : GroupTest → Bool
is_test t = is_term t.tested

abbrev IsWritten : HavingCond → Type 0
IsWritten h = list_all is_test (tests_of h) ≡ true

abbrev AreWritten : List HavingCond → Type 0
AreWritten hs = list_all is_test (flat_map tests_of hs) ≡ true

test_written : (ts : Stream) (h : HavingCond) (us : Stream) → SpellsGroupTest ts h us → IsWritten h
test_written ts h us t = subst IsWritten (sym t.tree)
    (ap (list_all is_test) (tests_of-Compare t.tested t.op t.value) ∙ and_of (is_term t.tested) true (spelled_term ts t.tested (t.sign ∷ t.rest) t.spells_term) refl)

not_written : (inner : HavingCond) → IsWritten inner → IsWritten (asked.Not inner)
not_written inner own = ap (list_all is_test) (tests_of-Not inner) ∙ own

all_written : (hs : List HavingCond) → AreWritten hs → IsWritten (asked.All hs)
all_written hs own = ap (list_all is_test) (tests_of-All hs) ∙ own

any_written : (hs : List HavingCond) → AreWritten hs → IsWritten (asked.Any hs)
any_written hs own = ap (list_all is_test) (tests_of-Any hs) ∙ own

module _ (rule : Rule HavingCond) (each : (ts : Stream) (h : HavingCond) (us : Stream) → rule ts h us → IsWritten h) where
  list_written : (sep : Kind) (hs : List HavingCond) (ts us : Stream) → SpellsList sep rule ts hs us → AreWritten hs
  list_written sep [] ts us s = absurd s
  list_written sep (h ∷ []) ts us s = list_all-append is_test (tests_of h) [] ∙ and_of (list_all is_test (tests_of h)) true (each ts h us s) refl
  list_written sep (h ∷ g ∷ hs) ts us s =
      list_all-append is_test (tests_of h) (flat_map tests_of (g ∷ hs)) ∙ and_of (list_all is_test (tests_of h)) _ (each ts h s.0 s.2) (list_written sep (g ∷ hs) s.1 us s.4)

  joined_written : (sep : Kind) (joint : List HavingCond → HavingCond) → ((hs : List HavingCond) → AreWritten hs → IsWritten (joint hs))
      → (hs : List HavingCond) (ts us : Stream) → SpellsList sep rule ts hs us → IsWritten (joined joint hs)
  joined_written sep joint written [] ts us s = absurd s
  joined_written sep joint written (h ∷ []) ts us s = each ts h us s
  joined_written sep joint written (h ∷ g ∷ hs) ts us s = written (h ∷ g ∷ hs) (list_written sep (h ∷ g ∷ hs) ts us s)

  ands_written : (ts : Stream) (h : HavingCond) (us : Stream) → SpellsConjunction group_joints rule ts h us → IsWritten h
  ands_written ts h us s = subst IsWritten (sym s.2) (joined_written k.And asked.All all_written s.0 ts us s.1)

ors_written : (rule : Rule HavingCond) → ((ts : Stream) (h : HavingCond) (us : Stream) → rule ts h us → IsWritten h)
    → (ts : Stream) (h : HavingCond) (us : Stream) → SpellsCond group_joints rule ts h us → IsWritten h
ors_written rule each ts h us s = subst IsWritten (sym s.2) (joined_written (SpellsConjunction group_joints rule) (ands_written rule each) k.Or asked.Any any_written s.0 ts us s.1)

factor_written : (d : ℕ) (ts : Stream) (h : HavingCond) (us : Stream) → SpellsFactor SpellsGroupTest group_joints d ts h us → IsWritten h
unfolding SpellsFactor
factor_written zero ts h us s = test_written ts h us s
factor_written (suc d) ts h us s = elim s [
  | inl t ↦ test_written ts h us t
  | inr r ↦ elim r [
    | inl n ↦ subst IsWritten (sym n.4) (not_written n.1 (factor_written d n.0 n.1 us n.3))
    | inr g ↦ ors_written (SpellsFactor SpellsGroupTest group_joints d) (factor_written d) g.0 h g.1 g.3
  ]
]

having_written : (ts : Stream) (h : HavingCond) (us : Stream) → SpellsHaving ts h us → IsWritten h
having_written = ors_written (SpellsFactor SpellsGroupTest group_joints deepest) (factor_written deepest)

having_by : (gs : List NameAt) (ts : Stream) (o : Option HavingCond) (us : Stream) → SpellsHavingIf gs ts o us → list_all is_test (having_tests o) ≡ true
having_by gs ts None us s = refl
having_by [] ts (Some h) us s = absurd (false≢true (ap is_some (sym s.1)))
having_by (g ∷ gs) ts (Some h) us s = having_written s.0 h us s.2

pub spelled_having : (ts : Stream) (q : Query) → SpellsQuery ts q → list_all is_test (having_tests q.having) ≡ true
spelled_having ts q s = having_by q.groups s.after_groups q.having s.after_having s.spells_having

groups_by : (gs : List NameAt) (ts : Stream) (o : Option HavingCond) (us : Stream) → SpellsHavingIf gs ts o us → is_some o ≡ true → 0 < length gs
groups_by [] ts o us s e = absurd (false≢true (ap is_some (sym s.1) ∙ e))
groups_by (g ∷ gs) ts o us s e = omega arith

-- HAVING stands only behind GROUP BY
pub spelled_groups : (ts : Stream) (q : Query) → SpellsQuery ts q → is_some q.having ≡ true → 0 < length q.groups
spelled_groups ts q s e = groups_by q.groups s.after_groups q.having s.after_having s.spells_having e
