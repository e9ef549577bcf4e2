-- Where there are too many.
use Rattle.std.proofs.Common.{◌≡◌, ◌⊎◌, inl, inr, ℕ, suc, ◌+◌, ◌≤◌, ◌<◌, nat_lt, nat_le, ◌==◌, Bool, true, false, ◌||◌, cond, List, [], ◌∷◌, ◌++◌, length, length-append, map, Some, None, Ok, refl, sym, ap, ◌∙◌, subst, arith, rules, tests}
use Rattle.query_bind.specs.declared.fault.BindReason.TheVariants.{TooMany}
use Rattle.query_bind.specs.declared.fault.BindFault.TheVariants.{At}
use Rattle.query_bind.specs.declared.terms.Meaning.{Meaning}
use Rattle.query_bind.specs.declared.terms.Meaning.TheVariants as meaning
use Rattle.query_bind.specs.declared.terms.TermAt.{TermAt}
use Rattle.query_bind.specs.declared.terms.KeyAt.{KeyAt}
use Rattle.query_bind.specs.declared.terms.ColumnAt.{ColumnAt}
use Rattle.query_bind.specs.Faults.{Finding, fault_if}
use Rattle.query_bind.specs.Terms.{terms_of, with_new, with_column, columns_from, with_agg, aggs_from, aggs_before_keys, groups_of, aggs_of}
use Rattle.query_bind.specs.Limits.{aggs_finding, groups_finding, keys_finding, limits_finding}
use Rattle.std.proofs.lemmas.Bool.{ltb-false, leb-false}
use Rattle.std.proofs.lemmas.Option.{none-some}
use Rattle.table_schema.specs.declared.table.Table.{Table}
use Rattle.query_tokens.specs.declared.tree.Query.{Query}
use Rattle.query_bind.specs.declared.terms.Terms.{Terms}
use Rattle.query_bind.specs.Names.{table_finding, names_finding}
use Rattle.query_bind.specs.Grouped.{aggregate_finding, grouped_finding}
use Rattle.query_bind.specs.Bound.{Bound, bound_of, bound, query_finding, keys_of}
use Rattle.query_bind.proofs.PlaceLemmas.{answered}
use Rattle.query_bind.specs.Firsts.{FewGroups, FewAggs, FewKeys, FirstGroup, FirstAgg, FirstKey}
use Rattle.table_schema.specs.declared.query.Agg.{Agg}
use Rattle.table_schema.specs.Firsts.{or_else, first_of}
use Rattle.table_schema.specs.Aggs.{same_agg}
use Rattle.table_schema.proofs.FirstLaws.{first_none, rest_none}

-- ---- lists without repeats only grow

grows_by : {A : Type 0} (kept : List A) (x : A) (b : Bool) → length kept ≤ length (cond b kept (kept ++ x ∷ []))
grows_by kept x true = omega arith
grows_by kept x false = omega (arith, length-append kept (x ∷ []))

grows : {A : Type 0} (same : A → A → Bool) (kept : List A) (x : A) → length kept ≤ length (with_new same kept x)
grows same kept x = grows_by kept x _

pub columns_grow : (kept : List ℕ) (ns : List ColumnAt) → length kept ≤ length (columns_from kept ns)
columns_grow kept [] = omega arith
columns_grow kept (n ∷ ns) = omega (arith, grows (λ a b. b == a) kept n.column, columns_grow (with_column kept n.column) ns)

pub agg_grows : (kept : List Agg) (m : Meaning) → length kept ≤ length (with_agg kept m)
agg_grows kept (meaning.Column c) = omega arith
agg_grows kept (meaning.Agg a) = grows same_agg kept a

pub aggs_grow : (kept : List Agg) (ts : List TermAt) → length kept ≤ length (aggs_from kept ts)
aggs_grow kept [] = omega arith
aggs_grow kept (t ∷ ts) = omega (arith, agg_grows kept t.meaning, aggs_grow (with_agg kept t.meaning) ts)

-- ---- one place

or_true : (a : Bool) → (a || true) ≡ true
or_true true = refl
or_true false = refl

few_passes : (m k at : ℕ) (later : Finding) → k ≤ m → or_else (fault_if (nat_lt m k) TooMany at) later ≡ later
few_passes m k at later le =
    let at_most : nat_lt m k ≡ false = search (rules, tests) in
    ap (λ b. or_else (fault_if b TooMany at) later) at_most

many_stops : (m k at : ℕ) (later : Finding) → m < k → or_else (fault_if (nat_lt m k) TooMany at) later ≡ Some (At TooMany at)
many_stops m k at later lt =
    let many : nat_lt m k ≡ true = search (rules, tests) in
    ap (λ b. or_else (fault_if b TooMany at) later) many

-- ---- group columns

few_from : (kept : List ℕ) (ns : List ColumnAt) → length (columns_from kept ns) ≤ 8 → groups_finding kept ns ≡ None
few_from kept [] at_most = refl
few_from kept (n ∷ ns) at_most =
    few_passes 8 (length (with_column kept n.column)) n.offset _ (omega (arith, columns_grow (with_column kept n.column) ns, at_most))
    ∙ few_from (with_column kept n.column) ns at_most

first_from : (kept : List ℕ) (before : List ColumnAt) (n : ColumnAt) (after : List ColumnAt)
    → length (columns_from kept before) ≤ 8
    → 8 < length (columns_from kept (before ++ n ∷ []))
    → groups_finding kept (before ++ n ∷ after) ≡ Some (At TooMany n.offset)
first_from kept [] n after at_most many = many_stops 8 (length (with_column kept n.column)) n.offset _ many
first_from kept (m ∷ before) n after at_most many =
    few_passes 8 (length (with_column kept m.column)) m.offset _ (omega (arith, columns_grow (with_column kept m.column) before, at_most))
    ∙ first_from (with_column kept m.column) before n after at_most many

pub few_groups : FewGroups
few_groups = few_from []

pub first_group : FirstGroup
first_group = first_from []

-- ---- aggregates

few_aggs_from : (kept : List Agg) (ts : List TermAt) → length (aggs_from kept ts) ≤ 16 → aggs_finding kept ts ≡ None
few_aggs_from kept [] at_most = refl
few_aggs_from kept (t ∷ ts) at_most =
    few_passes 16 (length (with_agg kept t.meaning)) t.offset _ (omega (arith, aggs_grow (with_agg kept t.meaning) ts, at_most))
    ∙ few_aggs_from (with_agg kept t.meaning) ts at_most

first_agg_from : (kept : List Agg) (before : List TermAt) (t : TermAt) (after : List TermAt)
    → length (aggs_from kept before) ≤ 16
    → 16 < length (aggs_from kept (before ++ t ∷ []))
    → aggs_finding kept (before ++ t ∷ after) ≡ Some (At TooMany t.offset)
first_agg_from kept [] t after at_most many = many_stops 16 (length (with_agg kept t.meaning)) t.offset _ many
first_agg_from kept (s ∷ before) t after at_most many =
    few_passes 16 (length (with_agg kept s.meaning)) s.offset _ (omega (arith, aggs_grow (with_agg kept s.meaning) before, at_most))
    ∙ first_agg_from (with_agg kept s.meaning) before t after at_most many

pub few_aggs : FewAggs
few_aggs = few_aggs_from []

pub first_agg : FirstAgg
first_agg = first_agg_from []

-- ---- keys

key_passes : (others k at : ℕ) (later : Finding) → others < 16 → k ≤ 16 → or_else (fault_if (nat_le 16 others || nat_lt 16 k) TooMany at) later ≡ later
key_passes others k at later lt le =
    let one : nat_le 16 others ≡ false = search (rules, tests) in
    let two : nat_lt 16 k ≡ false = search (rules, tests) in
    ap (λ b. or_else (fault_if (b || nat_lt 16 k) TooMany at) later) one ∙ ap (λ b. or_else (fault_if b TooMany at) later) two

key_stops : (others k at : ℕ) (later : Finding) → (16 ≤ others) ⊎ (16 < k) → or_else (fault_if (nat_le 16 others || nat_lt 16 k) TooMany at) later ≡ Some (At TooMany at)
key_stops others k at later (inl le) =
    let one : nat_le 16 others ≡ true = search (rules, tests) in
    ap (λ b. or_else (fault_if (b || nat_lt 16 k) TooMany at) later) one
key_stops others k at later (inr lt) =
    let two : nat_lt 16 k ≡ true = search (rules, tests) in
    ap (λ b. or_else (fault_if (nat_le 16 others || b) TooMany at) later) two ∙ ap (λ b. or_else (fault_if b TooMany at) later) (or_true (nat_le 16 others))

at_once : {P : Type 0} (n : ℕ) → (16 ≤ n + 0) ⊎ P → (16 ≤ n) ⊎ P
at_once n (inl le) = inl (omega (arith, le))
at_once n (inr p) = inr p

one_more : {P : Type 0} (n m : ℕ) → (16 ≤ n + suc m) ⊎ P → (16 ≤ n + 1 + m) ⊎ P
one_more n m (inl le) = inl (omega (arith, le))
one_more n m (inr p) = inr p

few_keys_from : (others : ℕ) (kept : List Agg) (ks : List KeyAt) → others + length ks ≤ 16
    → length (aggs_from kept (map (λ k. k.term) ks)) ≤ 16 → keys_finding others kept ks ≡ None
few_keys_from others kept [] some at_most = refl
few_keys_from others kept (k ∷ ks) some at_most =
    key_passes others (length (with_agg kept k.term.meaning)) k.term.offset _ (omega (arith, some)) (omega (arith, aggs_grow (with_agg kept k.term.meaning) (map (λ k. k.term) ks), at_most))
    ∙ few_keys_from (others + 1) (with_agg kept k.term.meaning) ks (omega (arith, some)) at_most

first_key_from : (others : ℕ) (kept : List Agg) (before : List KeyAt) (k : KeyAt) (after : List KeyAt)
    → others + length before ≤ 16
    → length (aggs_from kept (map (λ k. k.term) before)) ≤ 16
    → (16 ≤ others + length before) ⊎ (16 < length (aggs_from kept (map (λ k. k.term) (before ++ k ∷ []))))
    → keys_finding others kept (before ++ k ∷ after) ≡ Some (At TooMany k.term.offset)
first_key_from others kept [] k after some at_most many = key_stops others (length (with_agg kept k.term.meaning)) k.term.offset _ (at_once others many)
first_key_from others kept (j ∷ before) k after some at_most many =
    key_passes others (length (with_agg kept j.term.meaning)) j.term.offset _ (omega (arith, some)) (omega (arith, aggs_grow (with_agg kept j.term.meaning) (map (λ k. k.term) before), at_most))
    ∙ first_key_from (others + 1) (with_agg kept j.term.meaning) before k after (omega (arith, some)) at_most (one_more others (length before) many)

from_0 : {P : Type 0} (n : ℕ) → (16 ≤ n) ⊎ P → (16 ≤ 0 + n) ⊎ P
from_0 n (inl le) = inl (omega (arith, le))
from_0 n (inr p) = inr p

pub few_keys : FewKeys
few_keys = λ aggs ks some at_most. few_keys_from 0 aggs ks (omega (arith, some)) at_most

pub first_key : FirstKey
first_key = λ aggs before k after some at_most many. first_key_from 0 aggs before k after (omega (arith, some)) at_most (from_0 (length before) many)

-- ---- what is kept where none is too many

within_by : (m k at : ℕ) (b : Bool) → nat_lt m k ≡ b → fault_if b TooMany at ≡ None → k ≤ m
within_by m k at true e passes = absurd (none-some (At TooMany at) (sym passes))
within_by m k at false e passes = ltb-false m k e

within : (m k at : ℕ) → fault_if (nat_lt m k) TooMany at ≡ None → k ≤ m
within m k at passes = within_by m k at (nat_lt m k) refl passes

both_by : (others k at : ℕ) (a b : Bool) → nat_le 16 others ≡ a → nat_lt 16 k ≡ b → fault_if (a || b) TooMany at ≡ None → (others < 16) × (k ≤ 16)
both_by others k at true b e f passes = absurd (none-some (At TooMany at) (sym passes))
both_by others k at false true e f passes = absurd (none-some (At TooMany at) (sym passes))
both_by others k at false false e f passes = (leb-false 16 others e, ltb-false 16 k f)

small_groups : (kept : List ℕ) (ns : List ColumnAt) → length kept ≤ 8 → groups_finding kept ns ≡ None → length (columns_from kept ns) ≤ 8
small_groups kept [] room passes = room
small_groups kept (n ∷ ns) room passes =
    let here = fault_if (nat_lt 8 (length (with_column kept n.column))) TooMany n.offset in
    small_groups (with_column kept n.column) ns (within 8 (length (with_column kept n.column)) n.offset (first_none here _ passes)) (rest_none here _ passes)

small_aggs : (kept : List Agg) (ts : List TermAt) → length kept ≤ 16 → aggs_finding kept ts ≡ None → length (aggs_from kept ts) ≤ 16
small_aggs kept [] room passes = room
small_aggs kept (t ∷ ts) room passes =
    let here = fault_if (nat_lt 16 (length (with_agg kept t.meaning))) TooMany t.offset in
    small_aggs (with_agg kept t.meaning) ts (within 16 (length (with_agg kept t.meaning)) t.offset (first_none here _ passes)) (rest_none here _ passes)

small_keys : (others : ℕ) (kept : List Agg) (ks : List KeyAt) → others ≤ 16 → length kept ≤ 16 → keys_finding others kept ks ≡ None
    → (length (aggs_from kept (map (λ k. k.term) ks)) ≤ 16) × (others + length ks ≤ 16)
small_keys others kept [] some room passes = (room, omega (arith, some))
small_keys others kept (k ∷ ks) some room passes =
    let len = length (with_agg kept k.term.meaning) in
    let here = fault_if (nat_le 16 others || nat_lt 16 len) TooMany k.term.offset in
    let parts = both_by others len k.term.offset (nat_le 16 others) (nat_lt 16 len) refl refl (first_none here _ passes) in
    let rest = small_keys (others + 1) (with_agg kept k.term.meaning) ks (omega (arith, parts.0)) parts.1 (rest_none here _ passes) in
    (rest.0, omega (arith, rest.1))

as_many_keys : (groups : List ℕ) (aggs : List Agg) (ks : List KeyAt) → length (keys_of groups aggs ks) ≡ length ks
as_many_keys groups aggs [] = refl
as_many_keys groups aggs (k ∷ ks) = ap suc (as_many_keys groups aggs ks)

module _ (table : Table) (any_table : Bool) (q : Query) (b : Bound) (is : bound table any_table q ≡ Ok b) where
  abbrev terms : Terms
  terms = terms_of table.schema.fields q

  own : (query_finding table any_table q ≡ None) × (bound_of table.schema.fields q ≡ b)
  own = answered (query_finding table any_table q) (bound_of table.schema.fields q) b is

  limits : limits_finding terms ≡ None
  limits = first_none (limits_finding terms) _ (rest_none (grouped_finding q) _ (rest_none (aggregate_finding q) _
      (rest_none (names_finding table.schema.fields q) _ (rest_none (table_finding table any_table q) _ own.0))))

  following_aggs : first_of (groups_finding [] terms.groups ∷ aggs_finding (aggs_from [] terms.items) terms.having ∷ keys_finding 0 (aggs_before_keys terms) terms.keys ∷ []) ≡ None
  following_aggs = rest_none (aggs_finding [] terms.items) _ limits

  keys : (length (aggs_of terms) ≤ 16) × (0 + length terms.keys ≤ 16)
  keys =
      let following_groups = rest_none (groups_finding [] terms.groups) _ following_aggs in
      small_keys 0 (aggs_before_keys terms) terms.keys (omega arith)
      (small_aggs (aggs_from [] terms.items) terms.having
      (small_aggs [] terms.items (omega arith) (first_none (aggs_finding [] terms.items) _ limits)) (first_none (aggs_finding (aggs_from [] terms.items) terms.having) _ following_groups))
      (first_none (keys_finding 0 (aggs_before_keys terms) terms.keys) _ (rest_none (aggs_finding (aggs_from [] terms.items) terms.having) _ following_groups))

  kept : (length (groups_of terms) ≤ 8) × (length (aggs_of terms) ≤ 16) × (length (keys_of (groups_of terms) (aggs_of terms) terms.keys) ≤ 16)
  kept = (
    small_groups [] terms.groups (omega arith) (first_none (groups_finding [] terms.groups) _ following_aggs),
    keys.0,
    omega (arith, keys.1, as_many_keys (groups_of terms) (aggs_of terms) terms.keys),
  )

  pub limits_kept : (length b.groups ≤ 8) × (length b.aggs ≤ 16) × (length b.order ≤ 16)
  limits_kept = subst (λ x. (length x.groups ≤ 8) × (length x.aggs ≤ 16) × (length x.order ≤ 16)) own.1 kept
