-- The rows of one key after another, added to groups.
use Rattle.std.proofs.Common.{◌≡◌, ◌∙◌, ◌<◌, ◌≤◌, ◌+◌, ◌-◌, ◌++◌, [], ℕ, List, length, get_or, sym, subst, arith, append_assoc}
use Rattle.std.proofs.lemmas.List.{length-append}
use Rattle.std.proofs.lemmas.List.Sorted.{IsPermutation-append_left, IsPermutation-sym, IsPermutation-trans, length_permutation}
use Rattle.std.specs.List.Sorted.{IsPermutation}
use Rattle.values.specs.declared.value.Value.{Value}
use Rattle.agg_laws.specs.Numbers.{most_values}
use Rattle.table_schema.specs.declared.query.BoundQuery.{BoundQuery}
use Rattle.group_table.specs.Kept.{KeptGroups, groups_in}
use Rattle.group_table.specs.Shape.{shape_of}
use Rattle.group_table.proofs.GroupsLemmas.{permuted_adds}
use Rattle.scan_engine.specs.Scanned.{AddsRows, HaveAtMost, IsOverfull}
use Rattle.scan_engine.proofs.AddLemmas.{adds_both, at_most_more, overfull_later}
use Rattle.coded_columns.specs.Slots.{before_slot, from_slot, in_slot}
use Rattle.coded_columns.proofs.SlotLemmas.{before-all, before-few, before-none, next-permuted, parts-permuted}

-- rows in another order have the same groups
pub adds-permuted : (query : BoundQuery) (count : ℕ) (xs ys : List (List Value)) (old new : KeptGroups) → IsPermutation xs ys → AddsRows query count xs old new → AddsRows query count ys old new
adds-permuted query count xs ys old new p a = record {
  of_query = a.of_query;
  most = a.most;
  groups = permuted_adds (shape_of query) xs ys (groups_in old) (groups_in new) p a.groups;
  fits = a.fits;
}

pub overfull-permuted : (query : BoundQuery) (xs ys : List (List Value)) (table : KeptGroups) → IsPermutation xs ys → IsOverfull query xs table → IsOverfull query ys table
overfull-permuted query xs ys table p over new adds =
    over new (permuted_adds (shape_of query) ys xs (groups_in table) new (IsPermutation-sym xs ys p) adds)

module _ (query : BoundQuery) (slots : List ℕ) (rows : List (List Value)) where
  -- how many rows there are before the next slot
  pub count-next : (n : ℕ) → length (before_slot (n + 1) slots rows) ≡ length (before_slot n slots rows) + length (in_slot n slots rows)
  count-next n = length_permutation (before_slot n slots rows ++ in_slot n slots rows) (before_slot (n + 1) slots rows) (next-permuted n slots rows) ∙ length-append (before_slot n slots rows) (in_slot n slots rows)

  -- the rows of one slot more
  pub merge-next : (n : ℕ) (old mid new : KeptGroups) → AddsRows query (length (before_slot n slots rows)) (before_slot n slots rows) old mid → AddsRows query (length (in_slot n slots rows)) (in_slot n slots rows) mid new
      → AddsRows query (length (before_slot (n + 1) slots rows)) (before_slot (n + 1) slots rows) old new
  merge-next n old mid new a b =
      subst (λ k. AddsRows query k (before_slot (n + 1) slots rows) old new) (sym (count-next n))
      (adds-permuted query (length (before_slot n slots rows) + length (in_slot n slots rows)) (before_slot n slots rows ++ in_slot n slots rows) (before_slot (n + 1) slots rows) old new (next-permuted n slots rows)
      (adds_both query (length (before_slot n slots rows)) (length (in_slot n slots rows)) (before_slot n slots rows) (in_slot n slots rows) old mid new a b))

  pub merge-none : (table : KeptGroups) → AddsRows query 0 [] table table → AddsRows query (length (before_slot 0 slots rows)) (before_slot 0 slots rows) table table
  merge-none table a = subst (λ (l : List (List Value)). AddsRows query (length l) l table table) (sym (before-none slots rows)) a

  pub merge-all : (n : ℕ) (old new : KeptGroups) → length slots ≡ length rows → ((k : ℕ) → k < length rows → get_or slots k 0 < n) → AddsRows query (length (before_slot n slots rows)) (before_slot n slots rows) old new → AddsRows query (length rows) rows old new
  merge-all n old new same below a = subst (λ (l : List (List Value)). AddsRows query (length l) l old new) (before-all n slots rows same below) a

  -- too many groups with the rows of a slot are too many with all
  pub merge-overfull : (n : ℕ) (old mid : KeptGroups) → length slots ≡ length rows → AddsRows query (length (before_slot n slots rows)) (before_slot n slots rows) old mid → IsOverfull query (in_slot n slots rows) mid → IsOverfull query rows old
  merge-overfull n old mid same a over =
      let front = before_slot n slots rows in
      let own = in_slot n slots rows in
      let rest = from_slot (n + 1) slots rows in
      let next = before_slot (n + 1) slots rows in
      let there = overfull_later query (length front) front own rest old mid a over in
      let regrouped : IsOverfull query ((front ++ own) ++ rest) old = subst (λ (l : List (List Value)). IsOverfull query l old) (sym (append_assoc front own rest)) there in
      overfull-permuted query ((front ++ own) ++ rest) rows old
      (IsPermutation-trans ((front ++ own) ++ rest) (next ++ rest) rows (IsPermutation-append_left rest (front ++ own) next (next-permuted n slots rows)) (parts-permuted (n + 1) slots rows same))
      regrouped

  -- there is room for the values of the rows of a slot
  pub room-next : (n : ℕ) (old mid : KeptGroups) → length rows ≤ most_values → HaveAtMost (most_values - length rows) (groups_in old) → AddsRows query (length (before_slot n slots rows)) (before_slot n slots rows) old mid
      → HaveAtMost (most_values - length (in_slot n slots rows)) (groups_in mid)
  room-next n old mid at_most h a =
      at_most_more (groups_in mid) ((most_values - length rows) + length (before_slot n slots rows)) (most_values - length (in_slot n slots rows))
      (omega (arith, at_most, count-next n, before-few (n + 1) slots rows)) (a.fits (most_values - length rows) h)
