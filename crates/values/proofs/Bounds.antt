-- Where the least and the greatest value rule a test out, no value between them satisfies it.
use Rattle.std.proofs.Common.{◌≡◌, Bool, true, false, not, ◌&&◌, ◌||◌, List, [], ◌∷◌, map, refl, sym, ap, ◌∙◌, subst}
use Rattle.std.proofs.lemmas.Bool.{false≢true}
use Rattle.std.specs.declared.cmp.Ordering.{Ordering}
use Rattle.std.specs.declared.cmp.Ordering.TheVariants as order
use Rattle.std.specs.Ordering.{is_eq, is_ne, is_lt, is_le, is_gt, is_ge, ordering_reverse}
use Rattle.std.specs.Cmp.{upto, tied_itself, signed_Decides}
use Rattle.std.specs.Cmp.Lexicographic.{same_text}
use Rattle.values.specs.declared.value.Value.{Value}
use Rattle.values.specs.declared.value.Value.TheVariants.{Whole, Text}
use Rattle.values.specs.declared.test.CompareOp.{CompareOp}
use Rattle.values.specs.declared.test.CompareOp.TheVariants.{Equal, Unequal, Less, AtMost, More, AtLeast}
use Rattle.values.specs.declared.test.Test.{Test}
use Rattle.values.specs.declared.test.Test.TheOpen.{Test-F}
use Rattle.values.specs.declared.test.Test.TheFolds.{fold-roll-Test, ind-Test, map-Test}
use Rattle.values.specs.declared.test.Test.TheViews.{roll-Test}
use Rattle.values.specs.Order.{value_order, value_eq}
use Rattle.values.specs.Order.Laws.{value_order-total, value_eq-ties}
use Rattle.values.specs.Tests.{op_holds, negated_if, is_member, some_between, is_at_most, is_between, all_true, any_true, holds_step, holds, compare_may, one_of_may, between_may, may_step, may_hold, NoneHolds}

-- equal values are one value
pub same_value : (a b : Value) → value_eq a b ≡ true → a ≡ b
same_value (Whole x) (Whole y) e = ap Whole ((signed_Decides x y).0 e)
same_value (Whole x) (Text t) e = absurd (false≢true e)
same_value (Text s) (Whole y) e = absurd (false≢true e)
same_value (Text s) (Text t) e = ap Text (same_text s t (sym e))

-- ---- tests

by_false : (b : Bool) → (b ≡ true → ⊥) → b ≡ false
by_false true h = absurd (h refl)
by_false false h = refl

both : (p q : Bool) → p ≡ true → q ≡ true → p && q ≡ true
both p q e h = rw (e, h) refl

left : (p q : Bool) → p && q ≡ true → p ≡ true
left true q e = refl
left false q e = absurd (false≢true e)

right : (p q : Bool) → p && q ≡ true → q ≡ true
right true q e = e
right false q e = absurd (false≢true e)

denied : (b : Bool) → not b ≡ false → b ≡ true
denied true e = refl
denied false e = absurd (false≢true (sym e))

clash : (b : Bool) → b ≡ true → b ≡ false → ⊥
clash b e h = false≢true (sym h ∙ e)

neither : (p q : Bool) → p ≡ false → q ≡ false → p || q ≡ false
neither p q e h = rw (e, h) refl

first_so : (p q : Bool) → p ≡ true → p || q ≡ true
first_so p q e = rw e refl

first_false : (p q : Bool) → p || q ≡ false → p ≡ false
first_false true q e = e
first_false false q e = refl

second_false : (p q : Bool) → p || q ≡ false → q ≡ false
second_false true q e = absurd (false≢true (sym e))
second_false false q e = e

and_none : (p q r s : Bool) → (p ≡ false → r ≡ false) → (q ≡ false → s ≡ false) → p && q ≡ false → r && s ≡ false
and_none true q true s f g e = g e
and_none true q false s f g e = refl
and_none false q r s f g e = rw (f refl) refl

-- ---- the order by `at most`

not_above : (o : Ordering) → is_le o ≡ true → is_gt o ≡ false
not_above order.Less e = refl
not_above order.Equal e = refl
not_above order.Greater e = sym e

at_most_from : (o : Ordering) → is_gt o ≡ false → is_le o ≡ true
at_most_from order.Less e = refl
at_most_from order.Equal e = refl
at_most_from order.Greater e = sym e

chain : (a b c : Value) → is_at_most a b ≡ true → is_at_most b c ≡ true → is_at_most a c ≡ true
chain a b c p q = at_most_from (value_order a c) (upto value_order-total a b c (not_above (value_order a b) p) (not_above (value_order b c) q))

turned_lt : (o : Ordering) → is_lt (ordering_reverse o) ≡ not (is_le o)
turned_lt order.Less = refl
turned_lt order.Equal = refl
turned_lt order.Greater = refl

lt_is : (a b : Value) → is_lt (value_order a b) ≡ not (is_at_most b a)
lt_is a b = ap is_lt (value_order-total.antisymm a b) ∙ turned_lt (value_order b a)

gt_by : (o : Ordering) → is_gt o ≡ not (is_le o)
gt_by order.Less = refl
gt_by order.Equal = refl
gt_by order.Greater = refl

gt_is : (a b : Value) → is_gt (value_order a b) ≡ not (is_at_most a b)
gt_is a b = gt_by (value_order a b)

turned_ge : (o : Ordering) → is_ge (ordering_reverse o) ≡ is_le o
turned_ge order.Less = refl
turned_ge order.Equal = refl
turned_ge order.Greater = refl

ge_is : (a b : Value) → is_ge (value_order a b) ≡ is_at_most b a
ge_is a b = ap is_ge (value_order-total.antisymm a b) ∙ turned_ge (value_order b a)

tied_by : (o p : Ordering) → o ≡ ordering_reverse p → is_eq o ≡ is_le o && is_le p
tied_by o order.Less e = rw e refl
tied_by o order.Equal e = rw e refl
tied_by o order.Greater e = rw e refl

eq_is : (a b : Value) → is_eq (value_order a b) ≡ is_at_most a b && is_at_most b a
eq_is a b = tied_by (value_order a b) (value_order b a) (value_order-total.antisymm a b)

ne_by : (o : Ordering) → is_ne o ≡ not (is_eq o)
ne_by order.Less = refl
ne_by order.Equal = refl
ne_by order.Greater = refl

-- two values that are at most each other are one
tied : (a b : Value) → is_at_most a b ≡ true → is_at_most b a ≡ true → a ≡ b
tied a b p q = same_value a b (value_eq-ties a b ∙ eq_is a b ∙ both (is_at_most a b) (is_at_most b a) p q)

-- ---- a value between the least and the greatest

module _ (least greatest value : Value) (from : is_at_most least value ≡ true) (to : is_at_most value greatest ≡ true) where
  compare_none : (op : CompareOp) (bound : Value) → compare_may op least bound greatest ≡ false → op_holds op (value_order value bound) ≡ false
  compare_none Equal bound e = by_false (is_eq (value_order value bound)) (λ h.
      let ends : is_at_most value bound && is_at_most bound value ≡ true = sym (eq_is value bound) ∙ h in
      let above = chain least value bound from (left (is_at_most value bound) (is_at_most bound value) ends) in
      let below = chain bound value greatest (right (is_at_most value bound) (is_at_most bound value) ends) to in
      clash (is_between least bound greatest) (both (is_at_most least bound) (is_at_most bound greatest) above below) e)
  compare_none Unequal bound e =
      let ends = denied (value_eq least bound && value_eq greatest bound) e in
      let low = same_value least bound (left (value_eq least bound) (value_eq greatest bound) ends) in
      let high = same_value greatest bound (right (value_eq least bound) (value_eq greatest bound) ends) in
      let same = tied value bound (subst (λ g. is_at_most value g ≡ true) high to) (subst (λ l. is_at_most l value ≡ true) low from) in
      subst (λ b. is_ne (value_order value b) ≡ false) same (ne_by (value_order value value) ∙ ap (λ o. not (is_eq o)) (tied_itself value_order-total value))
  compare_none Less bound e =
      let over = denied (is_at_most bound least) (sym (lt_is least bound) ∙ e) in
      lt_is value bound ∙ ap not (chain bound least value over from)
  compare_none AtMost bound e = by_false (is_at_most value bound) (λ h. clash (is_at_most least bound) (chain least value bound from h) e)
  compare_none More bound e =
      let under = denied (is_at_most greatest bound) (sym (gt_is greatest bound) ∙ e) in
      gt_is value bound ∙ ap not (chain value greatest bound to under)
  compare_none AtLeast bound e = ge_is value bound ∙ by_false (is_at_most bound value) (λ h.
      clash (is_ge (value_order greatest bound)) (ge_is greatest bound ∙ chain bound value greatest h to) e)

  none_between : (members : List Value) → some_between members least greatest ≡ false → is_member members value ≡ false
  none_between [] e = refl
  none_between (m ∷ ms) e = neither (value_eq value m) (is_member ms value)
      (by_false (value_eq value m) (λ h. clash (is_between least m greatest || some_between ms least greatest)
      (first_so (is_between least m greatest) (some_between ms least greatest) (subst (λ v. is_between least v greatest ≡ true) (same_value value m h) (both (is_at_most least value) (is_at_most value greatest) from to))) e))
      (none_between ms (second_false (is_between least m greatest) (some_between ms least greatest) e))

  one_of_none : (negated : Bool) (members : List Value) → one_of_may negated members least greatest ≡ false → negated_if negated (is_member members value) ≡ false
  one_of_none false members e = none_between members e
  one_of_none true members e =
      let ends = denied (value_eq least greatest && is_member members least) e in
      let one = same_value least greatest (left (value_eq least greatest) (is_member members least) ends) in
      let same = tied least value from (subst (λ g. is_at_most value g ≡ true) (sym one) to) in
      ap not (subst (λ v. is_member members v ≡ true) same (right (value_eq least greatest) (is_member members least) ends))

  between_none : (negated : Bool) (low high : Value) → between_may negated low high least greatest ≡ false → negated_if negated (is_between low value high) ≡ false
  between_none false low high e = by_false (is_between low value high) (λ h.
      let over = left (is_at_most low value) (is_at_most value high) h in
      let under = right (is_at_most low value) (is_at_most value high) h in
      clash (is_at_most low high && is_at_most low greatest && is_at_most least high)
      (both (is_at_most low high && is_at_most low greatest) (is_at_most least high)
      (both (is_at_most low high) (is_at_most low greatest) (chain low value high over under) (chain low value greatest over to))
      (chain least value high from under)) e)
  between_none true low high e =
      let ends = denied (is_at_most low least && is_at_most greatest high) e in
      let over = chain low least value (left (is_at_most low least) (is_at_most greatest high) ends) from in
      let under = chain value greatest high to (right (is_at_most low least) (is_at_most greatest high) ends) in
      ap not (both (is_at_most low value) (is_at_most value high) over under)

-- where the test may not hold, no value between the two satisfies it
abbrev pub IsSound : Value → Value → Test → Type 0
IsSound least greatest test = may_hold least greatest test ≡ false → NoneHolds least greatest test

module _ (least greatest : Value) where
  all_none : (inner : List ((test : Test) × IsSound least greatest test)) (value : Value) → is_at_most least value ≡ true → is_at_most value greatest ≡ true
      → all_true (map (may_hold least greatest) (map (λ e. e.0) inner)) ≡ false → all_true (map (holds value) (map (λ e. e.0) inner)) ≡ false
  all_none [] value from to e = e
  all_none (t ∷ ts) value from to e = and_none (may_hold least greatest t.0) (all_true (map (may_hold least greatest) (map (λ e. e.0) ts))) (holds value t.0) (all_true (map (holds value) (map (λ e. e.0) ts)))
      (λ none. t.1 none value from to) (all_none ts value from to) e

  any_none : (inner : List ((test : Test) × IsSound least greatest test)) (value : Value) → is_at_most least value ≡ true → is_at_most value greatest ≡ true
      → any_true (map (may_hold least greatest) (map (λ e. e.0) inner)) ≡ false → any_true (map (holds value) (map (λ e. e.0) inner)) ≡ false
  any_none [] value from to e = e
  any_none (t ∷ ts) value from to e = neither (holds value t.0) (any_true (map (holds value) (map (λ e. e.0) ts)))
      (t.1 (first_false (may_hold least greatest t.0) (any_true (map (may_hold least greatest) (map (λ e. e.0) ts))) e) value from to)
      (any_none ts value from to (second_false (may_hold least greatest t.0) (any_true (map (may_hold least greatest) (map (λ e. e.0) ts))) e))

  sound_step : (y : Test-F ((test : Test) × IsSound least greatest test)) → may_step least greatest (map-Test Test Bool (may_hold least greatest) (map-Test ((test : Test) × IsSound least greatest test) Test (λ e. e.0) y)) ≡ false
      → (value : Value) → is_at_most least value ≡ true → is_at_most value greatest ≡ true
      → holds_step value (map-Test Test Bool (holds value) (map-Test ((test : Test) × IsSound least greatest test) Test (λ e. e.0) y)) ≡ false
  sound_step (Test-F.Compare op bound) e value from to = compare_none least greatest value from to op bound e
  sound_step (Test-F.OneOf members negated) e value from to = one_of_none least greatest value from to negated members e
  sound_step (Test-F.Between low high negated) e value from to = between_none least greatest value from to negated low high e
  sound_step (Test-F.All inner) e value from to = all_none inner value from to e
  sound_step (Test-F.Any inner) e value from to = any_none inner value from to e

pub may_hold-sound : (least greatest : Value) (test : Test) → IsSound least greatest test
may_hold-sound least greatest = ind-Test (IsSound least greatest) (λ x y is.
    subst (λ layer. IsSound least greatest (roll-Test layer)) is (λ e value from to.
    fold-roll-Test Bool (holds_step value) (map-Test ((test : Test) × IsSound least greatest test) Test (λ e. e.0) y)
    ∙ sound_step least greatest y (sym (fold-roll-Test Bool (may_step least greatest) (map-Test ((test : Test) × IsSound least greatest test) Test (λ e. e.0) y)) ∙ e) value from to))
