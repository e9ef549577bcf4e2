-- The distinct values of a column: they ascend, have the members of the column, and are the only such list.
use Rattle.std.proofs.Common.{◌≡◌, ◌∙◌, ◌≤◌, ◌+◌, Bool, true, false, ◌||◌, List, [], ◌∷◌, length, refl, sym, ap, subst, arith}
use Rattle.std.proofs.lemmas.Bool.{false≢true}
use Rattle.std.proofs.lemmas.Map.Keys.{sorted_head, sorted_tail}
use Rattle.std.proofs.lemmas.List.Elements.{All-contains}
use Rattle.std.proofs.lemmas.Map.Views.{All-from_any, Contains-from_any}
use Rattle.std.specs.List.{All, AllByRecursion}
use Rattle.std.specs.List.Sorted.{IsStrictlySortedBy}
use Rattle.std.specs.Ordering.{match_ordering, ordering_reverse, is_eq}
use Rattle.std.specs.declared.cmp.Ordering.{Ordering}
use Rattle.std.specs.declared.cmp.Ordering.TheVariants as order
use Rattle.values.specs.declared.value.Value.{Value}
use Rattle.values.specs.Order.{value_order, value_eq}
use Rattle.values.specs.Order.Laws.{value_order-total, value_eq-ties, value_eq-equiv}
use Rattle.values.proofs.Bounds.{same_value}
use Rattle.values.specs.Tests.{is_member}
use Rattle.data_types.specs.declared.kind.FieldKind.{FieldKind}
use Rattle.value_ids.specs.Dictionary.{Ascends, Fits, IsDictionary, IsUnicode, most_values, put_in, distinct}

pub cons_ascends : (v : Value) (vs : List Value) → AllByRecursion (λ w. value_order v w ≡ order.Less) vs → Ascends vs → Ascends (v ∷ vs)
unfolding IsStrictlySortedBy
cons_ascends v vs below up = (below, up)

pub nil_ascends : Ascends []
unfolding IsStrictlySortedBy
nil_ascends = tt

abbrev Below : Value → List Value → Type 0
Below v = AllByRecursion (λ w. value_order v w ≡ order.Less)

below_more : (v w : Value) (vs : List Value) → value_order v w ≡ order.Less → Below w vs → Below v vs
below_more v w [] e h = tt
below_more v w (x ∷ xs) e h = (value_order-total.trans v w x e h.0, below_more v w xs e h.1)

turned : (v w : Value) (o : Ordering) → value_order v w ≡ o → value_order w v ≡ ordering_reverse o
turned v w o e = value_order-total.antisymm w v ∙ ap ordering_reverse e

tied : (v w : Value) → value_order v w ≡ order.Equal → v ≡ w
tied v w e = same_value v w (value_eq-ties v w ∙ ap is_eq e)

-- ---- putting a value in its place

put_below : (x v : Value) (vs : List Value) → value_order x v ≡ order.Less → Below x vs → Below x (put_in v vs)
put_below x v [] e h = (e, tt)
put_below x v (w ∷ ws) e h =
    elim (value_order v w) as (λ o. Below x (match_ordering o (v ∷ w ∷ ws) (w ∷ ws) (w ∷ put_in v ws))) [
      | order.Less ↦ (e, h)
      | order.Equal ↦ h
      | order.Greater ↦ (h.0, put_below x v ws e h.1)
    ]

put_ascends_by : (v w : Value) (ws : List Value) (o : Ordering) → value_order v w ≡ o → Ascends (w ∷ ws) → Ascends (put_in v ws) → Ascends (match_ordering o (v ∷ w ∷ ws) (w ∷ ws) (w ∷ put_in v ws))
put_ascends_by v w ws order.Less e up more = cons_ascends v (w ∷ ws) (e, below_more v w ws e (sorted_head value_order w ws up)) up
put_ascends_by v w ws order.Equal e up more = up
put_ascends_by v w ws order.Greater e up more = cons_ascends w (put_in v ws) (put_below w v ws (turned v w order.Greater e) (sorted_head value_order w ws up)) more

put_ascends : (v : Value) (vs : List Value) → Ascends vs → Ascends (put_in v vs)
put_ascends v [] up = cons_ascends v [] tt nil_ascends
put_ascends v (w ∷ ws) up = put_ascends_by v w ws (value_order v w) refl up (put_ascends v ws (sorted_tail value_order w ws up))

pub distinct_ascends : (vs : List Value) → Ascends (distinct vs)
distinct_ascends [] = nil_ascends
distinct_ascends (v ∷ vs) = put_ascends v (distinct vs) (distinct_ascends vs)

-- ---- members

or_turn : (a b c : Bool) → a || (b || c) ≡ b || (a || c)
or_turn true true c = refl
or_turn true false c = refl
or_turn false true c = refl
or_turn false false c = refl

or_twice : (a c : Bool) → a || c ≡ a || (a || c)
or_twice true c = refl
or_twice false c = refl

put_members_by : (q v w : Value) (ws : List Value) (o : Ordering) → value_order v w ≡ o → is_member (put_in v ws) q ≡ value_eq q v || is_member ws q
    → is_member (match_ordering o (v ∷ w ∷ ws) (w ∷ ws) (w ∷ put_in v ws)) q ≡ value_eq q v || (value_eq q w || is_member ws q)
put_members_by q v w ws order.Less e more = refl
put_members_by q v w ws order.Equal e more = or_twice (value_eq q w) (is_member ws q) ∙ ap (λ x. value_eq q x || (value_eq q w || is_member ws q)) (sym (tied v w e))
put_members_by q v w ws order.Greater e more = ap (λ b. value_eq q w || b) more ∙ or_turn (value_eq q w) (value_eq q v) (is_member ws q)

put_members : (q v : Value) (vs : List Value) → is_member (put_in v vs) q ≡ value_eq q v || is_member vs q
put_members q v [] = refl
put_members q v (w ∷ ws) = put_members_by q v w ws (value_order v w) refl (put_members q v ws)

pub distinct_members : (q : Value) (vs : List Value) → is_member (distinct vs) q ≡ is_member vs q
distinct_members q [] = refl
distinct_members q (v ∷ vs) = put_members q v (distinct vs) ∙ ap (λ b. value_eq q v || b) (distinct_members q vs)

-- ---- ascending lists of the same members

eq_of_less : (v w : Value) → value_order v w ≡ order.Less → value_eq v w ≡ false
eq_of_less v w e = value_eq-ties v w ∙ ap is_eq e

below_no_member : (v : Value) (vs : List Value) → Below v vs → is_member vs v ≡ false
below_no_member v [] h = refl
below_no_member v (w ∷ ws) h = rw (eq_of_less v w h.0) (below_no_member v ws h.1)

own : (v : Value) (vs : List Value) → is_member (v ∷ vs) v ≡ true
own v vs = ap (λ b. b || is_member vs v) (value_eq-equiv.refl v)

or_false : (a b c : Bool) → a ≡ false → a || b ≡ a || c → b ≡ c
or_false true b c e h = absurd (false≢true (sym e))
or_false false b c e h = h

-- the least values are the same
heads : (a b : Value) (as' bs : List Value) → Below a as' → Below b bs → ((q : Value) → is_member (a ∷ as') q ≡ is_member (b ∷ bs) q) → (o : Ordering) → value_order a b ≡ o → a ≡ b
heads a b as' bs ha hb same order.Less e =
    let none : is_member (b ∷ bs) a ≡ false = below_no_member a (b ∷ bs) (e, below_more a b bs e hb) in
    absurd (false≢true (sym none ∙ sym (same a) ∙ own a as'))
heads a b as' bs ha hb same order.Equal e = tied a b e
heads a b as' bs ha hb same order.Greater e =
    let less : value_order b a ≡ order.Less = turned a b order.Greater e in
    let none : is_member (a ∷ as') b ≡ false = below_no_member b (a ∷ as') (less, below_more b a as' less ha) in
    absurd (false≢true (sym none ∙ same b ∙ own b bs))

tails_at : (a b q : Value) (as' bs : List Value) → Below a as' → Below b bs → a ≡ b → value_eq q a || is_member as' q ≡ value_eq q b || is_member bs q
    → (t : Bool) → value_eq q a ≡ t → is_member as' q ≡ is_member bs q
tails_at a b q as' bs ha hb e same true t =
    let is : q ≡ a = same_value q a t in
    ap (is_member as') is ∙ below_no_member a as' ha ∙ sym (below_no_member b bs hb) ∙ ap (is_member bs) (sym e) ∙ ap (is_member bs) (sym is)
tails_at a b q as' bs ha hb e same false t =
    or_false (value_eq q a) (is_member as' q) (is_member bs q) t (same ∙ ap (λ x. value_eq q x || is_member bs q) (sym e))

pub same_ascending : (vs ws : List Value) → Ascends vs → Ascends ws → ((q : Value) → is_member vs q ≡ is_member ws q) → vs ≡ ws
same_ascending [] [] up down same = refl
same_ascending [] (b ∷ bs) up down same = absurd (false≢true (same b ∙ own b bs))
same_ascending (a ∷ as') [] up down same = absurd (false≢true (sym (same a) ∙ own a as'))
same_ascending (a ∷ as') (b ∷ bs) up down same =
    let ha : Below a as' = sorted_head value_order a as' up in
    let hb : Below b bs = sorted_head value_order b bs down in
    let e : a ≡ b = heads a b as' bs ha hb same (value_order a b) refl in
    let tails : as' ≡ bs = same_ascending as' bs (sorted_tail value_order a as' up) (sorted_tail value_order b bs down)
    (λ q. tails_at a b q as' bs ha hb e (same q) (value_eq q a) refl) in
    (λ i. e i ∷ tails i)

-- ---- the dictionary of distinct values

put_length : (v : Value) (vs : List Value) → length (put_in v vs) ≤ length vs + 1
put_length v [] = omega arith
put_length v (w ∷ ws) =
    elim (value_order v w) as (λ o. length (match_ordering o (v ∷ w ∷ ws) (w ∷ ws) (w ∷ put_in v ws)) ≤ length (w ∷ ws) + 1) [
      | order.Less ↦ omega arith
      | order.Equal ↦ omega arith
      | order.Greater ↦ let more = put_length v ws in omega (arith, more)
    ]

distinct_length : (vs : List Value) → length (distinct vs) ≤ length vs
distinct_length [] = omega arith
distinct_length (v ∷ vs) =
    let one = put_length v (distinct vs) in
    let rest = distinct_length vs in
    omega (arith, one, rest)

-- the distinct values of values that have the members of a column are the column's dictionary
pub distinct_so : (column seen values : List Value) → ((q : Value) → is_member seen q ≡ is_member column q) → values ≡ distinct seen → values ≡ distinct column
distinct_so column seen values members is =
    is ∙ same_ascending (distinct seen) (distinct column) (distinct_ascends seen) (distinct_ascends column)
    (λ q. distinct_members q seen ∙ members q ∙ sym (distinct_members q column))

pub members_so : (column values : List Value) → values ≡ distinct column → (q : Value) → is_member values q ≡ is_member column q
members_so column values is q = ap (λ vs. is_member vs q) is ∙ distinct_members q column

pub stands_so : (kind : FieldKind) (column values : List Value) → length column ≤ most_values → All (Fits kind) column → values ≡ distinct column → All IsUnicode values → IsDictionary (record { kind = kind; values = values })
stands_so kind column values at_most fit is unicode = record {
  at_most = let count = distinct_length column in let same = ap length is in omega (arith, count, same);
  fit = All-from_any value_eq-equiv (Fits kind) values (λ q e. All-contains (Fits kind) column q fit (Contains-from_any same_value q column (sym (members_so column values is q) ∙ e)));
  unicode = unicode;
  ascends = subst Ascends (sym is) (distinct_ascends column);
}
