-- A query that is spelled is read.
use Rattle.std.proofs.Common.{◌≡◌, ◌≢◌, ◌⊎◌, ℕ, zero, suc, ◌<◌, Bool, true, false, cond, List, [], ◌∷◌, length, Option, Some, None, Ok, refl, ap, ap₂, sym, ◌∙◌, subst, arith, inl, inr}
use denote.Enum.Bare.{true_same, same_false}
use Rattle.query_tokens.specs.contracts.token.Kind.{the_type}
use Rattle.query_tokens.specs.declared.token.Kind.{Kind}
use Rattle.query_tokens.specs.declared.token.Kind.TheVariants as k
use Rattle.query_tokens.specs.declared.tree.NameAt.{NameAt}
use Rattle.query_tokens.specs.declared.tree.LiteralAt.{LiteralAt}
use Rattle.values.specs.declared.value.Value.TheVariants.{Whole}
use Rattle.query_tokens.specs.declared.tree.Func.{Func}
use Rattle.query_tokens.specs.declared.tree.Argument.{Argument}
use Rattle.query_tokens.specs.declared.tree.Argument.TheVariants as argument
use Rattle.query_tokens.specs.declared.tree.Term.{Term}
use Rattle.query_tokens.specs.declared.tree.Term.TheVariants as term
use Rattle.query_tokens.specs.declared.tree.QueryItem.{QueryItem}
use Rattle.query_tokens.specs.declared.tree.QueryKey.{QueryKey}
use Rattle.query_tokens.specs.declared.tree.Query.{Query}
use Rattle.query_tokens.specs.declared.tree.Cond.{Cond}
use Rattle.query_tokens.specs.declared.tree.HavingCond.{HavingCond}
use Rattle.query_tokens.specs.declared.tree.HavingCond.TheVariants.{Compare}
use Rattle.values.specs.declared.test.CompareOp.{CompareOp}
use Rattle.query_tokens.specs.Lex.{Bytes, is_last, same_kind}
use Rattle.query_tokens.specs.Stream.{Lexeme, Stream, kind, place, number, word, next}
use Rattle.query_parser.specs.Reading.{Parser, ◌>>=◌, ◌>>◌, ◌<$>◌, pure, take_token, sees, after, eat, expect, name, literal, separated}
use Rattle.query_parser.specs.Operators.{operator}
use Rattle.query_parser.specs.Cond as c
use Rattle.query_parser.specs.Query as q
use Rattle.query_parser.specs.Spells.{Rule, IsToken, Skips, SpellsName, SpellsFactor, SpellsCondition}
use Rattle.query_parser.specs.SpellsQuery.{SpellsArgument, SpellsCall, SpellsTerm, SpellsGroupTest, SpellsHaving, SpellsHavingIf, SpellsOptional, SpellsListed, SpellsItem, SpellsDirection, SpellsKey, SpellsBy, SpellsCount, SpellsLimits, SpellsSet, SpellsSets, SpellsEnding, SpellsQuery}
use Rattle.query_parser.specs.Shrinks.{Shrinks, name_shrinks, factor_shrinks}
use Rattle.query_parser.specs.TermShrinks.{having_test_shrinks}
use Rattle.query_parser.proofs.Takes.{item_shrinks, key_shrinks, option_shrinks}
use Rattle.query_parser.proofs.Again.{sees_at, next_at, kind_at, expect_again, kind_again, next_again, name_again, literal_again, op_goes_on, then, not_after, list_again, factor_again, cond_again, condition_again}

-- ---- what may follow

abbrev OneIn : List Kind → Kind → Type 0
OneIn [] kd = ⊥
OneIn (a ∷ ks) kd = (kd ≡ a) ⊎ OneIn ks kd

abbrev apart : List Kind → Kind → Bool
apart [] x = true
apart (a ∷ ks) x = cond (same_kind a x) false (apart ks x)

head_apart : (q rest : Bool) → cond q false rest ≡ true → (q ≡ false) × (rest ≡ true)
head_apart true rest h = absurd (cc)
head_apart false rest h = (refl, h)

avoids : (ks : List Kind) (x kd : Kind) → apart ks x ≡ true → OneIn ks kd → same_kind kd x ≡ false
avoids [] x kd h one = absurd one
avoids (a ∷ ks) x kd h one =
    let conjunction = head_apart (same_kind a x) (apart ks x) h in
    elim one [ inl e ↦ ap (λ z. same_kind z x) e ∙ conjunction.0 | inr more ↦ avoids ks x kd conjunction.1 more ]

unseen : (ks : List Kind) (x : Kind) (ts : Stream) → apart ks x ≡ true → OneIn ks (kind ts) → sees x ts ≡ false
unfolding sees
unseen ks x ts h one = avoids ks x (kind ts) h one

unlike : (ks : List Kind) (x kd : Kind) → apart ks x ≡ true → OneIn ks kd → kd ≢ x
unfolding same_kind
unlike ks x kd h one = same_false the_type kd x (avoids ks x kd h one)

seen : (kd : Kind) (ts us : Stream) → Skips kd ts us → sees kd ts ≡ true
seen kd ts us s = ap (sees kd) s.1.0 ∙ sees_at kd s.0 us s.1.1

eaten : (kd : Kind) (ts us : Stream) → is_last kd ≡ false → Skips kd ts us → eat kd ts ≡ Ok (true, us)
unfolding after
eaten kd ts us l s =
    let gone : after kd ts ≡ us = ap (λ b. cond b (next ts) ts) (seen kd ts us s) ∙ next_again kd ts us l s in
    ap₂ (λ b r. Ok (b, r)) (seen kd ts us s) gone

passed : (kd : Kind) (ts : Stream) → sees kd ts ≡ false → eat kd ts ≡ Ok (false, ts)
passed kd ts s = ap₂ (λ b r. Ok (b, r)) s (not_after kd ts s)

-- ---- options and lists after a word

optional_again : {A : Type 0} (kd : Kind) (rule : Rule A) (p : Parser A) (ts : Stream) (o : Option A) (us : Stream) → is_last kd ≡ false
    → ((ts : Stream) (a : A) → rule ts a us → p ts ≡ Ok (a, us)) → (us ≡ ts → sees kd ts ≡ false) → SpellsOptional kd rule ts o us → q.optional kd p ts ≡ Ok (o, us)
optional_again kd rule p ts None us l each none s = then (eat kd) (λ found. cond found (Some <$> p) (pure None)) ts ts false (passed kd ts (none s)) ∙ ap (λ r. Ok (None, r)) (sym s)
optional_again kd rule p ts (Some a) us l each none s = then (eat kd) (λ found. cond found (Some <$> p) (pure None)) ts s.0 true (eaten kd ts s.0 l s.1) ∙ then p (λ x. pure (Some x)) s.0 us a (each s.0 a s.2)

listed_again : {A : Type 0} (kd : Kind) (rule : Rule (List A)) (p : Parser (List A)) (ts : Stream) (xs : List A) (us : Stream) → is_last kd ≡ false
    → ((ts : Stream) (xs : List A) → rule ts xs us → p ts ≡ Ok (xs, us)) → (us ≡ ts → sees kd ts ≡ false) → SpellsListed kd rule ts xs us → q.listed kd p ts ≡ Ok (xs, us)
listed_again kd rule p ts [] us l each none s = then (eat kd) (λ found. cond found p (pure [])) ts ts false (passed kd ts (none s)) ∙ ap (λ r. Ok ([], r)) (sym s)
listed_again kd rule p ts (x ∷ xs) us l each none s = then (eat kd) (λ found. cond found p (pure [])) ts s.0 true (eaten kd ts s.0 l s.1) ∙ each s.0 (x ∷ xs) s.2

optional_kind : {A : Type 0} (kd : Kind) (rule : Rule A) (ts : Stream) (o : Option A) (us : Stream) (ks : List Kind) → SpellsOptional kd rule ts o us → OneIn ks (kind us) → OneIn (kd ∷ ks) (kind ts)
optional_kind kd rule ts None us ks s one = inr (subst (λ (r : Stream). OneIn ks (kind r)) s one)
optional_kind kd rule ts (Some a) us ks s one = inl (kind_again kd ts s.0 s.1)

listed_kind : {A : Type 0} (kd : Kind) (rule : Rule (List A)) (ts : Stream) (xs : List A) (us : Stream) (ks : List Kind) → SpellsListed kd rule ts xs us → OneIn ks (kind us) → OneIn (kd ∷ ks) (kind ts)
listed_kind kd rule ts [] us ks s one = inr (subst (λ (r : Stream). OneIn ks (kind r)) s one)
listed_kind kd rule ts (x ∷ xs) us ks s one = inl (kind_again kd ts s.0 s.1)

-- ---- terms

argument_again : (f : Func) (ts : Stream) (a : Argument) (us : Stream) → SpellsArgument f ts a us → q.argument_of f ts ≡ Ok (a, us)
unfolding q.argument_of is_last
argument_again f ts a us s = elim s [
  | inl star ↦ ap (λ kd. q.argument_by f kd ts) (kind_again k.Star ts us star.0) ∙ ap (λ b. cond b (take_token >> pure argument.Star) q.bad_star ts) star.1
      ∙ ap (λ r. Ok (argument.Star, r)) (next_again k.Star ts us refl star.0) ∙ ap (λ x. Ok (x, us)) (sym star.2)
  | inr column ↦ ap (λ kd. q.argument_by f kd ts) (kind_again k.Name ts us (column.1.0, column.1.1)) ∙ then name _ ts us column.0 (name_again ts us column.0 column.1) ∙ ap (λ x. Ok (x, us)) (sym column.2)
]

called : (n : NameAt) (ts us : Stream) (x : Term) → sees k.LParen ts ≡ true → q.call_of n.offset (q.func_of n.name) ts ≡ Ok (x, us) → q.following_name n ts ≡ Ok (x, us)
called n ts us x s e = ap (λ b. cond b (q.call_of n.offset (q.func_of n.name) ts) (Ok (term.Column n, ts))) s ∙ e

call_again : (ts : Stream) (x : Term) (us : Stream) → SpellsCall ts x us → q.term_of ts ≡ Ok (x, us)
unfolding q.term_of is_last
call_again ts x us s =
    then name _ ts s.at_open s.name (name_again ts s.at_open s.name s.spells_name)
    ∙ called s.name s.at_open us x (seen k.LParen s.at_open s.inside s.opens) (
    ap (λ o. q.call_of s.name.offset o s.at_open) s.known
    ∙ ap (q.argument_of s.func >>= (λ a. expect k.RParen >>= (λ _. pure (term.Call (record { func = s.func; argument = a; offset = s.name.offset }))))) (next_again k.LParen s.at_open s.inside refl s.opens)
    ∙ then (q.argument_of s.func) _ s.inside s.at_close s.argument (argument_again s.func s.inside s.argument s.at_close s.spells_argument)
    ∙ then (expect k.RParen) _ s.at_close us tt (expect_again k.RParen s.at_close us refl s.closes)
    ∙ ap (λ y. Ok (y, us)) (sym s.tree))

term_again : (ts : Stream) (x : Term) (us : Stream) → sees k.LParen us ≡ false → SpellsTerm ts x us → q.term_of ts ≡ Ok (x, us)
unfolding q.term_of
term_again ts x us free s = elim s [
  | inl column ↦ then name _ ts us column.0 (name_again ts us column.0 column.1)
      ∙ ap (λ b. cond b (q.call_of column.0.offset (q.func_of column.0.name) us) (Ok (term.Column column.0, us))) free ∙ ap (λ y. Ok (y, us)) (sym column.2)
  | inr call ↦ call_again ts x us call
]

-- ---- conditions on a group

not_open : (kd : Kind) (op : CompareOp) → operator kd ≡ Some op → same_kind kd k.LParen ≡ false
unfolding operator same_kind
not_open k.Eq op h = refl
not_open k.Ne op h = refl
not_open k.Lt op h = refl
not_open k.Le op h = refl
not_open k.Gt op h = refl
not_open k.Ge op h = refl
not_open _ op h = absurd (cc)

no_call : (t : Lexeme) (us : Stream) (op : CompareOp) → operator t.kind ≡ Some op → sees k.LParen (t ∷ us) ≡ false
unfolding sees kind
no_call t us op h = not_open t.kind op h

sign_again : (tested : Term) (op : CompareOp) (v : LiteralAt) (t : Lexeme) (rest us : Stream) → operator t.kind ≡ Some op → literal rest ≡ Ok (v, us) → q.having_compared tested (operator (kind (t ∷ rest))) (t ∷ rest) ≡ Ok (Compare tested op v, us)
unfolding kind
sign_again tested op v t rest us is value =
    ap (λ o. q.having_compared tested o (t ∷ rest)) is
    ∙ ap (Compare tested op <$> literal) (next_at t.kind t rest refl (op_goes_on t.kind op is))
    ∙ then literal _ rest us v value

group_test_again : (ts : Stream) (x : HavingCond) (us : Stream) → SpellsGroupTest ts x us → q.having_test ts ≡ Ok (x, us)
unfolding q.having_test
group_test_again ts x us s =
    then q.term_of _ ts (s.sign ∷ s.rest) s.tested (term_again ts s.tested (s.sign ∷ s.rest) (no_call s.sign s.rest s.op s.is_op) s.spells_term)
    ∙ sign_again s.tested s.op s.value s.sign s.rest us s.is_op (literal_again s.rest s.value us s.spells_value)
    ∙ ap (λ y. Ok (y, us)) (sym s.tree)

term_kind : (ts : Stream) (x : Term) (us : Stream) → SpellsTerm ts x us → kind ts ≡ k.Name
term_kind ts x us s = elim s [
  | inl column ↦ kind_again k.Name ts us (column.1.0, column.1.1)
  | inr call ↦ kind_again k.Name ts call.at_open (call.spells_name.0, call.spells_name.1)
]

having_again : (ts : Stream) (x : HavingCond) (us : Stream) → SpellsHaving ts x us → sees k.And us ≡ false → sees k.Or us ≡ false → q.having ts ≡ Ok (x, us)
unfolding q.having
having_again ts x us s a o =
    cond_again q.group_joints (SpellsFactor SpellsGroupTest q.group_joints c.deepest) (c.factor q.having_test q.group_joints c.deepest)
    (factor_again SpellsGroupTest q.having_test q.group_joints group_test_again (λ ts x us h. term_kind ts h.tested (h.sign ∷ h.rest) h.spells_term) having_test_shrinks c.deepest)
    (factor_shrinks q.having_test q.group_joints having_test_shrinks c.deepest) ts x us s a o

-- ---- items and keys

abbrev item_ends : List Kind
item_ends = k.Comma ∷ k.From ∷ []

item_again : (ts : Stream) (i : QueryItem) (us : Stream) → SpellsItem ts i us → OneIn item_ends (kind us) → q.item ts ≡ Ok (i, us)
unfolding q.item q.label is_last same_kind
item_again ts i us s one =
    let starts = optional_kind k.As SpellsName s.0 i.label us item_ends s.2 one in
    then q.term_of _ ts s.0 i.term (term_again ts i.term s.0 (unseen (k.As ∷ item_ends) k.LParen s.0 refl starts) s.1)
    ∙ then q.label _ s.0 us i.label (optional_again k.As SpellsName name s.0 i.label us refl (λ ts a h. name_again ts us a h)
    (λ e. unseen item_ends k.As s.0 refl (subst (λ (r : Stream). OneIn item_ends (kind r)) e one)) s.2)

abbrev key_ends : List Kind
key_ends = k.Comma ∷ k.Limit ∷ k.Semi ∷ k.End ∷ []

no_direction : (kd : Kind) (ts : Stream) → kd ≢ k.Asc → kd ≢ k.Desc → q.direction_by kd ts ≡ Ok (false, ts)
no_direction k.Asc ts a d = absurd (a refl)
no_direction k.Desc ts a d = absurd (d refl)
no_direction _ ts a d = refl

direction_again : (ts : Stream) (b : Bool) (us : Stream) → OneIn key_ends (kind us) → SpellsDirection ts b us → q.direction ts ≡ Ok (b, us)
unfolding q.direction is_last same_kind
direction_again ts false us one s = elim s [
  | inl e ↦ ap q.direction (sym e) ∙ no_direction (kind us) us (unlike key_ends k.Asc (kind us) refl one) (unlike key_ends k.Desc (kind us) refl one)
  | inr word ↦ ap (λ kd. q.direction_by kd ts) (kind_again k.Asc ts us word) ∙ ap (λ r. Ok (false, r)) (next_again k.Asc ts us refl word)
]
direction_again ts true us one s = ap (λ kd. q.direction_by kd ts) (kind_again k.Desc ts us s) ∙ ap (λ r. Ok (true, r)) (next_again k.Desc ts us refl s)

direction_kind : (ts : Stream) (b : Bool) (us : Stream) → OneIn key_ends (kind us) → SpellsDirection ts b us → OneIn (k.Asc ∷ k.Desc ∷ key_ends) (kind ts)
direction_kind ts false us one s = elim s [ inl e ↦ inr (inr (subst (λ (r : Stream). OneIn key_ends (kind r)) e one)) | inr word ↦ inl (kind_again k.Asc ts us word) ]
direction_kind ts true us one s = inr (inl (kind_again k.Desc ts us s))

key_again : (ts : Stream) (i : QueryKey) (us : Stream) → SpellsKey ts i us → OneIn key_ends (kind us) → q.key ts ≡ Ok (i, us)
unfolding q.key same_kind
key_again ts i us s one =
    let starts = direction_kind s.0 i.descending us one s.2 in
    then q.term_of _ ts s.0 i.term (term_again ts i.term s.0 (unseen (k.Asc ∷ k.Desc ∷ key_ends) k.LParen s.0 refl starts) s.1)
    ∙ then q.direction _ s.0 us i.descending (direction_again s.0 i.descending us one s.2)

-- ---- the end

count_at : (t : Lexeme) (us : Stream) → t.kind ≡ k.Number → q.is_natural t.number ≡ true → q.count (t ∷ us) ≡ Ok (record { value = Whole t.number; offset = t.at }, us)
unfolding q.count number place is_last
count_at t us h n = rw (sees_at k.Number t us h, n, next_at k.Number t us h refl)

count_again : (ts : Stream) (l : LiteralAt) (us : Stream) → SpellsCount ts l us → q.count ts ≡ Ok (l, us)
count_again ts l us s = ap q.count s.1.0 ∙ count_at s.0 us s.1.1 s.2 ∙ ap (λ x. Ok (x, us)) (sym s.3)

abbrev limit_ends : List Kind
limit_ends = k.Semi ∷ k.End ∷ []

ending_kind : (ts : Stream) → SpellsEnding ts → OneIn limit_ends (kind ts)
ending_kind ts s = elim s [ inl e ↦ inr (inl e) | inr m ↦ inl (kind_again k.Semi ts m.0 m.1) ]

sees_kind_is : (kd : Kind) (ts : Stream) → kind ts ≡ kd → sees kd ts ≡ true
unfolding sees same_kind
sees_kind_is kd ts h = true_same the_type (kind ts) kd h

at_end_again : (ts : Stream) → kind ts ≡ k.End → expect k.End ts ≡ Ok (tt, next ts)
unfolding expect
at_end_again ts h = rw (sees_kind_is k.End ts h)

ending_again : (ts : Stream) → SpellsEnding ts → (us : Stream) × (q.ending ts ≡ Ok (tt, us))
unfolding q.ending is_last same_kind
ending_again ts s = elim s [
  | inl e ↦ (next ts, then (eat k.Semi) (λ _. expect k.End) ts ts false (passed k.Semi ts (unseen (k.End ∷ []) k.Semi ts refl (inl e))) ∙ at_end_again ts e)
  | inr m ↦ (next m.0, then (eat k.Semi) (λ _. expect k.End) ts m.0 true (eaten k.Semi ts m.0 refl m.1) ∙ at_end_again m.0 m.2)
]

abbrev limits_following : Bool → Parser (Option LiteralAt × Option LiteralAt)
limits_following found = cond found (q.count >>= (λ l. q.optional k.Offset q.count >>= (λ o. pure (Some l, o)))) (pure (None, None))

limits_again : (ts : Stream) (l o : Option LiteralAt) (us : Stream) → OneIn limit_ends (kind us) → SpellsLimits ts l o us → q.limits ts ≡ Ok ((l, o), us)
unfolding q.limits is_last same_kind
limits_again ts None None us one s =
    then (eat k.Limit) limits_following ts ts false (passed k.Limit ts (unseen limit_ends k.Limit ts refl (subst (λ (r : Stream). OneIn limit_ends (kind r)) s one))) ∙ ap (λ r. Ok ((None, None), r)) (sym s)
limits_again ts None (Some o) us one s = absurd s
limits_again ts (Some l) o us one s =
    then (eat k.Limit) limits_following ts s.0 true (eaten k.Limit ts s.0 refl s.2)
    ∙ then q.count _ s.0 s.1 l (count_again s.0 l s.1 s.3)
    ∙ then (q.optional k.Offset q.count) _ s.1 us o (optional_again k.Offset SpellsCount q.count s.1 o us refl (λ ts a h. count_again ts a us h)
    (λ e. unseen limit_ends k.Offset s.1 refl (subst (λ (r : Stream). OneIn limit_ends (kind r)) e one)) s.4)

limits_kind : (ts : Stream) (l o : Option LiteralAt) (us : Stream) → OneIn limit_ends (kind us) → SpellsLimits ts l o us → OneIn (k.Limit ∷ limit_ends) (kind ts)
limits_kind ts None None us one s = inr (subst (λ (r : Stream). OneIn limit_ends (kind r)) s one)
limits_kind ts None (Some o) us one s = absurd s
limits_kind ts (Some l) o us one s = inl (kind_again k.Limit ts s.0 s.2)

-- ---- GROUP BY and ORDER BY

abbrev order_ends : List Kind
order_ends = k.Limit ∷ limit_ends

abbrev group_ends : List Kind
group_ends = k.Order ∷ order_ends

abbrev having_ends : List Kind
having_ends = k.Having ∷ group_ends

abbrev where_ends : List Kind
where_ends = k.Group ∷ having_ends

by_again : {A : Type 0} (rule : Rule A) (item : Parser A) (Ends : Stream → Type 0) → ((ts : Stream) (x : A) (us : Stream) → rule ts x us → Ends us → item ts ≡ Ok (x, us))
    → ((t : Lexeme) (us : Stream) → t.kind ≡ k.Comma → Ends (t ∷ us)) → Shrinks item → (ts : Stream) (xs : List A) (us : Stream) → Ends us → sees k.Comma us ≡ false → SpellsBy rule ts xs us
    → (expect k.By >> separated k.Comma item) ts ≡ Ok (xs, us)
unfolding is_last
by_again rule item Ends each commas shrinks ts xs us ends last s =
    then (expect k.By) (λ _. separated k.Comma item) ts s.0 tt (expect_again k.By ts s.0 refl s.1) ∙ list_again k.Comma rule item Ends refl each commas shrinks xs s.0 us s.2 ends last

groups_again : (ts : Stream) (xs : List NameAt) (us : Stream) → OneIn having_ends (kind us) → SpellsListed k.Group (SpellsBy SpellsName) ts xs us → q.groups ts ≡ Ok (xs, us)
unfolding q.groups is_last same_kind
groups_again ts xs us one s =
    listed_again k.Group (SpellsBy SpellsName) (expect k.By >> separated k.Comma name) ts xs us refl
    (λ ts xs h. by_again SpellsName name (λ _. Unit {0}) (λ ts x us h _. name_again ts us x h) (λ _ _ _. tt) name_shrinks ts xs us tt (unseen having_ends k.Comma us refl one) h)
    (λ e. unseen having_ends k.Group ts refl (subst (λ (r : Stream). OneIn having_ends (kind r)) e one)) s

having_if_again : (gs : List NameAt) (ts : Stream) (o : Option HavingCond) (us : Stream) → OneIn group_ends (kind us) → SpellsHavingIf gs ts o us → q.having_if gs ts ≡ Ok (o, us)
unfolding q.having_if is_last same_kind
having_if_again [] ts o us one s = ap₂ (λ x r. Ok (x, r)) (sym s.1) (sym s.0)
having_if_again (g ∷ gs) ts o us one s =
    optional_again k.Having SpellsHaving q.having ts o us refl
    (λ ts x h. having_again ts x us h (unseen group_ends k.And us refl one) (unseen group_ends k.Or us refl one))
    (λ e. unseen group_ends k.Having ts refl (subst (λ (r : Stream). OneIn group_ends (kind r)) e one)) s

having_kind : (gs : List NameAt) (ts : Stream) (o : Option HavingCond) (us : Stream) → SpellsHavingIf gs ts o us → OneIn group_ends (kind us) → OneIn having_ends (kind ts)
having_kind [] ts o us s one = inr (subst (λ (r : Stream). OneIn group_ends (kind r)) s.0 one)
having_kind (g ∷ gs) ts o us s one = optional_kind k.Having SpellsHaving ts o us group_ends s one

order_again : (ts : Stream) (xs : List QueryKey) (us : Stream) → OneIn order_ends (kind us) → SpellsListed k.Order (SpellsBy SpellsKey) ts xs us → q.order ts ≡ Ok (xs, us)
unfolding q.order is_last same_kind
order_again ts xs us one s =
    listed_again k.Order (SpellsBy SpellsKey) (expect k.By >> separated k.Comma q.key) ts xs us refl
    (λ ts xs h. by_again SpellsKey q.key (λ us. OneIn key_ends (kind us)) key_again (λ t us h. inl (kind_at k.Comma t us h)) key_shrinks ts xs us (inr one) (unseen order_ends k.Comma us refl one) h)
    (λ e. unseen order_ends k.Order ts refl (subst (λ (r : Stream). OneIn order_ends (kind r)) e one)) s

condition_if_again : (ts : Stream) (o : Option Cond) (us : Stream) → OneIn where_ends (kind us) → SpellsOptional k.Where SpellsCondition ts o us → q.condition_if ts ≡ Ok (o, us)
unfolding q.condition_if is_last same_kind
condition_if_again ts o us one s =
    optional_again k.Where SpellsCondition c.condition ts o us refl
    (λ ts x h. condition_again ts x us h (unseen where_ends k.And us refl one) (unseen where_ends k.Or us refl one))
    (λ e. unseen where_ends k.Where ts refl (subst (λ (r : Stream). OneIn where_ends (kind r)) e one)) s

-- ---- options

pub value_goes_on : (kd : Kind) → q.is_value kd ≡ true → is_last kd ≡ false
unfolding is_last
value_goes_on k.Name h = refl
value_goes_on k.Number h = refl
value_goes_on k.Text h = refl
value_goes_on _ h = absurd (cc)

value_at : (t : Lexeme) (us : Stream) → q.is_value t.kind ≡ true → q.option_value (t ∷ us) ≡ Ok (t.value, us)
unfolding q.option_value word kind
value_at t us h = rw (h, next_at t.kind t us refl (value_goes_on t.kind h))

set_again : (ts : Stream) (n : NameAt) (v : Bytes) (us : Stream) (before now : Bool) → SpellsSet ts n v us → q.set_option n v before ≡ Ok now → q.option before ts ≡ Ok (now, us)
unfolding q.option is_last
set_again ts n v us before now s allowed =
    then (expect k.Set) _ ts s.at_name tt (expect_again k.Set ts s.at_name refl s.word)
    ∙ then name _ s.at_name s.at_sign n (name_again s.at_name s.at_sign n s.spells_name)
    ∙ then (expect k.Eq) _ s.at_sign s.at_value tt (expect_again k.Eq s.at_sign s.at_value refl s.sign)
    ∙ then q.option_value _ s.at_value s.at_end v (ap q.option_value s.spells_value ∙ value_at s.token s.at_end s.is_value ∙ ap (λ x. Ok (x, s.at_end)) (sym s.value_is))
    ∙ then (q.checked (q.set_option n v before)) _ s.at_end s.at_end now (ap (λ r. q.checked r s.at_end) allowed)
    ∙ then (expect k.Semi) _ s.at_end us tt (expect_again k.Semi s.at_end us refl s.ends)

sets_again : (os : List (NameAt × Bytes)) (n : ℕ) (ts : Stream) (before after : Bool) (us : Stream) → length ts < n → sees k.Set us ≡ false → SpellsSets os ts before after us → q.options_from n before ts ≡ Ok (after, us)
unfolding q.options_from
sets_again [] zero ts before after us fits last s = absurd (omega arith)
sets_again [] (suc n) ts before after us fits last s =
    let none : sees k.Set ts ≡ false = subst (λ (r : Stream). sees k.Set r ≡ false) s.0 last in
    ap (λ b. cond b ((q.option before >>= q.options_from n) ts) (Ok (before, ts))) none ∙ ap₂ (λ b r. Ok (b, r)) (sym s.1) (sym s.0)
sets_again (o ∷ os) zero ts before after us fits last s = absurd (omega arith)
sets_again (o ∷ os) (suc n) ts before after us fits last s =
    let e = set_again ts o.0 o.1 s.0 before s.1 s.2 s.3 in
    let less = option_shrinks before ts s.0 s.1 e in
    ap (λ b. cond b ((q.option before >>= q.options_from n) ts) (Ok (before, ts))) (seen k.Set ts s.2.at_name s.2.word)
    ∙ then (q.option before) (q.options_from n) ts s.0 s.1 e ∙ sets_again os n s.0 s.1 after us (omega arith) last s.4

-- ---- the whole

place_again : (kd : Kind) (ts us : Stream) (t : Lexeme) → IsToken kd ts t us → place ts ≡ t.at
unfolding place
place_again kd ts us t s = ap place s.0

closing_again : (ts : Stream) (l o : Option LiteralAt) (mid us : Stream) → OneIn limit_ends (kind mid) → SpellsLimits ts l o mid → q.ending mid ≡ Ok (tt, us) → q.closing ts ≡ Ok ((l, o), us)
unfolding q.closing
closing_again ts l o mid us one s e = then q.limits _ ts mid (l, o) (limits_again ts l o mid one s) ∙ then q.ending _ mid us tt e

pub query_again : (ts : Stream) (x : Query) → SpellsQuery ts x → (us : Stream) × (q.query ts ≡ Ok (x, us))
unfolding q.query is_last same_kind
query_again ts x s =
    let end = ending_kind s.at_end s.ends in
    let after_order = limits_kind s.after_order x.limit x.offset s.at_end end s.spells_limits in
    let after_having = listed_kind k.Order (SpellsBy SpellsKey) s.after_having x.order s.after_order order_ends s.spells_order after_order in
    let after_groups = having_kind x.groups s.after_groups x.having s.after_having s.spells_having after_having in
    let after_condition = listed_kind k.Group (SpellsBy SpellsName) s.after_condition x.groups s.after_groups having_ends s.spells_groups after_groups in
    let last = ending_again s.at_end s.ends in
    let is_select : kind s.at_select ≡ k.Select = kind_again k.Select s.at_select s.at_items (s.select, s.spells_select) in
    let is_from : kind s.at_from ≡ k.From = kind_again k.From s.at_from s.at_table s.from in (
      last.0,
      then q.options _ ts s.at_select x.use_tree (sets_again s.sets (suc (length ts)) ts true x.use_tree s.at_select (omega arith) (unseen (k.Select ∷ []) k.Set s.at_select refl (inl is_select)) s.spells_sets)
          ∙ then (expect k.Select) _ s.at_select s.at_items tt (expect_again k.Select s.at_select s.at_items refl (s.select, s.spells_select))
          ∙ then (separated k.Comma q.item) _ s.at_items s.at_from x.items
          (list_again k.Comma SpellsItem q.item (λ us. OneIn item_ends (kind us)) refl item_again (λ t us h. inl (kind_at k.Comma t us h)) item_shrinks x.items s.at_items s.at_from s.spells_items (inr (inl is_from))
          (unseen (k.From ∷ []) k.Comma s.at_from refl (inl is_from)))
          ∙ then (expect k.From) _ s.at_from s.at_table tt (expect_again k.From s.at_from s.at_table refl s.from)
          ∙ then name _ s.at_table s.after_table x.table (name_again s.at_table s.after_table x.table s.spells_table)
          ∙ then q.condition_if _ s.after_table s.after_condition x.condition (condition_if_again s.after_table x.condition s.after_condition after_condition s.spells_condition)
          ∙ then q.groups _ s.after_condition s.after_groups x.groups (groups_again s.after_condition x.groups s.after_groups after_groups s.spells_groups)
          ∙ then (q.having_if x.groups) _ s.after_groups s.after_having x.having (having_if_again x.groups s.after_groups x.having s.after_having after_having s.spells_having)
          ∙ then q.order _ s.after_having s.after_order x.order (order_again s.after_having x.order s.after_order after_order s.spells_order)
          ∙ then q.closing _ s.after_order last.0 (x.limit, x.offset) (closing_again s.after_order x.limit x.offset s.at_end last.0 end s.spells_limits last.1)
          ∙ ap (λ n. Ok (record x { select = n }, last.0)) (place_again k.Select s.at_select s.at_items s.select s.spells_select ∙ sym s.select_at),
    )
