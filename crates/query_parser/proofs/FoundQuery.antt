-- A query that is read is spelled.
use Rattle.std.proofs.Common.{◌≡◌, ℕ, zero, suc, Bool, true, false, ◌&&◌, cond, List, [], ◌∷◌, Option, Some, None, Result, Ok, Err, refl, ap, sym, ◌∙◌, subst, inl, inr}
use Rattle.query_tokens.specs.declared.token.Kind.{Kind}
use Rattle.query_tokens.specs.declared.token.Kind.TheVariants as k
use Rattle.query_tokens.specs.declared.fault.QueryFault.{QueryFault}
use Rattle.query_tokens.specs.declared.tree.NameAt.{NameAt}
use Rattle.query_tokens.specs.declared.tree.LiteralAt.{LiteralAt}
use Rattle.values.specs.declared.value.Value.TheVariants.{Whole}
use Rattle.query_tokens.specs.declared.tree.Func.{Func}
use Rattle.query_tokens.specs.declared.tree.Argument.{Argument}
use Rattle.query_tokens.specs.declared.tree.Argument.TheVariants as argument
use Rattle.query_tokens.specs.declared.tree.Term.{Term}
use Rattle.query_tokens.specs.declared.tree.Term.TheVariants as term
use Rattle.query_tokens.specs.declared.tree.QueryItem.{QueryItem}
use Rattle.query_tokens.specs.declared.tree.QueryKey.{QueryKey}
use Rattle.query_tokens.specs.declared.tree.Query.{Query}
use Rattle.query_tokens.specs.declared.tree.Cond.{Cond}
use Rattle.query_tokens.specs.declared.tree.HavingCond.{HavingCond}
use Rattle.query_tokens.specs.declared.tree.HavingCond.TheVariants.{Compare}
use Rattle.values.specs.declared.test.CompareOp.{CompareOp}
use Rattle.query_tokens.specs.Lex.{Bytes, is_last}
use Rattle.query_tokens.specs.Stream.{Lexeme, Stream, kind, place, number, word, next}
use Rattle.query_parser.specs.Reading.{Outcome, Parser, and_then, ◌>>=◌, ◌>>◌, ◌<$>◌, pure, refusal, take_token, sees, after, eat, expect, name, literal, separated}
use Rattle.query_parser.specs.Operators.{operator}
use Rattle.query_parser.specs.Cond as c
use Rattle.query_parser.specs.Query as q
use Rattle.query_parser.specs.Spells.{Rule, Skips, SpellsName, SpellsLiteral, SpellsFactor, SpellsCondition}
use Rattle.query_parser.specs.SpellsQuery.{SpellsArgument, SpellsCall, SpellsTerm, SpellsGroupTest, SpellsHaving, SpellsHavingIf, SpellsOptional, SpellsListed, SpellsItem, SpellsDirection, SpellsKey, SpellsBy, SpellsCount, SpellsLimits, SpellsSet, SpellsSets, SpellsEnding, SpellsQuery}
use Rattle.query_parser.specs.Shrinks.{ok, rest_is, bind_ok, sees_kind}
use Rattle.query_parser.proofs.Again.{not_after, op_goes_on}
use Rattle.query_parser.proofs.AgainQuery.{value_goes_on}
use Rattle.query_parser.proofs.Found.{not_ok, value_is, token_at, skips_next, expect_found, name_found, literal_found, list_found, factor_found, cond_found, condition_found}

-- what was read first, and the rest after it
with_ok : {A B P : Type 0} (o : Outcome A) (f : A → Parser B) (y : B × Stream) → and_then o f ≡ Ok y → ((a : A) (mid : Stream) → o ≡ Ok (a, mid) → f a mid ≡ Ok y → P) → P
with_ok (Ok p) f y e then = then p.0 p.1 refl e
with_ok (Err x) f y e then = absurd (cc)

-- what was eaten, and what was passed over
eaten_found : (kd : Kind) (ts us : Stream) → is_last kd ≡ false → eat kd ts ≡ Ok (true, us) → Skips kd ts us
unfolding after
eaten_found kd ts us l e =
    let s : sees kd ts ≡ true = sym (value_is (sees kd ts) true (after kd ts) us e) in
    let gone : after kd ts ≡ next ts = ap (λ b. cond b (next ts) ts) s in
    skips_next kd ts us (sees_kind kd ts s) l (rest_is (sees kd ts) true (after kd ts) us e ∙ gone)

passed_found : (kd : Kind) (ts us : Stream) → eat kd ts ≡ Ok (false, us) → us ≡ ts
passed_found kd ts us e =
    let s : sees kd ts ≡ false = sym (value_is (sees kd ts) false (after kd ts) us e) in
    rest_is (sees kd ts) false (after kd ts) us e ∙ not_after kd ts s

optional_step : {A : Type 0} (kd : Kind) (rule : Rule A) (p : Parser A) (b : Bool) (ts mid : Stream) (o : Option A) (us : Stream) → is_last kd ≡ false
    → ((ts : Stream) (a : A) (us : Stream) → p ts ≡ Ok (a, us) → rule ts a us) → eat kd ts ≡ Ok (b, mid) → cond b (Some <$> p) (pure None) mid ≡ Ok (o, us) → SpellsOptional kd rule ts o us
optional_step {A} kd rule p true ts mid o us l each s e =
    let m = bind_ok (p mid) _ (o, us) e in
    let is : o ≡ Some m.0.0 = value_is (Some m.0.0) o m.0.1 us m.2 in
    let rest = rest_is (Some m.0.0) o m.0.1 us m.2 in
    subst (λ (x : Option A). SpellsOptional kd rule ts x us) (sym is) (mid, eaten_found kd ts mid l s, subst (λ (r : Stream). rule mid m.0.0 r) (sym rest) (each mid m.0.0 m.0.1 m.1))
optional_step {A} kd rule p false ts mid o us l each s e =
    let is : o ≡ None = value_is None o mid us e in
    subst (λ (x : Option A). SpellsOptional kd rule ts x us) (sym is) (rest_is None o mid us e ∙ passed_found kd ts mid s)

optional_found : {A : Type 0} (kd : Kind) (rule : Rule A) (p : Parser A) (ts : Stream) (o : Option A) (us : Stream) → is_last kd ≡ false
    → ((ts : Stream) (a : A) (us : Stream) → p ts ≡ Ok (a, us) → rule ts a us) → q.optional kd p ts ≡ Ok (o, us) → SpellsOptional kd rule ts o us
optional_found kd rule p ts o us l each e =
    let m = bind_ok (eat kd ts) (λ found. cond found (Some <$> p) (pure None)) (o, us) e in
    optional_step kd rule p m.0.0 ts m.0.1 o us l each m.1 m.2

-- a list after a word has a member
listed_cons : {A : Type 0} (kd : Kind) (rule : Rule A) (ts mid : Stream) (xs : List A) (us : Stream) → Skips kd ts mid → SpellsBy rule mid xs us → SpellsListed kd (SpellsBy rule) ts xs us
listed_cons kd rule ts mid [] us s by = absurd by.2
listed_cons kd rule ts mid (x ∷ xs) us s by = (mid, s, by)

listed_step : {A : Type 0} (kd : Kind) (rule : Rule A) (p : Parser (List A)) (b : Bool) (ts mid : Stream) (xs : List A) (us : Stream) → is_last kd ≡ false
    → ((ts : Stream) (xs : List A) (us : Stream) → p ts ≡ Ok (xs, us) → SpellsBy rule ts xs us) → eat kd ts ≡ Ok (b, mid) → cond b p (pure []) mid ≡ Ok (xs, us) → SpellsListed kd (SpellsBy rule) ts xs us
listed_step kd rule p true ts mid xs us l each s e = listed_cons kd rule ts mid xs us (eaten_found kd ts mid l s) (each mid xs us e)
listed_step {A} kd rule p false ts mid xs us l each s e =
    let is : xs ≡ [] = value_is [] xs mid us e in
    subst (λ (x : List A). SpellsListed kd (SpellsBy rule) ts x us) (sym is) (rest_is [] xs mid us e ∙ passed_found kd ts mid s)

listed_found : {A : Type 0} (kd : Kind) (rule : Rule A) (p : Parser (List A)) (ts : Stream) (xs : List A) (us : Stream) → is_last kd ≡ false
    → ((ts : Stream) (xs : List A) (us : Stream) → p ts ≡ Ok (xs, us) → SpellsBy rule ts xs us) → q.listed kd p ts ≡ Ok (xs, us) → SpellsListed kd (SpellsBy rule) ts xs us
listed_found kd rule p ts xs us l each e =
    let m = bind_ok (eat kd ts) (λ found. cond found p (pure [])) (xs, us) e in
    listed_step kd rule p m.0.0 ts m.0.1 xs us l each m.1 m.2

-- ---- terms

star_step : (b : Bool) (f : Func) (ts : Stream) (a : Argument) (us : Stream) → q.is_count f ≡ b → kind ts ≡ k.Star → cond b (take_token >> pure argument.Star) q.bad_star ts ≡ Ok (a, us) → SpellsArgument f ts a us
unfolding is_last
star_step true f ts a us is h e = inl (skips_next k.Star ts us h refl (rest_is argument.Star a (next ts) us e), is, value_is argument.Star a (next ts) us e)
star_step false f ts a us is h e = absurd (cc)

argument_step : (kd : Kind) (f : Func) (ts : Stream) (a : Argument) (us : Stream) → kind ts ≡ kd → q.argument_by f kd ts ≡ Ok (a, us) → SpellsArgument f ts a us
argument_step k.Star f ts a us h e = star_step (q.is_count f) f ts a us refl h e
argument_step k.Name f ts a us h e =
    let m = bind_ok (name ts) _ (a, us) e in
    let rest = rest_is (argument.Column m.0.0) a m.0.1 us m.2 in
    inr (m.0.0, subst (λ (r : Stream). SpellsName ts m.0.0 r) (sym rest) (name_found ts m.0.1 m.0.0 m.1), value_is (argument.Column m.0.0) a m.0.1 us m.2)
argument_step _ f ts a us h e = absurd (not_ok (refusal ts) (a, us) e)

argument_found : (f : Func) (ts : Stream) (a : Argument) (us : Stream) → q.argument_of f ts ≡ Ok (a, us) → SpellsArgument f ts a us
unfolding q.argument_of
argument_found f ts a us e = argument_step (kind ts) f ts a us refl e

call_step : (o : Option Func) (n : NameAt) (ts mid : Stream) (x : Term) (us : Stream) → SpellsName ts n mid → q.func_of n.name ≡ o → kind mid ≡ k.LParen → q.call_of n.offset o mid ≡ Ok (x, us) → SpellsCall ts x us
unfolding is_last
call_step None n ts mid x us s is h e = absurd (cc)
call_step (Some f) n ts mid x us s is h e =
    let a = bind_ok (q.argument_of f (next mid)) _ (x, us) e in
    let r = bind_ok (expect k.RParen a.0.1) _ (x, us) a.2 in
    let t = term.Call (record { func = f; argument = a.0.0; offset = n.offset }) in
    let rest = rest_is t x r.0.1 us r.2 in
    record {
      name = n;
      func = f;
      argument = a.0.0;
      at_open = mid;
      inside = next mid;
      at_close = a.0.1;
      spells_name = s;
      known = is;
      opens = skips_next k.LParen mid (next mid) h refl refl;
      spells_argument = argument_found f (next mid) a.0.0 a.0.1 a.1;
      closes = subst (λ (z : Stream). Skips k.RParen a.0.1 z) (sym rest) (expect_found k.RParen a.0.1 r.0.1 r.0.0 refl r.1);
      tree = value_is t x r.0.1 us r.2;
    }

following_step : (b : Bool) (n : NameAt) (ts mid : Stream) (x : Term) (us : Stream) → SpellsName ts n mid → sees k.LParen mid ≡ b → cond b (q.call_of n.offset (q.func_of n.name) mid) (ok (term.Column n) mid) ≡ Ok (x, us) → SpellsTerm ts x us
following_step true n ts mid x us s h e = inr (call_step (q.func_of n.name) n ts mid x us s refl (sees_kind k.LParen mid h) e)
following_step false n ts mid x us s h e =
    let rest = rest_is (term.Column n) x mid us e in
    inl (n, subst (λ (r : Stream). SpellsName ts n r) (sym rest) s, value_is (term.Column n) x mid us e)

term_found : (ts : Stream) (x : Term) (us : Stream) → q.term_of ts ≡ Ok (x, us) → SpellsTerm ts x us
unfolding q.term_of
term_found ts x us e =
    let m = bind_ok (name ts) q.following_name (x, us) e in
    following_step (sees k.LParen m.0.1) m.0.0 ts m.0.1 x us (name_found ts m.0.1 m.0.0 m.1) refl m.2

-- ---- conditions on a group

compared_found : (o : Option CompareOp) (ts mid : Stream) (t : Term) (x : HavingCond) (us : Stream) → SpellsTerm ts t mid → operator (kind mid) ≡ o → q.having_compared t o mid ≡ Ok (x, us) → SpellsGroupTest ts x us
compared_found (Some op) ts mid t x us spells is e =
    let s = token_at (kind mid) mid refl (op_goes_on (kind mid) op is) in
    let l = bind_ok (literal (next mid)) _ (x, us) e in
    let rest = rest_is (Compare t op l.0.0) x l.0.1 us l.2 in
    record {
      tested = t;
      op = op;
      value = l.0.0;
      sign = s.0;
      rest = next mid;
      spells_term = subst (λ (r : Stream). SpellsTerm ts t r) s.1.0 spells;
      is_op = ap operator s.1.1 ∙ is;
      spells_value = subst (λ (r : Stream). SpellsLiteral (next mid) l.0.0 r) (sym rest) (literal_found (next mid) l.0.0 l.0.1 l.1);
      tree = value_is (Compare t op l.0.0) x l.0.1 us l.2;
    }
compared_found None ts mid t x us spells is e = absurd (cc)

group_test_found : (ts : Stream) (x : HavingCond) (us : Stream) → q.having_test ts ≡ Ok (x, us) → SpellsGroupTest ts x us
unfolding q.having_test
group_test_found ts x us e =
    let m = bind_ok (q.term_of ts) _ (x, us) e in
    compared_found (operator (kind m.0.1)) ts m.0.1 m.0.0 x us (term_found ts m.0.0 m.0.1 m.1) refl m.2

having_found : (ts : Stream) (x : HavingCond) (us : Stream) → q.having ts ≡ Ok (x, us) → SpellsHaving ts x us
unfolding q.having
having_found ts x us e =
    (cond_found q.group_joints (SpellsFactor SpellsGroupTest q.group_joints c.deepest) (c.factor q.having_test q.group_joints c.deepest)
    (factor_found SpellsGroupTest q.having_test q.group_joints group_test_found c.deepest) ts x us e).0

item_found : (ts : Stream) (i : QueryItem) (us : Stream) → q.item ts ≡ Ok (i, us) → SpellsItem ts i us
unfolding q.item q.label is_last
item_found ts i us e =
    let m = bind_ok (q.term_of ts) _ (i, us) e in
    let l = bind_ok (q.optional k.As name m.0.1) _ (i, us) m.2 in
    let made : QueryItem = record { term = m.0.0; label = l.0.0 } in
    let is = value_is made i l.0.1 us l.2 in
    let rest = rest_is made i l.0.1 us l.2 in
    let o = optional_found k.As SpellsName name m.0.1 l.0.0 l.0.1 refl (λ ts a us h. name_found ts us a h) l.1 in
    subst (λ (j : QueryItem). SpellsItem ts j us) (sym is) (m.0.1, term_found ts m.0.0 m.0.1 m.1, subst (λ (r : Stream). SpellsOptional k.As SpellsName m.0.1 l.0.0 r) (sym rest) o)

stays : (ts : Stream) (b : Bool) (us : Stream) → ok false ts ≡ Ok (b, us) → SpellsDirection ts b us
stays ts b us e = subst (λ (x : Bool). SpellsDirection ts x us) (sym (value_is false b ts us e)) (inl (rest_is false b ts us e))

direction_step : (kd : Kind) (ts : Stream) (b : Bool) (us : Stream) → kind ts ≡ kd → q.direction_by kd ts ≡ Ok (b, us) → SpellsDirection ts b us
unfolding is_last
direction_step k.Asc ts b us h e = subst (λ (x : Bool). SpellsDirection ts x us) (sym (value_is false b (next ts) us e)) (inr (skips_next k.Asc ts us h refl (rest_is false b (next ts) us e)))
direction_step k.Desc ts b us h e = subst (λ (x : Bool). SpellsDirection ts x us) (sym (value_is true b (next ts) us e)) (skips_next k.Desc ts us h refl (rest_is true b (next ts) us e))
direction_step _ ts b us h e = stays ts b us e

key_found : (ts : Stream) (i : QueryKey) (us : Stream) → q.key ts ≡ Ok (i, us) → SpellsKey ts i us
unfolding q.key q.direction
key_found ts i us e =
    let m = bind_ok (q.term_of ts) _ (i, us) e in
    let d = bind_ok (q.direction m.0.1) _ (i, us) m.2 in
    let made : QueryKey = record { term = m.0.0; descending = d.0.0 } in
    let is = value_is made i d.0.1 us d.2 in
    let rest = rest_is made i d.0.1 us d.2 in
    let o = direction_step (kind m.0.1) m.0.1 d.0.0 d.0.1 refl d.1 in
    subst (λ (j : QueryKey). SpellsKey ts j us) (sym is) (m.0.1, term_found ts m.0.0 m.0.1 m.1, subst (λ (r : Stream). SpellsDirection m.0.1 d.0.0 r) (sym rest) o)

-- ---- the end

and_step : (a b : Bool) (ts : Stream) (l : LiteralAt) (us : Stream) (f : QueryFault) → sees k.Number ts ≡ a → q.is_natural (number ts) ≡ b
    → cond (a && b) (ok (record { value = Whole (number ts); offset = place ts }) (next ts)) (Err f) ≡ Ok (l, us) → SpellsCount ts l us
unfolding is_last
and_step false b ts l us f s n e = absurd (cc)
and_step true false ts l us f s n e = absurd (cc)
and_step true true ts l us f s n e =
    let t = token_at k.Number ts (sees_kind k.Number ts s) refl in
    let made : LiteralAt = record { value = Whole (number ts); offset = place ts } in
    let rest = rest_is made l (next ts) us e in
    let is = value_is made l (next ts) us e in
    (t.0, (t.1.0 ∙ ap (λ r. t.0 ∷ r) (sym rest), t.1.1), ap q.is_natural (sym t.4) ∙ n, is ∙ rw (t.2, t.4) refl)

count_found : (ts : Stream) (l : LiteralAt) (us : Stream) → q.count ts ≡ Ok (l, us) → SpellsCount ts l us
unfolding q.count
count_found ts l us e = and_step (sees k.Number ts) (q.is_natural (number ts)) ts l us _ refl refl e

limits_step : (b : Bool) (ts mid : Stream) (p : Option LiteralAt × Option LiteralAt) (us : Stream) → eat k.Limit ts ≡ Ok (b, mid)
    → cond b (q.count >>= (λ l. q.optional k.Offset q.count >>= (λ o. pure (Some l, o)))) (pure (None, None)) mid ≡ Ok (p, us) → SpellsLimits ts p.0 p.1 us
unfolding is_last
limits_step true ts mid p us s e =
    let m = bind_ok (q.count mid) _ (p, us) e in
    let o = bind_ok (q.optional k.Offset q.count m.0.1) _ (p, us) m.2 in
    let made : Option LiteralAt × Option LiteralAt = (Some m.0.0, o.0.0) in
    let is = value_is made p o.0.1 us o.2 in
    let rest = rest_is made p o.0.1 us o.2 in
    let h = optional_found k.Offset SpellsCount q.count m.0.1 o.0.0 o.0.1 refl count_found o.1 in
    subst (λ (z : Option LiteralAt × Option LiteralAt). SpellsLimits ts z.0 z.1 us) (sym is)
    (mid, m.0.1, eaten_found k.Limit ts mid refl s, count_found mid m.0.0 m.0.1 m.1, subst (λ (r : Stream). SpellsOptional k.Offset SpellsCount m.0.1 o.0.0 r) (sym rest) h)
limits_step false ts mid p us s e =
    let made : Option LiteralAt × Option LiteralAt = (None, None) in
    let is = value_is made p mid us e in
    subst (λ (z : Option LiteralAt × Option LiteralAt). SpellsLimits ts z.0 z.1 us) (sym is) (rest_is made p mid us e ∙ passed_found k.Limit ts mid s)

limits_found : (ts : Stream) (p : Option LiteralAt × Option LiteralAt) (us : Stream) → q.limits ts ≡ Ok (p, us) → SpellsLimits ts p.0 p.1 us
unfolding q.limits
limits_found ts p us e =
    let m = bind_ok (eat k.Limit ts) (λ b. cond b (q.count >>= (λ l. q.optional k.Offset q.count >>= (λ o. pure (Some l, o)))) (pure (None, None))) (p, us) e in
    limits_step m.0.0 ts m.0.1 p us m.1 m.2

end_step : (b : Bool) (ts us : Stream) (a : Unit {0}) (f : QueryFault) → sees k.End ts ≡ b → cond b (ok tt (next ts)) (Err f) ≡ Ok (a, us) → kind ts ≡ k.End
end_step true ts us a f s e = sees_kind k.End ts s
end_step false ts us a f s e = absurd (cc)

end_found : (ts us : Stream) (a : Unit {0}) → expect k.End ts ≡ Ok (a, us) → kind ts ≡ k.End
unfolding expect
end_found ts us a e = end_step (sees k.End ts) ts us a _ refl e

ending_step : (b : Bool) (ts mid us : Stream) (a : Unit {0}) → eat k.Semi ts ≡ Ok (b, mid) → expect k.End mid ≡ Ok (a, us) → SpellsEnding ts
unfolding is_last
ending_step true ts mid us a s e = inr (mid, eaten_found k.Semi ts mid refl s, end_found mid us a e)
ending_step false ts mid us a s e = inl (ap kind (sym (passed_found k.Semi ts mid s)) ∙ end_found mid us a e)

ending_found : (ts us : Stream) (a : Unit {0}) → q.ending ts ≡ Ok (a, us) → SpellsEnding ts
unfolding q.ending
ending_found ts us a e =
    let m = bind_ok (eat k.Semi ts) (λ _. expect k.End) (a, us) e in
    ending_step m.0.0 ts m.0.1 us a m.1 m.2

-- ---- GROUP BY and ORDER BY

by_found : {A : Type 0} (rule : Rule A) (item : Parser A) → ((ts : Stream) (x : A) (us : Stream) → item ts ≡ Ok (x, us) → rule ts x us) → (ts : Stream) (xs : List A) (us : Stream)
    → (expect k.By >> separated k.Comma item) ts ≡ Ok (xs, us) → SpellsBy rule ts xs us
unfolding is_last
by_found rule item each ts xs us e =
    let m = bind_ok (expect k.By ts) (λ _. separated k.Comma item) (xs, us) e in
    (m.0.1, expect_found k.By ts m.0.1 m.0.0 refl m.1, (list_found k.Comma rule item (λ _. Unit {0}) refl (λ ts x us h. (each ts x us h, tt)) m.0.1 xs us m.2).0)

groups_found : (ts : Stream) (xs : List NameAt) (us : Stream) → q.groups ts ≡ Ok (xs, us) → SpellsListed k.Group (SpellsBy SpellsName) ts xs us
unfolding q.groups is_last
groups_found ts xs us e = listed_found k.Group SpellsName (expect k.By >> separated k.Comma name) ts xs us refl (by_found SpellsName name (λ ts x us h. name_found ts us x h)) e

having_if_found : (gs : List NameAt) (ts : Stream) (o : Option HavingCond) (us : Stream) → q.having_if gs ts ≡ Ok (o, us) → SpellsHavingIf gs ts o us
unfolding q.having_if is_last
having_if_found [] ts o us e = (rest_is None o ts us e, value_is None o ts us e)
having_if_found (g ∷ gs) ts o us e = optional_found k.Having SpellsHaving q.having ts o us refl having_found e

order_found : (ts : Stream) (xs : List QueryKey) (us : Stream) → q.order ts ≡ Ok (xs, us) → SpellsListed k.Order (SpellsBy SpellsKey) ts xs us
unfolding q.order is_last
order_found ts xs us e = listed_found k.Order SpellsKey (expect k.By >> separated k.Comma q.key) ts xs us refl (by_found SpellsKey q.key key_found) e

condition_if_found : (ts : Stream) (o : Option Cond) (us : Stream) → q.condition_if ts ≡ Ok (o, us) → SpellsOptional k.Where SpellsCondition ts o us
unfolding q.condition_if is_last
condition_if_found ts o us e = optional_found k.Where SpellsCondition c.condition ts o us refl (λ ts x us h. (condition_found ts x us h).0) e

-- ---- options

value_step : (b : Bool) (ts : Stream) (v : Bytes) (us : Stream) (f : QueryFault) → q.is_value (kind ts) ≡ b → cond b (ok (word ts) (next ts)) (Err f) ≡ Ok (v, us)
    → (t : Lexeme) × (q.is_value t.kind ≡ true) × (ts ≡ t ∷ us) × (v ≡ t.value)
value_step true ts v us f is e =
    let t = token_at (kind ts) ts refl (value_goes_on (kind ts) is) in
    let rest = rest_is (word ts) v (next ts) us e in
    (t.0, ap q.is_value t.1.1 ∙ is, t.1.0 ∙ ap (λ r. t.0 ∷ r) (sym rest), value_is (word ts) v (next ts) us e ∙ t.3)
value_step false ts v us f is e = absurd (cc)

value_found : (ts : Stream) (v : Bytes) (us : Stream) → q.option_value ts ≡ Ok (v, us) → (t : Lexeme) × (q.is_value t.kind ≡ true) × (ts ≡ t ∷ us) × (v ≡ t.value)
unfolding q.option_value
value_found ts v us e = value_step (q.is_value (kind ts)) ts v us _ refl e

checked_found : (r : Result Bool QueryFault) (ts : Stream) (b : Bool) (us : Stream) → q.checked r ts ≡ Ok (b, us) → (r ≡ Ok b) × (us ≡ ts)
checked_found (Ok a) ts b us e = (ap (λ x. Ok x) (sym (value_is a b ts us e)), rest_is a b ts us e)
checked_found (Err f) ts b us e = absurd (cc)

abbrev SetFound : Bool → Stream → Bool → Stream → Type 0
SetFound before ts now us = (n : NameAt) × (v : Bytes) × SpellsSet ts n v us × (q.set_option n v before ≡ Ok now)

ends_after : (at_end mid last us : Stream) (u : Unit {0}) → mid ≡ at_end → us ≡ last → expect k.Semi mid ≡ Ok (u, last) → Skips k.Semi at_end us
unfolding is_last
ends_after at_end mid last us u is rest e = subst (λ (r : Stream). Skips k.Semi r us) is (subst (λ (r : Stream). Skips k.Semi mid r) (sym rest) (expect_found k.Semi mid last u refl e))

valued_found : (before : Bool) (ts at_name at_sign at_value : Stream) (n : NameAt) (now : Bool) (us : Stream) → Skips k.Set ts at_name → SpellsName at_name n at_sign → Skips k.Eq at_sign at_value
    → (q.option_value >>= (λ v. q.checked (q.set_option n v before) >>= (λ after. expect k.Semi >> pure after))) at_value ≡ Ok (now, us) → SetFound before ts now us
valued_found before ts at_name at_sign at_value n now us set spells sign e =
    with_ok (q.option_value at_value) (λ v. q.checked (q.set_option n v before) >>= (λ after. expect k.Semi >> pure after)) (now, us) e (λ v at_end ve e.
    with_ok (q.checked (q.set_option n v before) at_end) (λ after. expect k.Semi >> pure after) (now, us) e (λ after mid ae e.
    with_ok (expect k.Semi mid) (λ _. pure after) (now, us) e (λ u last ze e.
    let w = value_found at_value v at_end ve in
    let allowed = checked_found (q.set_option n v before) at_end after mid ae in (
      n,
      v,
      record {
        at_name = at_name;
        at_sign = at_sign;
        at_value = at_value;
        at_end = at_end;
        token = w.0;
        word = set;
        spells_name = spells;
        sign = sign;
        is_value = w.1;
        spells_value = w.2;
        value_is = w.3;
        ends = ends_after at_end mid last us u allowed.1 (rest_is after now last us e) ze;
      },
      allowed.0 ∙ ap (λ x. Ok x) (sym (value_is after now last us e)),
    ))))

set_found : (before : Bool) (ts : Stream) (now : Bool) (us : Stream) → q.option before ts ≡ Ok (now, us) → SetFound before ts now us
unfolding q.option is_last
set_found before ts now us e =
    with_ok (expect k.Set ts) _ (now, us) e (λ u at_name se e.
    with_ok (name at_name) _ (now, us) e (λ n at_sign ne e.
    with_ok (expect k.Eq at_sign) _ (now, us) e (λ w at_value ge e.
    valued_found before ts at_name at_sign at_value n now us (expect_found k.Set ts at_name u refl se) (name_found at_name at_sign n ne) (expect_found k.Eq at_sign at_value w refl ge) e)))

sets_step : (b : Bool) (n : ℕ) (ts : Stream) (before after : Bool) (us : Stream) → sees k.Set ts ≡ b
    → ((ts : Stream) (before after : Bool) (us : Stream) → q.options_from n before ts ≡ Ok (after, us) → (os : List (NameAt × Bytes)) × SpellsSets os ts before after us × (sees k.Set us ≡ false))
    → cond b ((q.option before >>= q.options_from n) ts) (ok before ts) ≡ Ok (after, us) → (os : List (NameAt × Bytes)) × SpellsSets os ts before after us × (sees k.Set us ≡ false)
sets_step true n ts before after us s again e =
    let m = bind_ok (q.option before ts) (q.options_from n) (after, us) e in
    let one = set_found before ts m.0.0 m.0.1 m.1 in
    let more = again m.0.1 m.0.0 after us m.2 in
    ((one.0, one.1) ∷ more.0, (m.0.1, m.0.0, one.2, one.3, more.1), more.2)
sets_step false n ts before after us s again e =
    let rest = rest_is before after ts us e in
    ([], (rest, value_is before after ts us e), ap (sees k.Set) rest ∙ s)

sets_found : (n : ℕ) (ts : Stream) (before after : Bool) (us : Stream) → q.options_from n before ts ≡ Ok (after, us) → (os : List (NameAt × Bytes)) × SpellsSets os ts before after us × (sees k.Set us ≡ false)
unfolding q.options_from
sets_found zero ts before after us e = absurd (cc)
sets_found (suc n) ts before after us e = sets_step (sees k.Set ts) n ts before after us refl (sets_found n) e

-- ---- the whole

select_place : (ts us : Stream) (w : Skips k.Select ts us) → place ts ≡ w.0.at
unfolding place
select_place ts us w = ap place w.1.0

closing_found : (ts : Stream) (l : Option LiteralAt × Option LiteralAt) (us : Stream) → q.closing ts ≡ Ok (l, us) → (mid : Stream) × SpellsLimits ts l.0 l.1 mid × SpellsEnding mid
unfolding q.closing
closing_found ts l us e =
    let m = bind_ok (q.limits ts) _ (l, us) e in
    let d = bind_ok (q.ending m.0.1) _ (l, us) m.2 in
    let is = value_is m.0.0 l d.0.1 us d.2 in
    (m.0.1, subst (λ (p : Option LiteralAt × Option LiteralAt). SpellsLimits ts p.0 p.1 m.0.1) (sym is) (limits_found ts m.0.0 m.0.1 m.1), ending_found m.0.1 d.0.1 d.0.0 d.1)

pub query_found : (ts : Stream) (x : Query) (us : Stream) → q.query ts ≡ Ok (x, us) → SpellsQuery ts x
unfolding q.query is_last
query_found ts x us e =
    with_ok (q.options ts) _ (x, us) e (λ use_tree at_select oe e.
    with_ok (expect k.Select at_select) _ (x, us) e (λ u at_items se e.
    with_ok (separated k.Comma q.item at_items) _ (x, us) e (λ items at_from ie e.
    with_ok (expect k.From at_from) _ (x, us) e (λ v at_table fe e.
    with_ok (name at_table) _ (x, us) e (λ table after_table te e.
    with_ok (q.condition_if after_table) _ (x, us) e (λ condition after_condition we e.
    with_ok (q.groups after_condition) _ (x, us) e (λ groups after_groups ge e.
    with_ok (q.having_if groups after_groups) _ (x, us) e (λ having after_having he e.
    with_ok (q.order after_having) _ (x, us) e (λ order after_order re e.
    with_ok (q.closing after_order) _ (x, us) e (λ limits rest le e.
    let z = closing_found after_order limits rest le in
    let made : Query = record { use_tree = use_tree; select = place at_select; items = items; table = table; condition = condition; groups = groups; having = having; order = order; limit = limits.0; offset = limits.1 } in
    let sets = sets_found _ ts true use_tree at_select oe in
    let word = expect_found k.Select at_select at_items u refl se in
    subst (λ (z : Query). SpellsQuery ts z) (sym (value_is made x rest us e)) (record {
      sets = sets.0;
      at_select = at_select;
      at_items = at_items;
      at_from = at_from;
      at_table = at_table;
      after_table = after_table;
      after_condition = after_condition;
      after_groups = after_groups;
      after_having = after_having;
      after_order = after_order;
      at_end = z.0;
      select = word.0;
      spells_sets = sets.1;
      spells_select = word.1;
      select_at = select_place at_select at_items word;
      spells_items = (list_found k.Comma SpellsItem q.item (λ _. Unit {0}) refl (λ ts x us h. (item_found ts x us h, tt)) at_items items at_from ie).0;
      from = expect_found k.From at_from at_table v refl fe;
      spells_table = name_found at_table after_table table te;
      spells_condition = condition_if_found after_table condition after_condition we;
      spells_groups = groups_found after_condition groups after_groups ge;
      spells_having = having_if_found groups after_groups having after_having he;
      spells_order = order_found after_having order after_order re;
      spells_limits = z.1;
      ends = z.2;
    })))))))))))
