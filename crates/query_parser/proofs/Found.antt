-- What is read is spelled.
use Rattle.std.proofs.Common.{◌≡◌, ◌⊎◌, ℕ, zero, suc, Bool, true, false, cond, List, [], ◌∷◌, ◌++◌, Option, Some, None, Ok, Err, refl, ap, sym, ◌∙◌, subst, append_assoc, inl, inr}
use Rattle.query_tokens.specs.declared.token.Kind.{Kind}
use Rattle.query_tokens.specs.declared.token.Kind.TheVariants as k
use Rattle.query_tokens.specs.declared.fault.QueryFault.{QueryFault}
use Rattle.query_tokens.specs.declared.tree.NameAt.{NameAt}
use Rattle.query_tokens.specs.declared.tree.LiteralAt.{LiteralAt}
use Rattle.values.specs.declared.value.Value.TheVariants.{Whole, Text}
use Rattle.values.specs.declared.test.CompareOp.{CompareOp}
use Rattle.query_tokens.specs.declared.tree.Cond.{Cond}
use Rattle.query_tokens.specs.declared.tree.Cond.TheVariants.{Compare, OneOf, Between}
use Rattle.query_tokens.specs.Lex.{is_last}
use Rattle.query_tokens.specs.Stream.{Lexeme, Stream, kind, place, number, word, next}
use Rattle.query_parser.specs.Reading.{Outcome, Parser, pure, refusal, sees, after, expect, name, literal_by, literal, separated_from, separated, too_deep}
use Rattle.query_parser.specs.Operators.{operator}
use Rattle.query_parser.specs.Cond as c
use Rattle.query_parser.specs.Spells.{Rule, IsToken, Skips, SpellsName, SpellsLiteral, SpellsList, MayNegate, SpellsTest, SpellsConjunction, SpellsCond, SpellsNegation, SpellsGroup, SpellsFactor, SpellsCondition}
use Rattle.query_parser.specs.Shrinks.{ok, stop, rest_is, bind_ok, sees_kind, name_goes_on, end_is_last}
use Rattle.query_parser.proofs.Again.{next_at, not_after, op_goes_on}

abbrev pub value_or : {A : Type 0} → A → Outcome A → A
value_or a (Ok p) = p.0
value_or a (Err e) = a

pub value_is : {A : Type 0} (a b : A) (ts us : Stream) → ok a ts ≡ ok b us → b ≡ a
value_is a b ts us e = sym (ap (value_or b) e)

-- a fault is no outcome
pub not_ok : {A : Type 0} (f : QueryFault) (y : A × Stream) → stop f ≡ Ok y → ⊥
not_ok f y e = cc

-- ---- one token

pub token_at : (kd : Kind) (ts : Stream) → kind ts ≡ kd → is_last kd ≡ false → (t : Lexeme) × IsToken kd ts t (next ts) × (place ts ≡ t.at) × (word ts ≡ t.value) × (number ts ≡ t.number)
unfolding kind place word number
token_at kd [] h e = let conjunction : true ≡ false = sym end_is_last ∙ ap is_last h ∙ e in absurd (cc)
token_at kd (t ∷ rest) h e = (t, (ap (λ r. t ∷ r) (sym (next_at kd t rest h e)), h), refl, refl, refl)

pub skips_next : (kd : Kind) (ts us : Stream) → kind ts ≡ kd → is_last kd ≡ false → us ≡ next ts → Skips kd ts us
skips_next kd ts us h e n = let t = token_at kd ts h e in (t.0, (t.1.0 ∙ ap (λ r. t.0 ∷ r) (sym n), t.1.1))

expect_step : (q : Bool) (kd : Kind) (ts us : Stream) (a : Unit {0}) (f : QueryFault) → is_last kd ≡ false → sees kd ts ≡ q → cond q (ok tt (next ts)) (stop f) ≡ ok a us → Skips kd ts us
expect_step true kd ts us a f l s e = skips_next kd ts us (sees_kind kd ts s) l (rest_is tt a (next ts) us e)
expect_step false kd ts us a f l s e = absurd (cc)

pub expect_found : (kd : Kind) (ts us : Stream) (a : Unit {0}) → is_last kd ≡ false → expect kd ts ≡ Ok (a, us) → Skips kd ts us
unfolding expect
expect_found kd ts us a l e = expect_step (sees kd ts) kd ts us a _ l refl e

name_step : (q : Bool) (ts us : Stream) (n : NameAt) (f : QueryFault) → sees k.Name ts ≡ q → cond q (ok (record { name = word ts; offset = place ts }) (next ts)) (stop f) ≡ ok n us → SpellsName ts n us
name_step true ts us n f s e =
    let t = token_at k.Name ts (sees_kind k.Name ts s) name_goes_on in
    let rest = rest_is (record { name = word ts; offset = place ts }) n (next ts) us e in
    let is = value_is (record { name = word ts; offset = place ts }) n (next ts) us e in
    (t.0, (t.1.0 ∙ ap (λ r. t.0 ∷ r) (sym rest), t.1.1), is ∙ rw (t.2, t.3) refl)
name_step false ts us n f s e = absurd (cc)

pub name_found : (ts us : Stream) (n : NameAt) → name ts ≡ Ok (n, us) → SpellsName ts n us
unfolding name
name_found ts us n e = name_step (sees k.Name ts) ts us n _ refl e

literal_step : (kd : Kind) (ts us : Stream) (v : LiteralAt) → kind ts ≡ kd → literal_by kd ts ≡ ok v us → SpellsLiteral ts v us
unfolding is_last
literal_step k.Number ts us v s e =
    let t = token_at k.Number ts s refl in
    let rest = rest_is (record { value = Whole (number ts); offset = place ts }) v (next ts) us e in
    let is = value_is (record { value = Whole (number ts); offset = place ts }) v (next ts) us e in
    (t.0, inl ((t.1.0 ∙ ap (λ r. t.0 ∷ r) (sym rest), t.1.1), is ∙ rw (t.2, t.4) refl))
literal_step k.Text ts us v s e =
    let t = token_at k.Text ts s refl in
    let rest = rest_is (record { value = Text (word ts); offset = place ts }) v (next ts) us e in
    let is = value_is (record { value = Text (word ts); offset = place ts }) v (next ts) us e in
    (t.0, inr ((t.1.0 ∙ ap (λ r. t.0 ∷ r) (sym rest), t.1.1), is ∙ rw (t.2, t.3) refl))
literal_step _ ts us v s e = absurd (not_ok (refusal ts) (v, us) e)

pub literal_found : (ts : Stream) (v : LiteralAt) (us : Stream) → literal ts ≡ Ok (v, us) → SpellsLiteral ts v us
unfolding literal
literal_found ts v us e = literal_step (kind ts) ts us v refl e

-- ---- lists

module _ {A : Type 0} (sep : Kind) (rule : Rule A) (item : Parser A) (Ends : Stream → Type 0) (more : is_last sep ≡ false)
    (each : (ts : Stream) (x : A) (us : Stream) → item ts ≡ Ok (x, us) → rule ts x us × Ends us) where
  abbrev Found : List A → Stream → List A → Stream → Type 0
  Found found ts all us = (xs : List A) × (all ≡ found ++ xs) × SpellsList sep rule ts xs us × Ends us × (sees sep us ≡ false)

  grow : (found : List A) (x : A) (ts mid rest us : Stream) (all xs : List A) → rule ts x mid → Skips sep mid rest → all ≡ (found ++ x ∷ []) ++ xs → SpellsList sep rule rest xs us → Ends us → sees sep us ≡ false
      → Found found ts all us
  grow found x ts mid rest us all [] r s e spells ends last = absurd spells
  grow found x ts mid rest us all (y ∷ ys) r s e spells ends last = (x ∷ y ∷ ys, e ∙ append_assoc found (x ∷ []) (y ∷ ys), (mid, rest, r, s, spells), ends, last)

  turn : (q : Bool) (n : ℕ) (found : List A) (x : A) (ts mid : Stream) (all : List A) (us : Stream) → sees sep mid ≡ q → rule ts x mid × Ends mid
      → ((ts : Stream) (all : List A) (us : Stream) → separated_from sep item n (found ++ x ∷ []) ts ≡ Ok (all, us) → Found (found ++ x ∷ []) ts all us)
      → cond q (separated_from sep item n (found ++ x ∷ [])) (pure (found ++ x ∷ [])) (after sep mid) ≡ Ok (all, us) → Found found ts all us
  unfolding after
  turn true n found x ts mid all us s r again e =
      let f = again (after sep mid) all us e in
      let gone : after sep mid ≡ next mid = ap (λ q. cond q (next mid) mid) s in
      grow found x ts mid (after sep mid) us all f.0 r.0 (skips_next sep mid (after sep mid) (sees_kind sep mid s) more gone) f.1 f.2 f.3 f.4
  turn false n found x ts mid all us s r again e =
      let is = value_is (found ++ x ∷ []) all (after sep mid) us e in
      let rest : us ≡ mid = rest_is (found ++ x ∷ []) all (after sep mid) us e ∙ not_after sep mid s in
      (x ∷ [], is, rw rest r.0, rw rest r.1, rw rest s)

  from_found : (n : ℕ) (found : List A) (ts : Stream) (all : List A) (us : Stream) → separated_from sep item n found ts ≡ Ok (all, us) → Found found ts all us
  unfolding separated_from
  from_found zero found ts all us e = absurd (cc)
  from_found (suc n) found ts all us e =
      let m = bind_ok (item ts) _ (all, us) e in
      turn (sees sep m.0.1) n found m.0.0 ts m.0.1 all us refl (each ts m.0.0 m.0.1 m.1) (from_found n (found ++ m.0.0 ∷ [])) m.2

  pub list_found : (ts : Stream) (xs : List A) (us : Stream) → separated sep item ts ≡ Ok (xs, us) → SpellsList sep rule ts xs us × Ends us × (sees sep us ≡ false)
  list_found ts xs us e = let f = from_found _ [] ts xs us e in (rw f.1 f.2, f.3, f.4)

-- ---- tests

literals_found : (ts : Stream) (vs : List LiteralAt) (us : Stream) → separated k.Comma literal ts ≡ Ok (vs, us) → SpellsList k.Comma SpellsLiteral ts vs us
unfolding is_last
literals_found ts vs us e = (list_found k.Comma SpellsLiteral literal (λ _. Unit {0}) refl (λ ts x us h. (literal_found ts x us h, tt)) ts vs us e).0

pub record BehindIn (column : NameAt) (b : Bool) (ts : Stream) (x : Cond) (us : Stream) : Type 0 where
  pub values : List LiteralAt
  pub inside : Stream
  pub at_close : Stream
  pub opens : Skips k.LParen ts inside
  pub spells_values : SpellsList k.Comma SpellsLiteral inside values at_close
  pub closes : Skips k.RParen at_close us
  pub tree : x ≡ OneOf column values b

one_of_found : (column : NameAt) (b : Bool) (ts : Stream) (x : Cond) (us : Stream) → c.one_of column b ts ≡ Ok (x, us) → BehindIn column b ts x us
unfolding c.one_of is_last
one_of_found column b ts x us e =
    let o = bind_ok (expect k.LParen ts) _ (x, us) e in
    let v = bind_ok (separated k.Comma literal o.0.1) _ (x, us) o.2 in
    let r = bind_ok (expect k.RParen v.0.1) _ (x, us) v.2 in
    let is = value_is (OneOf column v.0.0 b) x r.0.1 us r.2 in
    let rest = rest_is (OneOf column v.0.0 b) x r.0.1 us r.2 in
    record {
      values = v.0.0;
      inside = o.0.1;
      at_close = v.0.1;
      opens = expect_found k.LParen ts o.0.1 o.0.0 refl o.1;
      spells_values = literals_found o.0.1 v.0.0 v.0.1 v.1;
      closes = subst (λ (q : Stream). Skips k.RParen v.0.1 q) (sym rest) (expect_found k.RParen v.0.1 r.0.1 r.0.0 refl r.1);
      tree = is;
    }

pub record BehindBetween (column : NameAt) (b : Bool) (ts : Stream) (x : Cond) (us : Stream) : Type 0 where
  pub low : LiteralAt
  pub high : LiteralAt
  pub at_and : Stream
  pub at_high : Stream
  pub spells_low : SpellsLiteral ts low at_and
  pub and_word : Skips k.And at_and at_high
  pub spells_high : SpellsLiteral at_high high us
  pub tree : x ≡ Between column low high b

between_found : (column : NameAt) (b : Bool) (ts : Stream) (x : Cond) (us : Stream) → c.between column b ts ≡ Ok (x, us) → BehindBetween column b ts x us
unfolding c.between is_last
between_found column b ts x us e =
    let l = bind_ok (literal ts) _ (x, us) e in
    let a = bind_ok (expect k.And l.0.1) _ (x, us) l.2 in
    let h = bind_ok (literal a.0.1) _ (x, us) a.2 in
    let is = value_is (Between column l.0.0 h.0.0 b) x h.0.1 us h.2 in
    let rest = rest_is (Between column l.0.0 h.0.0 b) x h.0.1 us h.2 in
    record {
      low = l.0.0;
      high = h.0.0;
      at_and = l.0.1;
      at_high = a.0.1;
      spells_low = literal_found ts l.0.0 l.0.1 l.1;
      and_word = expect_found k.And l.0.1 a.0.1 a.0.0 refl a.1;
      spells_high = subst (λ (q : Stream). SpellsLiteral a.0.1 h.0.0 q) (sym rest) (literal_found a.0.1 h.0.0 h.0.1 h.1);
      tree = is;
    }

of_in : (ts mid from to : Stream) (column : NameAt) (b : Bool) (x : Cond) (us : Stream) → SpellsName ts column mid → MayNegate mid b from → Skips k.In from to → BehindIn column b to x us → SpellsTest ts x us
of_in ts mid from to column b x us n may word r = inr (inl (record {
  column = column;
  negated = b;
  values = r.values;
  after_column = mid;
  at_in = from;
  at_open = to;
  inside = r.inside;
  at_close = r.at_close;
  spells_column = n;
  negation = may;
  word = word;
  opens = r.opens;
  spells_values = r.spells_values;
  closes = r.closes;
  tree = r.tree;
}))

of_between : (ts mid from to : Stream) (column : NameAt) (b : Bool) (x : Cond) (us : Stream) → SpellsName ts column mid → MayNegate mid b from → Skips k.Between from to → BehindBetween column b to x us → SpellsTest ts x us
of_between ts mid from to column b x us n may word r = inr (inr (record {
  column = column;
  negated = b;
  low = r.low;
  high = r.high;
  after_column = mid;
  at_between = from;
  at_low = to;
  at_and = r.at_and;
  at_high = r.at_high;
  spells_column = n;
  negation = may;
  word = word;
  spells_low = r.spells_low;
  and_word = r.and_word;
  spells_high = r.spells_high;
  tree = r.tree;
}))

compared_found : (o : Option CompareOp) (ts mid : Stream) (column : NameAt) (x : Cond) (us : Stream) → SpellsName ts column mid → operator (kind mid) ≡ o → c.compared column o mid ≡ Ok (x, us) → SpellsTest ts x us
compared_found (Some op) ts mid column x us n h e =
    let t = token_at (kind mid) mid refl (op_goes_on (kind mid) op h) in
    let l = bind_ok (literal (next mid)) _ (x, us) e in
    let is = value_is (Compare column op l.0.0) x l.0.1 us l.2 in
    let rest = rest_is (Compare column op l.0.0) x l.0.1 us l.2 in
    inl (record {
      column = column;
      op = op;
      value = l.0.0;
      sign = t.0;
      rest = next mid;
      spells_column = (n.0, (n.1.0 ∙ ap (λ r. n.0 ∷ r) t.1.0, n.1.1), n.2);
      is_op = ap operator t.1.1 ∙ h;
      spells_value = subst (λ (q : Stream). SpellsLiteral (next mid) l.0.0 q) (sym rest) (literal_found (next mid) l.0.0 l.0.1 l.1);
      tree = is;
    })
compared_found None ts mid column x us n h e = absurd (cc)

negated_found : (kd : Kind) (ts mid from : Stream) (column : NameAt) (x : Cond) (us : Stream) → SpellsName ts column mid → Skips k.Not mid from → kind from ≡ kd → c.negated_by column kd from ≡ Ok (x, us) → SpellsTest ts x us
unfolding is_last
negated_found k.In ts mid from column x us n may h e = of_in ts mid from (next from) column true x us n may (skips_next k.In from (next from) h refl refl) (one_of_found column true (next from) x us e)
negated_found k.Between ts mid from column x us n may h e = of_between ts mid from (next from) column true x us n may (skips_next k.Between from (next from) h refl refl) (between_found column true (next from) x us e)
negated_found _ ts mid from column x us n may h e = absurd (not_ok (refusal from) (x, us) e)

following_found : (kd : Kind) (ts mid : Stream) (column : NameAt) (x : Cond) (us : Stream) → SpellsName ts column mid → kind mid ≡ kd → c.test_by column kd mid ≡ Ok (x, us) → SpellsTest ts x us
unfolding is_last
following_found k.In ts mid column x us n h e = of_in ts mid mid (next mid) column false x us n refl (skips_next k.In mid (next mid) h refl refl) (one_of_found column false (next mid) x us e)
following_found k.Between ts mid column x us n h e = of_between ts mid mid (next mid) column false x us n refl (skips_next k.Between mid (next mid) h refl refl) (between_found column false (next mid) x us e)
following_found k.Not ts mid column x us n h e =
    negated_found (kind (next mid)) ts mid (next mid) column x us n (skips_next k.Not mid (next mid) h refl refl) refl e
following_found kd ts mid column x us n h e = compared_found (operator kd) ts mid column x us n (ap operator h) e

pub test_found : (ts : Stream) (x : Cond) (us : Stream) → c.predicate ts ≡ Ok (x, us) → SpellsTest ts x us
unfolding c.predicate
test_found ts x us e =
    let m = bind_ok (name ts) _ (x, us) e in
    following_found (kind m.0.1) ts m.0.1 m.0.0 x us (name_found ts m.0.1 m.0.0 m.1) refl m.2

-- ---- conditions

module _ {C : Type 0} (j : c.Joints C) (rule : Rule C) (factor : Parser C) (each : (ts : Stream) (x : C) (us : Stream) → factor ts ≡ Ok (x, us) → rule ts x us) where
  conjunction_found : (ts : Stream) (x : C) (us : Stream) → c.conjunction j factor ts ≡ Ok (x, us) → SpellsConjunction j rule ts x us × (sees k.And us ≡ false)
  unfolding c.conjunction is_last
  conjunction_found ts x us e =
      let m = bind_ok (separated k.And factor ts) _ (x, us) e in
      let is = value_is (c.joined j.all_of m.0.0) x m.0.1 us m.2 in
      let rest = rest_is (c.joined j.all_of m.0.0) x m.0.1 us m.2 in
      let f = list_found k.And rule factor (λ _. Unit {0}) refl (λ ts x us h. (each ts x us h, tt)) ts m.0.0 m.0.1 m.1 in
      ((m.0.0, subst (λ (q : Stream). SpellsList k.And rule ts m.0.0 q) (sym rest) f.0, is), subst (λ (q : Stream). sees k.And q ≡ false) (sym rest) f.2)

  pub cond_found : (ts : Stream) (x : C) (us : Stream) → c.cond j factor ts ≡ Ok (x, us) → SpellsCond j rule ts x us × (sees k.And us ≡ false) × (sees k.Or us ≡ false)
  unfolding c.cond is_last
  cond_found ts x us e =
      let m = bind_ok (separated k.Or (c.conjunction j factor) ts) _ (x, us) e in
      let is = value_is (c.joined j.any_of m.0.0) x m.0.1 us m.2 in
      let rest = rest_is (c.joined j.any_of m.0.0) x m.0.1 us m.2 in
      let f = list_found k.Or (SpellsConjunction j rule) (c.conjunction j factor) (λ us. sees k.And us ≡ false) refl conjunction_found ts m.0.0 m.0.1 m.1 in
      ((m.0.0, subst (λ (q : Stream). SpellsList k.Or (SpellsConjunction j rule) ts m.0.0 q) (sym rest) f.0, is), subst (λ (q : Stream). sees k.And q ≡ false) (sym rest) f.1, subst (λ (q : Stream). sees k.Or q ≡ false) (sym rest) f.2)

-- any sort of test whose reading is as its rule says
module _ {C : Type 0} (rule : Rule C) (leaf : Parser C) (j : c.Joints C) (each : (ts : Stream) (x : C) (us : Stream) → leaf ts ≡ Ok (x, us) → rule ts x us) where
  zero_found : (kd : Kind) (ts : Stream) (x : C) (us : Stream) → c.factor_by leaf j too_deep too_deep kd ts ≡ Ok (x, us) → rule ts x us
  zero_found k.Not ts x us e = absurd (cc)
  zero_found k.LParen ts x us e = absurd (cc)
  zero_found k.Name ts x us e = each ts x us e
  zero_found _ ts x us e = absurd (not_ok (refusal ts) (x, us) e)

  deep_found : (d : ℕ) (kd : Kind) (ts : Stream) (x : C) (us : Stream) → ((ts : Stream) (x : C) (us : Stream) → c.factor leaf j d ts ≡ Ok (x, us) → SpellsFactor rule j d ts x us) → kind ts ≡ kd
      → c.factor_by leaf j (c.negation leaf j (c.factor leaf j d)) (c.in_parentheses leaf j (c.factor leaf j d)) kd ts ≡ Ok (x, us)
      → rule ts x us ⊎ (SpellsNegation j (SpellsFactor rule j d) ts x us ⊎ SpellsGroup j (SpellsFactor rule j d) ts x us)
  unfolding is_last
  deep_found d k.Not ts x us deeper h e =
      let m = bind_ok (c.factor leaf j d (next ts)) _ (x, us) e in
      let is = value_is (j.not_of m.0.0) x m.0.1 us m.2 in
      let rest = rest_is (j.not_of m.0.0) x m.0.1 us m.2 in
      inr (inl (next ts, m.0.0, skips_next k.Not ts (next ts) h refl refl, subst (λ (q : Stream). SpellsFactor rule j d (next ts) m.0.0 q) (sym rest) (deeper (next ts) m.0.0 m.0.1 m.1), is))
  deep_found d k.LParen ts x us deeper h e =
      let m = bind_ok (c.cond j (c.factor leaf j d) (next ts)) _ (x, us) e in
      let r = bind_ok (expect k.RParen m.0.1) _ (x, us) m.2 in
      let is = value_is m.0.0 x r.0.1 us r.2 in
      let rest = rest_is m.0.0 x r.0.1 us r.2 in
      let f = cond_found j (SpellsFactor rule j d) (c.factor leaf j d) deeper (next ts) m.0.0 m.0.1 m.1 in
      inr (inr (next ts, m.0.1, skips_next k.LParen ts (next ts) h refl refl, subst (λ (y : C). SpellsCond j (SpellsFactor rule j d) (next ts) y m.0.1) (sym is) f.0, subst (λ (q : Stream). Skips k.RParen m.0.1 q) (sym rest) (expect_found k.RParen m.0.1 r.0.1 r.0.0 refl r.1)))
  deep_found d k.Name ts x us deeper h e = inl (each ts x us e)
  deep_found d _ ts x us deeper h e = absurd (not_ok (refusal ts) (x, us) e)

  pub factor_found : (d : ℕ) (ts : Stream) (x : C) (us : Stream) → c.factor leaf j d ts ≡ Ok (x, us) → SpellsFactor rule j d ts x us
  unfolding SpellsFactor c.factor
  factor_found zero ts x us e = zero_found (kind ts) ts x us e
  factor_found (suc d) ts x us e = deep_found d (kind ts) ts x us (factor_found d) refl e

pub condition_found : (ts : Stream) (x : Cond) (us : Stream) → c.condition ts ≡ Ok (x, us) → SpellsCondition ts x us × (sees k.And us ≡ false) × (sees k.Or us ≡ false)
unfolding c.condition
condition_found ts x us e =
    cond_found c.row_joints (SpellsFactor SpellsTest c.row_joints c.deepest) (c.factor c.predicate c.row_joints c.deepest) (factor_found SpellsTest c.predicate c.row_joints test_found c.deepest) ts x us e
