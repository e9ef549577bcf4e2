-- What is spelled is read.
use Rattle.std.proofs.Common.{◌≡◌, ◌≢◌, ℕ, zero, suc, ◌<◌, Bool, true, false, cond, List, [], ◌∷◌, ◌++◌, length, Some, Ok, refl, ap, sym, ◌∙◌, subst, append_assoc, arith, rules, inl, inr}
use denote.Enum.Bare.{true_same, false_same}
use Rattle.query_tokens.specs.contracts.token.Kind.{the_type}
use Rattle.query_tokens.specs.declared.token.Kind.{Kind}
use Rattle.query_tokens.specs.declared.token.Kind.TheVariants as k
use Rattle.query_tokens.specs.declared.tree.NameAt.{NameAt}
use Rattle.query_tokens.specs.declared.tree.LiteralAt.{LiteralAt}
use Rattle.values.specs.declared.value.Value.TheVariants.{Whole, Text}
use Rattle.values.specs.declared.test.CompareOp.{CompareOp}
use Rattle.query_tokens.specs.declared.tree.Cond.{Cond}
use Rattle.query_tokens.specs.declared.tree.Cond.TheVariants.{Compare, OneOf, Between}
use Rattle.query_tokens.specs.Lex.{is_last, same_kind}
use Rattle.query_tokens.specs.Stream.{Lexeme, Stream, kind, place, number, word, next}
use Rattle.query_parser.specs.Reading.{Parser, and_then, ◌>>=◌, ◌<$>◌, pure, sees, after, expect, name, literal, separated_from, separated}
use Rattle.query_parser.specs.Operators.{operator}
use Rattle.query_parser.specs.Cond as c
use Rattle.query_parser.specs.Spells.{Rule, Skips, SpellsName, SpellsLiteral, SpellsList, MayNegate, SpellsTest, SpellsConjunction, SpellsCond, SpellsFactor, SpellsCondition}
use Rattle.query_parser.specs.Shrinks.{Shrinks, literal_shrinks, test_shrinks, factor_shrinks, conjunction_shrinks}
use Rattle.query_parser.proofs.Turns.{one}
use Rattle.query_parser.proofs.Factors.{factor_test}

-- ---- one token

pub sees_at : (kd : Kind) (t : Lexeme) (us : Stream) → t.kind ≡ kd → sees kd (t ∷ us) ≡ true
unfolding sees same_kind kind
sees_at kd t us h = true_same the_type t.kind kd h

pub next_at : (kd : Kind) (t : Lexeme) (us : Stream) → t.kind ≡ kd → is_last kd ≡ false → next (t ∷ us) ≡ us
unfolding next
next_at kd t us h e = ap (λ q. cond q (t ∷ us) us) (ap is_last h ∙ e)

pub kind_at : (kd : Kind) (t : Lexeme) (us : Stream) → t.kind ≡ kd → kind (t ∷ us) ≡ kd
unfolding kind
kind_at kd t us h = h

expect_at : (kd : Kind) (t : Lexeme) (us : Stream) → t.kind ≡ kd → is_last kd ≡ false → expect kd (t ∷ us) ≡ Ok (tt, us)
unfolding expect
expect_at kd t us h e = rw (sees_at kd t us h, next_at kd t us h e)

pub expect_again : (kd : Kind) (ts us : Stream) → is_last kd ≡ false → Skips kd ts us → expect kd ts ≡ Ok (tt, us)
expect_again kd ts us e s = ap (expect kd) s.1.0 ∙ expect_at kd s.0 us s.1.1 e

pub kind_again : (kd : Kind) (ts us : Stream) → Skips kd ts us → kind ts ≡ kd
kind_again kd ts us s = ap kind s.1.0 ∙ kind_at kd s.0 us s.1.1

pub next_again : (kd : Kind) (ts us : Stream) → is_last kd ≡ false → Skips kd ts us → next ts ≡ us
next_again kd ts us e s = ap next s.1.0 ∙ next_at kd s.0 us s.1.1 e

name_at : (t : Lexeme) (us : Stream) → t.kind ≡ k.Name → name (t ∷ us) ≡ Ok (record { name = t.value; offset = t.at }, us)
unfolding name word place is_last
name_at t us h = rw (sees_at k.Name t us h, next_at k.Name t us h refl)

pub name_again : (ts us : Stream) (n : NameAt) → SpellsName ts n us → name ts ≡ Ok (n, us)
name_again ts us n s = ap name s.1.0 ∙ name_at s.0 us s.1.1 ∙ ap (λ m. Ok (m, us)) (sym s.2)

number_at : (t : Lexeme) (us : Stream) → t.kind ≡ k.Number → literal (t ∷ us) ≡ Ok (record { value = Whole t.number; offset = t.at }, us)
unfolding literal number place is_last
number_at t us h = rw (kind_at k.Number t us h, next_at k.Number t us h refl)

text_at : (t : Lexeme) (us : Stream) → t.kind ≡ k.Text → literal (t ∷ us) ≡ Ok (record { value = Text t.value; offset = t.at }, us)
unfolding literal word place is_last
text_at t us h = rw (kind_at k.Text t us h, next_at k.Text t us h refl)

pub literal_again : (ts : Stream) (v : LiteralAt) (us : Stream) → SpellsLiteral ts v us → literal ts ≡ Ok (v, us)
literal_again ts v us s = elim s.1 [
  | inl n ↦ ap literal n.0.0 ∙ number_at s.0 us n.0.1 ∙ ap (λ m. Ok (m, us)) (sym n.1)
  | inr n ↦ ap literal n.0.0 ∙ text_at s.0 us n.0.1 ∙ ap (λ m. Ok (m, us)) (sym n.1)
]

-- ---- steps

pub then : {A B : Type 0} (p : Parser A) (f : A → Parser B) (ts us : Stream) (a : A) → p ts ≡ Ok (a, us) → (p >>= f) ts ≡ f a us
then p f ts us a e = ap (λ o. and_then o f) e

-- ---- lists

pub not_after : (sep : Kind) (us : Stream) → sees sep us ≡ false → after sep us ≡ us
unfolding after
not_after sep us h = ap (λ q. cond q (next us) us) h

yes_after : (sep : Kind) (t : Lexeme) (us : Stream) → t.kind ≡ sep → is_last sep ≡ false → after sep (t ∷ us) ≡ us
unfolding after
yes_after sep t us h e = rw (sees_at sep t us h, next_at sep t us h e)

module _ {A : Type 0} (sep : Kind) (rule : Rule A) (item : Parser A) (Ends : Stream → Type 0) (more : is_last sep ≡ false)
    (each : (ts : Stream) (x : A) (us : Stream) → rule ts x us → Ends us → item ts ≡ Ok (x, us)) (ends : (t : Lexeme) (us : Stream) → t.kind ≡ sep → Ends (t ∷ us)) (shrinks : Shrinks item) where
  from_again : (xs : List A) (n : ℕ) (found : List A) (ts us : Stream) → SpellsList sep rule ts xs us → Ends us → sees sep us ≡ false → length ts < n → separated_from sep item n found ts ≡ Ok (found ++ xs, us)
  from_again [] n found ts us s h last fits = absurd s
  from_again (x ∷ []) zero found ts us s h last fits = absurd (omega arith)
  from_again (x ∷ []) (suc n) found ts us s h last fits =
      one sep item n found ts us x false (each ts x us s h) last ∙ ap (λ r. Ok (found ++ x ∷ [], r)) (not_after sep us last)
  from_again (x ∷ y ∷ xs) zero found ts us s h last fits = absurd (omega arith)
  from_again (x ∷ y ∷ xs) (suc n) found ts us s h last fits =
      let mid = s.0 in
      let rest = s.1 in
      let t = s.3.0 in
      let is : mid ≡ t ∷ rest = s.3.1.0 in
      let e : item ts ≡ Ok (x, mid) = each ts x mid s.2 (subst Ends (sym is) (ends t rest s.3.1.1)) in
      let seen : sees sep mid ≡ true = ap (sees sep) is ∙ sees_at sep t rest s.3.1.1 in
      let gone : after sep mid ≡ rest = ap (after sep) is ∙ yes_after sep t rest s.3.1.1 more in
      let less = shrinks ts mid x e in
      let len : length mid ≡ suc (length rest) = ap length is in
      let again = from_again (y ∷ xs) n (found ++ x ∷ []) rest us s.4 h last (omega arith) in
      one sep item n found ts mid x true e seen ∙ ap (separated_from sep item n (found ++ x ∷ [])) gone ∙ again ∙ ap (λ all. Ok (all, us)) (append_assoc found (x ∷ []) (y ∷ xs))

  pub list_again : (xs : List A) (ts us : Stream) → SpellsList sep rule ts xs us → Ends us → sees sep us ≡ false → separated sep item ts ≡ Ok (xs, us)
  list_again xs ts us s h last = from_again xs (suc (length ts)) [] ts us s h last (omega arith)

-- ---- tests

literals_again : (ts : Stream) (vs : List LiteralAt) (us : Stream) → SpellsList k.Comma SpellsLiteral ts vs us → sees k.Comma us ≡ false → separated k.Comma literal ts ≡ Ok (vs, us)
unfolding is_last
literals_again ts vs us s last = list_again k.Comma SpellsLiteral literal (λ _. Unit {0}) refl (λ ts x us h _. literal_again ts x us h) (λ _ _ _. tt) literal_shrinks vs ts us s tt last

other_kind : (a b : Kind) (ts us : Stream) → Skips a ts us → a ≢ b → sees b ts ≡ false
unfolding sees same_kind
other_kind a b ts us s ne = false_same the_type (search rules) (kind ts) b (λ h. ne (sym (kind_again a ts us s) ∙ h))

one_of_again : (column : NameAt) (b : Bool) (vs : List LiteralAt) (t0 t1 t2 us : Stream) → Skips k.LParen t0 t1 → SpellsList k.Comma SpellsLiteral t1 vs t2 → Skips k.RParen t2 us
    → c.one_of column b t0 ≡ Ok (OneOf column vs b, us)
unfolding c.one_of is_last
one_of_again column b vs t0 t1 t2 us opens values closes =
    then (expect k.LParen) _ t0 t1 tt (expect_again k.LParen t0 t1 refl opens)
    ∙ then (separated k.Comma literal) _ t1 t2 vs (literals_again t1 vs t2 values (other_kind k.RParen k.Comma t2 us closes (λ h. cc)))
    ∙ then (expect k.RParen) _ t2 us tt (expect_again k.RParen t2 us refl closes)

between_again : (column : NameAt) (b : Bool) (low high : LiteralAt) (t0 t1 t2 us : Stream) → SpellsLiteral t0 low t1 → Skips k.And t1 t2 → SpellsLiteral t2 high us
    → c.between column b t0 ≡ Ok (Between column low high b, us)
unfolding c.between is_last
between_again column b low high t0 t1 t2 us l a h =
    then literal _ t0 t1 low (literal_again t0 low t1 l) ∙ then (expect k.And) _ t1 t2 tt (expect_again k.And t1 t2 refl a) ∙ then literal _ t2 us high (literal_again t2 high us h)

pub op_goes_on : (kd : Kind) (op : CompareOp) → operator kd ≡ Some op → is_last kd ≡ false
unfolding operator is_last
op_goes_on k.Eq op h = refl
op_goes_on k.Ne op h = refl
op_goes_on k.Lt op h = refl
op_goes_on k.Le op h = refl
op_goes_on k.Gt op h = refl
op_goes_on k.Ge op h = refl
op_goes_on _ op h = absurd (cc)

test_compared : (column : NameAt) (kd : Kind) (op : CompareOp) (ts : Stream) → operator kd ≡ Some op → c.test_by column kd ts ≡ c.compared column (Some op) ts
unfolding operator
test_compared column k.In op ts h = absurd (cc)
test_compared column k.Between op ts h = absurd (cc)
test_compared column k.Not op ts h = absurd (cc)
test_compared column kd op ts h = ap (λ o. c.compared column o ts) h

-- a test, from what stands after its name
following_name : (ts mid us : Stream) (column : NameAt) (x : Cond) → SpellsName ts column mid → c.test_by column (kind mid) mid ≡ Ok (x, us) → c.predicate ts ≡ Ok (x, us)
unfolding c.predicate
following_name ts mid us column x s e = then name _ ts mid column (name_again ts mid column s) ∙ e

in_again : (column : NameAt) (b : Bool) (vs : List LiteralAt) (t0 t1 t2 t3 t4 us : Stream) → MayNegate t0 b t1 → Skips k.In t1 t2 → Skips k.LParen t2 t3 → SpellsList k.Comma SpellsLiteral t3 vs t4 → Skips k.RParen t4 us
    → c.test_by column (kind t0) t0 ≡ Ok (OneOf column vs b, us)
unfolding is_last
in_again column false vs t0 t1 t2 t3 t4 us n word opens values closes =
    ap (λ ts. c.test_by column (kind ts) ts) (sym n) ∙ ap (λ kd. c.test_by column kd t1) (kind_again k.In t1 t2 word)
    ∙ ap (c.one_of column false) (next_again k.In t1 t2 refl word) ∙ one_of_again column false vs t2 t3 t4 us opens values closes
in_again column true vs t0 t1 t2 t3 t4 us n word opens values closes =
    ap (λ kd. c.test_by column kd t0) (kind_again k.Not t0 t1 n) ∙ ap (λ ts. c.negated_by column (kind ts) ts) (next_again k.Not t0 t1 refl n)
    ∙ ap (λ kd. c.negated_by column kd t1) (kind_again k.In t1 t2 word) ∙ ap (c.one_of column true) (next_again k.In t1 t2 refl word) ∙ one_of_again column true vs t2 t3 t4 us opens values closes

range_again : (column : NameAt) (b : Bool) (low high : LiteralAt) (t0 t1 t2 t3 t4 us : Stream) → MayNegate t0 b t1 → Skips k.Between t1 t2 → SpellsLiteral t2 low t3 → Skips k.And t3 t4 → SpellsLiteral t4 high us
    → c.test_by column (kind t0) t0 ≡ Ok (Between column low high b, us)
unfolding is_last
range_again column false low high t0 t1 t2 t3 t4 us n word l a h =
    ap (λ ts. c.test_by column (kind ts) ts) (sym n) ∙ ap (λ kd. c.test_by column kd t1) (kind_again k.Between t1 t2 word)
    ∙ ap (c.between column false) (next_again k.Between t1 t2 refl word) ∙ between_again column false low high t2 t3 t4 us l a h
range_again column true low high t0 t1 t2 t3 t4 us n word l a h =
    ap (λ kd. c.test_by column kd t0) (kind_again k.Not t0 t1 n) ∙ ap (λ ts. c.negated_by column (kind ts) ts) (next_again k.Not t0 t1 refl n)
    ∙ ap (λ kd. c.negated_by column kd t1) (kind_again k.Between t1 t2 word) ∙ ap (c.between column true) (next_again k.Between t1 t2 refl word) ∙ between_again column true low high t2 t3 t4 us l a h

compare_step : (column : NameAt) (op : CompareOp) (v : LiteralAt) (t : Lexeme) (rest us : Stream) → operator t.kind ≡ Some op → SpellsLiteral rest v us → c.test_by column (kind (t ∷ rest)) (t ∷ rest) ≡ Ok (Compare column op v, us)
unfolding kind
compare_step column op v t rest us is value =
    test_compared column t.kind op (t ∷ rest) is
    ∙ ap (Compare column op <$> literal) (next_at t.kind t rest refl (op_goes_on t.kind op is))
    ∙ then literal _ rest us v (literal_again rest v us value)

pub test_again : (ts : Stream) (x : Cond) (us : Stream) → SpellsTest ts x us → c.predicate ts ≡ Ok (x, us)
test_again ts x us s = elim s [
  | inl t ↦ following_name ts (t.sign ∷ t.rest) us t.column (Compare t.column t.op t.value) t.spells_column (compare_step t.column t.op t.value t.sign t.rest us t.is_op t.spells_value) ∙ ap (λ y. Ok (y, us)) (sym t.tree)
  | inr r ↦ elim r [
    | inl t ↦ following_name ts t.after_column us t.column (OneOf t.column t.values t.negated) t.spells_column
        (in_again t.column t.negated t.values t.after_column t.at_in t.at_open t.inside t.at_close us t.negation t.word t.opens t.spells_values t.closes) ∙ ap (λ y. Ok (y, us)) (sym t.tree)
    | inr t ↦ following_name ts t.after_column us t.column (Between t.column t.low t.high t.negated) t.spells_column
        (range_again t.column t.negated t.low t.high t.after_column t.at_between t.at_low t.at_and t.at_high us t.negation t.word t.spells_low t.and_word t.spells_high) ∙ ap (λ y. Ok (y, us)) (sym t.tree)
  ]
]

name_kind : (ts us : Stream) (n : NameAt) → SpellsName ts n us → kind ts ≡ k.Name
name_kind ts us n s = kind_again k.Name ts us (s.0, s.1)

test_kind : (ts : Stream) (x : Cond) (us : Stream) → SpellsTest ts x us → kind ts ≡ k.Name
test_kind ts x us s = elim s [
  | inl t ↦ name_kind ts (t.sign ∷ t.rest) t.column t.spells_column
  | inr r ↦ elim r [ inl t ↦ name_kind ts t.after_column t.column t.spells_column | inr t ↦ name_kind ts t.after_column t.column t.spells_column ]
]

-- ---- conditions

module _ {C : Type 0} (j : c.Joints C) (rule : Rule C) (factor : Parser C) (each : (ts : Stream) (x : C) (us : Stream) → rule ts x us → factor ts ≡ Ok (x, us)) (shrinks : Shrinks factor) where
  pub conjunction_again : (ts : Stream) (x : C) (us : Stream) → SpellsConjunction j rule ts x us → sees k.And us ≡ false → c.conjunction j factor ts ≡ Ok (x, us)
  unfolding c.conjunction is_last
  conjunction_again ts x us s last =
      then (separated k.And factor) _ ts us s.0 (list_again k.And rule factor (λ _. Unit {0}) refl (λ ts x us h _. each ts x us h) (λ _ _ _. tt) shrinks s.0 ts us s.1 tt last)
      ∙ ap (λ y. Ok (y, us)) (sym s.2)

  or_ends : (t : Lexeme) (us : Stream) → t.kind ≡ k.Or → sees k.And (t ∷ us) ≡ false
  or_ends t us h = other_kind k.Or k.And (t ∷ us) us (t, (refl, h)) (λ e. cc)

  pub cond_again : (ts : Stream) (x : C) (us : Stream) → SpellsCond j rule ts x us → sees k.And us ≡ false → sees k.Or us ≡ false → c.cond j factor ts ≡ Ok (x, us)
  unfolding c.cond is_last
  cond_again ts x us s no_and no_or =
      then (separated k.Or (c.conjunction j factor)) _ ts us s.0 (list_again k.Or (SpellsConjunction j rule) (c.conjunction j factor) (λ us. sees k.And us ≡ false) refl conjunction_again or_ends (conjunction_shrinks j factor shrinks) s.0 ts us s.1 no_and no_or)
      ∙ ap (λ y. Ok (y, us)) (sym s.2)

-- any sort of test that is read as its rule says, and begins with a name
module _ {C : Type 0} (rule : Rule C) (leaf : Parser C) (j : c.Joints C) (each : (ts : Stream) (x : C) (us : Stream) → rule ts x us → leaf ts ≡ Ok (x, us))
    (begins : (ts : Stream) (x : C) (us : Stream) → rule ts x us → kind ts ≡ k.Name) (takes : Shrinks leaf) where
  negation_again : (d : ℕ) (ts rest us : Stream) (x : C) → Skips k.Not ts rest → c.factor leaf j d rest ≡ Ok (x, us) → c.factor leaf j (suc d) ts ≡ Ok (j.not_of x, us)
  unfolding c.factor is_last
  negation_again d ts rest us x s e =
      ap (λ kd. c.factor_by leaf j (c.negation leaf j (c.factor leaf j d)) (c.in_parentheses leaf j (c.factor leaf j d)) kd ts) (kind_again k.Not ts rest s)
      ∙ ap (j.not_of <$> c.factor leaf j d) (next_again k.Not ts rest refl s) ∙ then (c.factor leaf j d) _ rest us x e

  group_again : (d : ℕ) (ts inside close us : Stream) (x : C) → Skips k.LParen ts inside → c.cond j (c.factor leaf j d) inside ≡ Ok (x, close) → Skips k.RParen close us → c.factor leaf j (suc d) ts ≡ Ok (x, us)
  unfolding c.factor is_last
  group_again d ts inside close us x s e closes =
      ap (λ kd. c.factor_by leaf j (c.negation leaf j (c.factor leaf j d)) (c.in_parentheses leaf j (c.factor leaf j d)) kd ts) (kind_again k.LParen ts inside s)
      ∙ ap (c.cond j (c.factor leaf j d) >>= (λ inner. expect k.RParen >>= (λ _. pure inner))) (next_again k.LParen ts inside refl s)
      ∙ then (c.cond j (c.factor leaf j d)) _ inside close x e
      ∙ then (expect k.RParen) _ close us tt (expect_again k.RParen close us refl closes)

  pub factor_again : (d : ℕ) (ts : Stream) (x : C) (us : Stream) → SpellsFactor rule j d ts x us → c.factor leaf j d ts ≡ Ok (x, us)
  unfolding SpellsFactor
  factor_again zero ts x us s = factor_test leaf j zero ts (begins ts x us s) ∙ each ts x us s
  factor_again (suc d) ts x us s = elim s [
    | inl t ↦ factor_test leaf j (suc d) ts (begins ts x us t) ∙ each ts x us t
    | inr r ↦ elim r [
      | inl n ↦ negation_again d ts n.0 us n.1 n.2 (factor_again d n.0 n.1 us n.3) ∙ ap (λ y. Ok (y, us)) (sym n.4)
      | inr g ↦ group_again d ts g.0 g.1 us x g.2
          (cond_again j (SpellsFactor rule j d) (c.factor leaf j d) (factor_again d) (factor_shrinks leaf j takes d) g.0 x g.1 g.3 (other_kind k.RParen k.And g.1 us g.4 (λ e. cc)) (other_kind k.RParen k.Or g.1 us g.4 (λ e. cc))) g.4
    ]
  ]

pub condition_again : (ts : Stream) (x : Cond) (us : Stream) → SpellsCondition ts x us → sees k.And us ≡ false → sees k.Or us ≡ false → c.condition ts ≡ Ok (x, us)
unfolding c.condition
condition_again ts x us s a o =
    cond_again c.row_joints (SpellsFactor SpellsTest c.row_joints c.deepest) (c.factor c.predicate c.row_joints c.deepest)
    (factor_again SpellsTest c.predicate c.row_joints test_again test_kind test_shrinks c.deepest) (factor_shrinks c.predicate c.row_joints test_shrinks c.deepest) ts x us s a o
