-- Each symbol reads lists of tokens that agree at their front alike.
use Rattle.std.proofs.Common.{◌≡◌, ℕ, zero, suc, ◌+◌, ◌<◌, ◌≤◌, ◌⊎◌, inl, inr, Bool, true, false, ◌&&◌, cond, List, [], ◌∷◌, length, drop, Option, Some, None, Result, Ok, Err, refl, sym, ap, ◌∙◌, subst, arith}
use Rattle.std.proofs.lemmas.Bool.{false≢true}
use Rattle.query_tokens.specs.declared.token.Kind.{Kind}
use Rattle.query_tokens.specs.declared.token.Kind.TheVariants as k
use Rattle.query_tokens.specs.declared.fault.Reason.TheVariants as reason
use Rattle.query_tokens.specs.declared.fault.QueryFault.{QueryFault}
use Rattle.query_tokens.specs.declared.fault.QueryFault.TheVariants.{At}
use Rattle.values.specs.declared.test.CompareOp.{CompareOp}
use Rattle.values.specs.declared.value.Value.TheVariants.{Whole}
use Rattle.query_tokens.specs.declared.tree.NameAt.{NameAt}
use Rattle.query_tokens.specs.declared.tree.LiteralAt.{LiteralAt}
use Rattle.query_tokens.specs.declared.tree.Func.{Func}
use Rattle.query_tokens.specs.declared.tree.Argument.TheVariants as argument
use Rattle.query_tokens.specs.declared.tree.Term.TheVariants as term
use Rattle.query_tokens.specs.declared.tree.Term.{Term}
use Rattle.query_tokens.specs.declared.tree.Cond.TheVariants.{Compare}
use Rattle.query_tokens.specs.declared.tree.HavingCond.TheVariants as having
use Rattle.query_tokens.specs.Lex.{Bytes, is_last}
use Rattle.query_tokens.specs.Stream.{Stream, kind, place, number, word, next}
use Rattle.query_parser.specs.Reading.{Outcome, Parser, and_then, ◌>>=◌, ◌>>◌, ◌<$>◌, pure, refuse, peek, take_token, sees, eat, expect, name, literal, separated}
use Rattle.query_parser.specs.Operators.{operator}
use Rattle.query_parser.specs.Cond as c
use Rattle.query_parser.specs.Query as q
use Rattle.query_parser.specs.Shrinks.{Shrinks, sees_kind, name_goes_on, name_shrinks, literal_shrinks, test_shrinks, conjunction_shrinks, factor_shrinks}
use Rattle.query_parser.specs.TermShrinks.{having_test_shrinks}
use Rattle.query_parser.proofs.Takes.{item_shrinks, key_shrinks, option_shrinks}
use Rattle.query_parser.proofs.Seen.{Agree, Past, Alike, chosen_alike, chosen_past, token_from, From, Behind, Local, following, looks, bind_local, pure_local, look_local, stop_local, refuse_local, too_deep_local, choose_local, take_local, peek_local, token_local, sees_same, expect_local, eat_local, name_local, literal_local, separated_local}

module _ (A B : Stream) (n : ℕ) (agree : Agree A B n) where
  abbrev L : {X : Type 0} → Parser X → Type 0
  L p = Local A B n agree p

  abbrev bind : {X Y : Type 0} (p : Parser X) (f : X → Parser Y) → L p → ((x : X) → L (f x)) → L (p >>= f)
  bind p f own each = bind_local A B n agree p f own each

  abbrev done : {X : Type 0} (x : X) → L (pure x)
  done x = pure_local A B n agree x

  abbrev skip : (kd : Kind) → L (expect kd)
  skip kd = expect_local A B n agree kd

  abbrev refused : {X : Type 0} → L (refuse {A = X})
  refused = refuse_local A B n agree

  abbrev took : L take_token
  took = token_local A B n agree

  abbrev peeked : L peek
  peeked = peek_local A B n agree

  abbrev literals : L literal
  literals = literal_local A B n agree

  -- ---- conditions

  one_of_local : (column : NameAt) (b : Bool) → L (c.one_of column b)
  unfolding c.one_of
  one_of_local column b = bind (expect k.LParen) _ (skip k.LParen) (λ _. bind (separated k.Comma literal) _ (separated_local A B n agree k.Comma literal literal_shrinks literals)
      (λ vs. bind (expect k.RParen) _ (skip k.RParen) (λ _. done _)))

  between_local : (column : NameAt) (b : Bool) → L (c.between column b)
  unfolding c.between
  between_local column b = bind literal _ literals (λ low. bind (expect k.And) _ (skip k.And) (λ _. bind literal _ literals (λ high. done _)))

  negated_local : (column : NameAt) (kd : Kind) → L (c.negated_by column kd)
  negated_local column k.In = bind take_token _ took (λ _. one_of_local column true)
  negated_local column k.Between = bind take_token _ took (λ _. between_local column true)
  negated_local column _ = refused

  compared_local : (column : NameAt) (op : Option CompareOp) → L (c.compared column op)
  compared_local column (Some op) = bind take_token _ took (λ _. bind literal _ literals (λ v. done (Compare column op v)))
  compared_local column None = refused

  test_by_local : (column : NameAt) (kd : Kind) → L (c.test_by column kd)
  test_by_local column k.In = bind take_token _ took (λ _. one_of_local column false)
  test_by_local column k.Between = bind take_token _ took (λ _. between_local column false)
  test_by_local column k.Not = bind take_token _ took (λ _. bind peek _ peeked (λ kd. negated_local column kd))
  test_by_local column kd = compared_local column (operator kd)

  test_local : L c.predicate
  unfolding c.predicate
  test_local = bind name _ (name_local A B n agree) (λ column. bind peek _ peeked (λ kd. test_by_local column kd))

  conjunction_local : {C : Type 0} (j : c.Joints C) (factor : Parser C) → Shrinks factor → L factor → L (c.conjunction j factor)
  unfolding c.conjunction
  conjunction_local j factor less own = bind (separated k.And factor) _ (separated_local A B n agree k.And factor less own) (λ cs. done _)

  cond_local : {C : Type 0} (j : c.Joints C) (factor : Parser C) → Shrinks factor → L factor → L (c.cond j factor)
  unfolding c.cond
  cond_local j factor less own = bind (separated k.Or (c.conjunction j factor)) _ (separated_local A B n agree k.Or (c.conjunction j factor) (conjunction_shrinks j factor less) (conjunction_local j factor less own)) (λ cs. done _)

  -- any sort of test that is read alike and takes a token
  module _ {C : Type 0} (leaf : Parser C) (j : c.Joints C) (takes : Shrinks leaf) (read : L leaf) where
    factor_by_local : (negated grouped : Parser C) (kd : Kind) → L negated → L grouped → L (c.factor_by leaf j negated grouped kd)
    factor_by_local negated grouped k.Not own other = own
    factor_by_local negated grouped k.LParen own other = other
    factor_by_local negated grouped k.Name own other = read
    factor_by_local negated grouped _ own other = refused

    factor_local : (depth : ℕ) → L (c.factor leaf j depth)
    unfolding c.factor
    factor_local zero = bind peek _ peeked (λ kd. factor_by_local _ _ kd (too_deep_local A B n agree) (too_deep_local A B n agree))
    factor_local (suc depth) =
        let inner = c.factor leaf j depth in
        bind peek _ peeked (λ kd. factor_by_local _ _ kd
        (bind take_token _ took (λ _. bind inner _ (factor_local depth) (λ x. done (j.not_of x))))
        (bind take_token _ took (λ _. bind (c.cond j inner) _ (cond_local j inner (factor_shrinks leaf j takes depth) (factor_local depth))
        (λ x. bind (expect k.RParen) _ (skip k.RParen) (λ _. done x)))))

    whole_local : L (c.cond j (c.factor leaf j c.deepest))
    whole_local = cond_local j (c.factor leaf j c.deepest) (factor_shrinks leaf j takes c.deepest) (factor_local c.deepest)

  condition_local : L c.condition
  unfolding c.condition
  condition_local = whole_local c.predicate c.row_joints test_shrinks test_local

  -- ---- terms

  bad_star_local : {X : Type 0} → L (q.bad_star {A = X})
  bad_star_local = stop_local A B n agree (λ ts. reason.BadStar) (λ ts us e. refl)

  star_local : (b : Bool) → L (cond b (take_token >> pure argument.Star) q.bad_star)
  star_local true = bind take_token _ took (λ _. done argument.Star)
  star_local false = bad_star_local

  argument_by_local : (f : Func) (kd : Kind) → L (q.argument_by f kd)
  argument_by_local f k.Star = star_local (q.is_count f)
  argument_by_local f k.Name = bind name _ (name_local A B n agree) (λ x. done _)
  argument_by_local f _ = refused

  argument_local : (f : Func) → L (q.argument_of f)
  unfolding q.argument_of
  argument_local f = bind peek _ peeked (λ kd. argument_by_local f kd)

  some_call_local : (at : ℕ) (f : Func) → L (q.call_of at (Some f))
  some_call_local at f = bind take_token _ took (λ _. bind (q.argument_of f) _ (argument_local f) (λ a. bind (expect k.RParen) _ (skip k.RParen) (λ _. done (term.Call (record { func = f; argument = a; offset = at })))))

  -- after a name at a place
  called : (i : ℕ) (x : NameAt) (f : Option Func) → i < length A → suc i < length A → x.offset ≡ place (drop i A) → Behind A B n agree i (q.call_of x.offset f)
  called i x (Some f) inside more at = following A B n agree i (q.call_of x.offset (Some f)) ((some_call_local x.offset f).from (suc i) more)
  called i x None inside more at = record {
    shared = λ lt. inr (inl (record { fault = At reason.UnknownFunction x.offset; one = refl; other = refl }));
    past = λ le. inr (i, inside, at, omega (arith, le));
  }

  called_past : (i : ℕ) (x : NameAt) (f : Option Func) → i < length A → suc i < length A → x.offset ≡ place (drop i A) → n ≤ suc i → Past A B n agree (q.call_of x.offset f (drop (suc i) A))
  called_past i x (Some f) inside more at le = ((some_call_local x.offset f).from (suc i) more).past le
  called_past i x None inside more at le = inr (i, inside, at, omega (arith, le))

  following_name_at : (i : ℕ) (x : NameAt) → i < length A → suc i < length A → x.offset ≡ place (drop i A) → Behind A B n agree i (q.following_name x)
  following_name_at i x inside more at =
      let call = q.call_of x.offset (q.func_of x.name) in
      let own = done (term.Column x) in
      let us = drop (suc i) A in
      let vs = drop (suc i) B in
      let there : n ≤ suc i → Past A B n agree (q.following_name x us) = λ le. chosen_past A B n agree (sees k.LParen us) (call us) (pure (term.Column x) us) (called_past i x (q.func_of x.name) inside more at le) ((own.from (suc i) more).past le) in
      record {
        shared = λ lt. (looks A B n agree (suc i) (q.following_name x)
            (λ next. chosen_alike A B n agree (sees k.LParen us) (sees k.LParen vs) (call us) (pure (term.Column x) us) (call vs) (pure (term.Column x) vs)
            (sees_same A B n agree k.LParen us vs (agree.same (suc i) next)) ((called i x (q.func_of x.name) inside more at).shared lt) ((own.from (suc i) more).shared (omega (arith, lt))))
            there).shared (omega (arith, lt));
        past = λ le. there (omega (arith, le));
      }

  name_goes : (ts : Stream) → sees k.Name ts ≡ true → is_last (kind ts) ≡ false
  name_goes ts e = ap is_last (sees_kind k.Name ts e) ∙ name_goes_on

  term_local : L q.term_of
  unfolding q.term_of name word place
  term_local = record {
    from = λ i inside. token_from A B n agree (sees k.Name) (λ ts. record { name = word ts; offset = place ts }) q.following_name name_goes (sees_same A B n agree k.Name)
        (λ ts us e. ap (λ t. record { name = t.value; offset = t.at }) e) i inside (λ more. following_name_at i (record { name = word (drop i A); offset = place (drop i A) }) inside more refl);
  }

  -- ---- conditions on a group

  having_compared_local : (t : Term) (op : Option CompareOp) → L (q.having_compared t op)
  having_compared_local t (Some op) = bind take_token _ took (λ _. bind literal _ literals (λ v. done (having.Compare t op v)))
  having_compared_local t None = refused

  having_test_local : L q.having_test
  unfolding q.having_test
  having_test_local = bind q.term_of _ term_local (λ t. bind peek _ peeked (λ kd. having_compared_local t (operator kd)))

  having_local : L q.having
  unfolding q.having
  having_local = whole_local q.having_test q.group_joints having_test_shrinks having_test_local

  -- ---- items and keys

  optional_by : {X : Type 0} (b : Bool) (p : Parser X) → L p → L (cond b (Some <$> p) (pure None))
  optional_by true p own = bind p _ own (λ x. done (Some x))
  optional_by false p own = done None

  optional_local : {X : Type 0} (kd : Kind) (p : Parser X) → L p → L (q.optional kd p)
  optional_local kd p own = bind (eat kd) _ (eat_local A B n agree kd) (λ b. optional_by b p own)

  listed_by : {X : Type 0} (b : Bool) (p : Parser (List X)) → L p → L (cond b p (pure []))
  listed_by true p own = own
  listed_by false p own = done []

  listed_local : {X : Type 0} (kd : Kind) (p : Parser (List X)) → L p → L (q.listed kd p)
  listed_local kd p own = bind (eat kd) _ (eat_local A B n agree kd) (λ b. listed_by b p own)

  label_local : L q.label
  unfolding q.label
  label_local = optional_local k.As name (name_local A B n agree)

  item_local : L q.item
  unfolding q.item
  item_local = bind q.term_of _ term_local (λ t. bind q.label _ label_local (λ l. done (record { term = t; label = l })))

  direction_by_local : (kd : Kind) → L (q.direction_by kd)
  direction_by_local k.Asc = bind take_token _ took (λ _. done false)
  direction_by_local k.Desc = bind take_token _ took (λ _. done true)
  direction_by_local _ = done false

  direction_local : L q.direction
  unfolding q.direction
  direction_local = bind peek _ peeked direction_by_local

  key_local : L q.key
  unfolding q.key
  key_local = bind q.term_of _ term_local (λ t. bind q.direction _ direction_local (λ d. done (record { term = t; descending = d })))

  -- ---- options

  value_goes_by : (kd : Kind) → q.is_value kd ≡ true → is_last kd ≡ false
  unfolding is_last
  value_goes_by k.Name e = refl
  value_goes_by k.Number e = refl
  value_goes_by k.Text e = refl
  value_goes_by _ e = absurd (false≢true e)

  set_goes : (ts : Stream) → sees k.Set ts ≡ true → is_last (kind ts) ≡ false
  unfolding is_last
  set_goes ts e = ap is_last (sees_kind k.Set ts e)

  eq_goes : (ts : Stream) → sees k.Eq ts ≡ true → is_last (kind ts) ≡ false
  unfolding is_last
  eq_goes ts e = ap is_last (sees_kind k.Eq ts e)

  -- an option is taken, or refused at its name
  abbrev IsSet : ℕ → Result Bool QueryFault → Type 0
  IsSet at r = ((b : Bool) × (r ≡ Ok b)) ⊎ (r ≡ Err (At reason.UnsupportedOption at))

  set_by : (at : ℕ) (s t own kept : Bool) → IsSet at (cond s (Err (At reason.UnsupportedOption at)) (cond t (Ok own) (Ok kept)))
  set_by at true t own kept = inr refl
  set_by at false true own kept = inl (own, refl)
  set_by at false false own kept = inl (kept, refl)

  is_set : (x : NameAt) (value : Bytes) (b : Bool) → IsSet x.offset (q.set_option x value b)
  unfolding q.set_option
  is_set x value b = set_by x.offset _ _ _ _

  after_local : (b : Bool) → L (expect k.Semi >> pure b)
  after_local b = bind (expect k.Semi) _ (skip k.Semi) (λ _. done b)

  -- after the value of an option whose name has a place
  checked_at : (i : ℕ) (x : NameAt) (r : Result Bool QueryFault) → i < length A → suc (suc (suc i)) < length A → x.offset ≡ place (drop i A) → IsSet x.offset r
      → Behind A B n agree (suc (suc i)) (q.checked r >>= (λ after. expect k.Semi >> pure after))
  checked_at i x r inside more at (inl s) = subst (λ o. Behind A B n agree (suc (suc i)) (q.checked o >>= (λ after. expect k.Semi >> pure after))) (sym s.1)
      (following A B n agree (suc (suc i)) (pure s.0 >>= (λ after. expect k.Semi >> pure after)) ((bind (pure s.0) (λ after. expect k.Semi >> pure after) (done s.0) after_local).from (suc (suc (suc i))) more))
  checked_at i x r inside more at (inr s) = subst (λ o. Behind A B n agree (suc (suc i)) (q.checked o >>= (λ after. expect k.Semi >> pure after))) (sym s)
      (record {
        shared = λ lt. inr (inl (record { fault = At reason.UnsupportedOption x.offset; one = refl; other = refl }));
        past = λ le. inr (i, inside, at, omega (arith, le));
      })

  -- the rest of an option, from its value, from the sign, from its name
  abbrev valued : Bool → NameAt → Bytes → Parser Bool
  valued b x value = q.checked (q.set_option x value b) >>= (λ after. expect k.Semi >> pure after)

  abbrev signed : Bool → NameAt → Parser Bool
  signed b x = q.option_value >>= valued b x

  abbrev named : Bool → NameAt → Parser Bool
  named b x = expect k.Eq >> signed b x

  value_from : (b : Bool) (i : ℕ) (x : NameAt) → i < length A → suc (suc i) < length A → x.offset ≡ place (drop i A) → From A B n agree (suc (suc i)) (signed b x)
  unfolding q.option_value word kind
  value_from b i x inside more at = token_from A B n agree (λ ts. q.is_value (kind ts)) word (valued b x) (λ ts e. value_goes_by (kind ts) e) (λ ts us e. ap (λ t. q.is_value t.kind) e) (λ ts us e. ap (λ t. t.value) e)
      (suc (suc i)) more (λ then. checked_at i x (q.set_option x (word (drop (suc (suc i)) A)) b) inside then at (is_set x (word (drop (suc (suc i)) A)) b))

  sign_from : (b : Bool) (i : ℕ) (x : NameAt) → i < length A → suc i < length A → x.offset ≡ place (drop i A) → From A B n agree (suc i) (named b x)
  unfolding expect
  sign_from b i x inside more at = token_from A B n agree (sees k.Eq) (λ ts. tt) (λ _. signed b x) eq_goes (sees_same A B n agree k.Eq) (λ ts us e. refl)
      (suc i) more (λ then. following A B n agree (suc i) (signed b x) (value_from b i x inside then at))

  name_from : (b : Bool) (i : ℕ) → i < length A → From A B n agree i (name >>= named b)
  unfolding name word place
  name_from b i inside = token_from A B n agree (sees k.Name) (λ ts. record { name = word ts; offset = place ts }) (named b) name_goes (sees_same A B n agree k.Name)
      (λ ts us e. ap (λ t. record { name = t.value; offset = t.at }) e) i inside
      (λ more. following A B n agree i (named b (record { name = word (drop i A); offset = place (drop i A) })) (sign_from b i (record { name = word (drop i A); offset = place (drop i A) }) inside more refl))

  option_local : (b : Bool) → L (q.option b)
  unfolding q.option expect
  option_local b = record {
    from = λ j inside. token_from A B n agree (sees k.Set) (λ ts. tt) (λ _. name >>= named b) set_goes (sees_same A B n agree k.Set) (λ ts us e. refl)
        j inside (λ more. following A B n agree j (name >>= named b) (name_from b (suc j) more));
  }

  options_from_local : (f : ℕ) (b : Bool) → L (q.options_from f b)
  unfolding q.options_from
  options_from_local zero b = refused
  options_from_local (suc f) b = choose_local A B n agree (sees k.Set) (q.option b >>= q.options_from f) (pure b) (sees_same A B n agree k.Set)
      (bind (q.option b) (q.options_from f) (option_local b) (λ after. options_from_local f after)) (done b)

  set_turn : (f g : ℕ) (b : Bool) (ts : Stream) (o : Outcome Bool) → q.option b ts ≡ o → ((p : Bool × Stream) → o ≡ Ok p → q.options_from f p.0 p.1 ≡ q.options_from g p.0 p.1) → and_then o (q.options_from f) ≡ and_then o (q.options_from g)
  set_turn f g b ts (Ok p) e rest = rest p refl
  set_turn f g b ts (Err e) is rest = refl

  chosen_same : {X : Type 0} (b : Bool) (o p u : Outcome X) → o ≡ p → cond b o u ≡ cond b p u
  chosen_same true o p u e = e
  chosen_same false o p u e = refl

  enough_options : (f g : ℕ) (b : Bool) (ts : Stream) → length ts < f → length ts < g → q.options_from f b ts ≡ q.options_from g b ts
  unfolding q.options_from
  enough_options zero g b ts lt mt = absurd (omega (arith, lt))
  enough_options (suc f) zero b ts lt mt = absurd (omega (arith, mt))
  enough_options (suc f) (suc g) b ts lt mt = chosen_same (sees k.Set ts) (and_then (q.option b ts) (q.options_from f)) (and_then (q.option b ts) (q.options_from g)) (Ok (b, ts))
      (set_turn f g b ts (q.option b ts) refl (λ p e.
      let shorter = option_shrinks b ts p.1 p.0 e in
      enough_options f g p.0 p.1 (omega (arith, lt, shorter)) (omega (arith, mt, shorter))))

  options_local : L q.options
  options_local = record {
    from = λ j inside.
        let all = suc (length (drop j A) + length (drop j B)) in
        let turns = (options_from_local all true).from j inside in
        let left = enough_options all (suc (length (drop j A))) true (drop j A) (omega arith) (omega arith) in
        let right = enough_options all (suc (length (drop j B))) true (drop j B) (omega arith) (omega arith) in
        record {
          shared = λ le. subst (λ o. Alike A B n agree o (q.options (drop j B))) left (subst (λ u. Alike A B n agree (q.options_from all true (drop j A)) u) right (turns.shared le));
          past = λ le. subst (Past A B n agree) left (turns.past le);
        };
  }

  -- ---- the query

  count_local : L q.count
  unfolding q.count number place sees kind
  count_local = choose_local A B n agree (λ ts. sees k.Number ts && q.is_natural (number ts)) (λ ts. Ok (record { value = Whole (number ts); offset = place ts }, next ts)) refuse
      (λ ts us e. ap (λ t. sees k.Number (t ∷ []) && q.is_natural t.number) e)
      (take_local A B n agree (λ ts. record { value = Whole (number ts); offset = place ts }) (λ ts us e. ap (λ t. record { value = Whole t.number; offset = t.at }) e)) refused

  groups_local : L q.groups
  unfolding q.groups
  groups_local = listed_local k.Group (expect k.By >> separated k.Comma name) (bind (expect k.By) _ (skip k.By) (λ _. separated_local A B n agree k.Comma name name_shrinks (name_local A B n agree)))

  having_if_local : (gs : List NameAt) → L (q.having_if gs)
  unfolding q.having_if
  having_if_local [] = done None
  having_if_local (g ∷ gs) = optional_local k.Having q.having having_local

  order_local : L q.order
  unfolding q.order
  order_local = listed_local k.Order (expect k.By >> separated k.Comma q.key) (bind (expect k.By) _ (skip k.By) (λ _. separated_local A B n agree k.Comma q.key key_shrinks key_local))

  condition_if_local : L q.condition_if
  unfolding q.condition_if
  condition_if_local = optional_local k.Where c.condition condition_local

  limits_by : (b : Bool) → L {X = Option LiteralAt × Option LiteralAt} (cond b (q.count >>= (λ l. q.optional k.Offset q.count >>= (λ o. pure (Some l, o)))) (pure (None, None)))
  limits_by true = bind q.count _ count_local (λ l. bind (q.optional k.Offset q.count) _ (optional_local k.Offset q.count count_local) (λ o. done (Some l, o)))
  limits_by false = done (None, None)

  limits_local : L q.limits
  unfolding q.limits
  limits_local = bind (eat k.Limit) _ (eat_local A B n agree k.Limit) limits_by

  ending_local : L q.ending
  unfolding q.ending
  ending_local = bind (eat k.Semi) _ (eat_local A B n agree k.Semi) (λ _. skip k.End)

  closing_local : L q.closing
  unfolding q.closing
  closing_local = bind q.limits _ limits_local (λ limit. bind q.ending _ ending_local (λ _. done limit))

  here_local : L q.here
  unfolding place
  here_local = look_local A B n agree place (λ ts us e. ap (λ t. t.at) e)

  pub query_local : L q.query
  unfolding q.query
  query_local =
      bind q.options _ options_local (λ use_tree. bind q.here _ here_local (λ select. bind (expect k.Select) _ (skip k.Select)
      (λ _. bind (separated k.Comma q.item) _ (separated_local A B n agree k.Comma q.item item_shrinks item_local) (λ items. bind (expect k.From) _ (skip k.From)
      (λ _. bind name _ (name_local A B n agree) (λ table. bind q.condition_if _ condition_if_local (λ cond. bind q.groups _ groups_local (λ group. bind (q.having_if group) _ (having_if_local group)
      (λ having. bind q.order _ order_local
      (λ keys. bind q.closing _ closing_local (λ limit. done (record { use_tree = use_tree; select = select; items = items; table = table; condition = cond; groups = group; having = having; order = keys; limit = limit.0; offset = limit.1 }))))))))))))
