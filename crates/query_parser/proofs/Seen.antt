-- Two lists of tokens that agree at their front are read alike, as far as they agree.
use Rattle.std.proofs.Common.{◌≡◌, ℕ, zero, suc, ◌+◌, ◌<◌, ◌≤◌, ◌⊎◌, inl, inr, nat_lt, Bool, true, false, cond, List, [], ◌∷◌, ◌++◌, length, drop, Ok, Err, refl, sym, ap, ◌∙◌, subst, arith}
use Rattle.std.proofs.lemmas.Bool.{false≢true, ltb-true, ltb-false}
use Rattle.query_tokens.specs.declared.token.Kind.{Kind}
use Rattle.query_tokens.specs.declared.token.Kind.TheVariants as k
use Rattle.query_tokens.specs.declared.fault.Reason.{Reason}
use Rattle.query_tokens.specs.declared.fault.Reason.TheVariants as reason
use Rattle.query_tokens.specs.declared.fault.QueryFault.{QueryFault}
use Rattle.query_tokens.specs.declared.fault.QueryFault.TheVariants.{At, NoMemory}
use Rattle.values.specs.declared.value.Value.TheVariants.{Whole, Text}
use Rattle.query_tokens.specs.Lex.{is_last, same_kind}
use Rattle.query_tokens.specs.Stream.{Stream, first, kind, place, number, word, next}
use Rattle.query_parser.specs.Reading.{Outcome, Parser, and_then, ◌>>=◌, pure, reason_of, refusal, refuse, too_deep, peek, take_token, sees, after, eat, expect, name, literal_by, literal, separated_from, separated}
use Rattle.query_parser.specs.Shrinks.{Shrinks, ok, end_is_last, after_keeps}
use Rattle.query_parser.specs.Final.{wanted}
use Rattle.query_parser.proofs.Turns.{one, none}

-- ---- one step

pub stays : (ts : Stream) → is_last (kind ts) ≡ true → next ts ≡ ts
unfolding next kind
stays [] h = refl
stays (t ∷ ts) h = ap (λ b. cond b (t ∷ ts) ts) h

pub moves : (ts : Stream) → is_last (kind ts) ≡ false → next ts ≡ drop 1 ts
unfolding next kind
moves [] h = absurd (false≢true (sym h ∙ end_is_last))
moves (t ∷ ts) h = ap (λ b. cond b (t ∷ ts) ts) h

pub drop_one : (j : ℕ) (ts : Stream) → drop 1 (drop j ts) ≡ drop (suc j) ts
drop_one zero ts = refl
drop_one (suc j) [] = refl
drop_one (suc j) (t ∷ ts) = drop_one j ts

-- The first n tokens of the two agree, and after a token of the one that is not the last stands another.
pub record Agree (A B : Stream) (n : ℕ) : Type 0 where
  pub same : (j : ℕ) → j < n → first (drop j A) ≡ first (drop j B)
  pub ends : (j : ℕ) → j < length A → is_last (kind (drop j A)) ≡ false → suc j < length A

module _ (A B : Stream) (n : ℕ) (agree : Agree A B n) where
  -- a fault that wants a token after those that agree
  abbrev pub PastFault : QueryFault → Type 0
  PastFault NoMemory = Unit {0}
  PastFault (At r p) = (r ≡ reason.TooDeep) ⊎ ((j : ℕ) × (j < length A) × (p ≡ place (drop j A)) × (n ≤ j + wanted r))

  -- the reading is after them, or looked at a token there
  abbrev pub Past : {X : Type 0} → Outcome X → Type 0
  Past (Ok p) = (j : ℕ) × (j < length A) × (p.1 ≡ drop j A) × (n ≤ j)
  Past (Err e) = PastFault e

  pub record Went {X : Type 0} (o u : Outcome X) : Type 0 where
    pub value : X
    pub to : ℕ
    pub shared : to ≤ n
    pub inside : to < length A
    pub one : o ≡ Ok (value, drop to A)
    pub other : u ≡ Ok (value, drop to B)

  pub record Failed {X : Type 0} (o u : Outcome X) : Type 0 where
    pub fault : QueryFault
    pub one : o ≡ Err fault
    pub other : u ≡ Err fault

  -- the two read the same, the two fail alike, or the first one is past
  abbrev pub Alike : {X : Type 0} → Outcome X → Outcome X → Type 0
  Alike o u = Went o u ⊎ (Failed o u ⊎ Past o)

  -- from a place on
  pub record From {X : Type 0} (j : ℕ) (p : Parser X) : Type 0 where
    pub shared : j ≤ n → Alike (p (drop j A)) (p (drop j B))
    pub past : n ≤ j → Past (p (drop j A))

  -- from after a token on
  pub record Behind {X : Type 0} (j : ℕ) (p : Parser X) : Type 0 where
    pub shared : j < n → Alike (p (drop (suc j) A)) (p (drop (suc j) B))
    pub past : n ≤ j → Past (p (drop (suc j) A))

  pub record Local {X : Type 0} (p : Parser X) : Type 0 where
    pub from : (j : ℕ) → j < length A → From j p

  pub following : {X : Type 0} (j : ℕ) (p : Parser X) → From (suc j) p → Behind j p
  following j p f = record { shared = λ lt. f.shared (omega (arith, lt)); past = λ le. f.past (omega (arith, le)) }

  -- what looks at the first token
  at_end : {X : Type 0} (j : ℕ) (p : Parser X) → (j < n → Alike (p (drop j A)) (p (drop j B))) → (n ≤ j → Past (p (drop j A))) → (j < n) ⊎ (n ≤ j) → Alike (p (drop j A)) (p (drop j B))
  at_end j p here there (inl lt) = here lt
  at_end j p here there (inr le) = inr (inr (there le))

  split_by : (j : ℕ) (b : Bool) → nat_lt j n ≡ b → (j < n) ⊎ (n ≤ j)
  split_by j true e = inl (ltb-true j n e)
  split_by j false e = inr (ltb-false j n e)

  pub split : (j : ℕ) → (j < n) ⊎ (n ≤ j)
  split j = split_by j (nat_lt j n) refl

  pub looks : {X : Type 0} (j : ℕ) (p : Parser X) → (j < n → Alike (p (drop j A)) (p (drop j B))) → (n ≤ j → Past (p (drop j A))) → From j p
  looks j p here there = record { shared = λ le. at_end j p here there (split j); past = there }

  -- ---- combinators

  bind_past : {X Y : Type 0} (o : Outcome X) (f : X → Parser Y) → ((x : X) → Local (f x)) → Past o → Past (and_then o f)
  bind_past (Ok p) f each h = subst (λ us. Past (f p.0 us)) (sym h.2) (((each p.0).from h.0 h.1).past h.3)
  bind_past (Err e) f each h = h

  bind_alike : {X Y : Type 0} (o u : Outcome X) (f : X → Parser Y) → ((x : X) → Local (f x)) → Alike o u → Alike (and_then o f) (and_then u f)
  bind_alike o u f each (inl w) =
      let then = ((each w.value).from w.to w.inside).shared w.shared in
      subst (λ a. Alike (and_then a f) (and_then u f)) (sym w.one) (subst (λ b. Alike (f w.value (drop w.to A)) (and_then b f)) (sym w.other) then)
  bind_alike o u f each (inr (inl e)) = inr (inl (record { fault = e.fault; one = ap (λ a. and_then a f) e.one; other = ap (λ a. and_then a f) e.other }))
  bind_alike o u f each (inr (inr h)) = inr (inr (bind_past o f each h))

  pub bind_local : {X Y : Type 0} (p : Parser X) (f : X → Parser Y) → Local p → ((x : X) → Local (f x)) → Local (p >>= f)
  bind_local p f own each = record {
    from = λ j inside. record {
      shared = λ le. bind_alike (p (drop j A)) (p (drop j B)) f each ((own.from j inside).shared le);
      past = λ le. bind_past (p (drop j A)) f each ((own.from j inside).past le);
    };
  }

  pub pure_local : {X : Type 0} (x : X) → Local (pure x)
  pure_local x = record {
    from = λ j inside. record {
      shared = λ le. inl (record { value = x; to = j; shared = le; inside = inside; one = refl; other = refl });
      past = λ le. (j, inside, refl, le);
    };
  }

  -- a value of the first token, which stays
  pub look_local : {X : Type 0} (g : Stream → X) → ((ts us : Stream) → first ts ≡ first us → g ts ≡ g us) → Local (λ ts. Ok (g ts, ts))
  look_local g same = record {
    from = λ j inside. looks j (λ ts. Ok (g ts, ts))
        (λ lt. inl (record { value = g (drop j A); to = j; shared = omega (arith, lt); inside = inside; one = refl; other = ap (λ x. Ok (x, drop j B)) (same (drop j B) (drop j A) (sym (agree.same j lt))) }))
        (λ le. (j, inside, refl, le));
  }

  -- a fault at the first token
  pub stop_local : {X : Type 0} (g : Stream → Reason) → ((ts us : Stream) → first ts ≡ first us → g ts ≡ g us) → Local {X = X} (λ ts. Err (At (g ts) (place ts)))
  unfolding place
  stop_local g same = record {
    from = λ j inside. looks j (λ ts. Err (At (g ts) (place ts)))
        (λ lt. inr (inl (record {
          fault = At (g (drop j A)) (place (drop j A));
          one = refl;
          other = ap (λ r. Err (At r (place (drop j B)))) (same (drop j B) (drop j A) (sym (agree.same j lt))) ∙ ap (λ t. Err (At (g (drop j A)) t.at)) (sym (agree.same j lt));
        })))
        (λ le. inr (j, inside, refl, omega (arith, le)));
  }

  pub refuse_local : {X : Type 0} → Local {X = X} refuse
  unfolding refusal kind
  refuse_local = stop_local (λ ts. reason_of (kind ts)) (λ ts us e. ap (λ t. reason_of t.kind) e)

  pub too_deep_local : {X : Type 0} → Local {X = X} too_deep
  too_deep_local = record { from = λ j inside. record { shared = λ le. inr (inr (inl refl)); past = λ le. inl refl } }

  -- by a test of the first token
  pub chosen_alike : {X : Type 0} (b c : Bool) (p r q s : Outcome X) → b ≡ c → Alike p q → Alike r s → Alike (cond b p r) (cond c q s)
  chosen_alike true true p r q s e own other = own
  chosen_alike true false p r q s e own other = absurd (false≢true (sym e))
  chosen_alike false true p r q s e own other = absurd (false≢true e)
  chosen_alike false false p r q s e own other = other

  pub chosen_past : {X : Type 0} (b : Bool) (p r : Outcome X) → Past p → Past r → Past (cond b p r)
  chosen_past true p r own other = own
  chosen_past false p r own other = other

  pub choose_local : {X : Type 0} (test : Stream → Bool) (p r : Parser X) → ((ts us : Stream) → first ts ≡ first us → test ts ≡ test us) → Local p → Local r → Local (λ ts. cond (test ts) (p ts) (r ts))
  choose_local test p r same own other = record {
    from = λ j inside. looks j (λ ts. cond (test ts) (p ts) (r ts))
        (λ lt. let le : j ≤ n = omega (arith, lt) in chosen_alike (test (drop j A)) (test (drop j B)) (p (drop j A)) (r (drop j A)) (p (drop j B)) (r (drop j B)) (same (drop j A) (drop j B) (agree.same j lt))
        ((own.from j inside).shared le) ((other.from j inside).shared le))
        (λ le. chosen_past (test (drop j A)) (p (drop j A)) (r (drop j A)) ((own.from j inside).past le) ((other.from j inside).past le));
  }

  pub same_local : {X : Type 0} (p r : Parser X) → ((ts : Stream) → r ts ≡ p ts) → Local p → Local r
  same_local p r same own = record {
    from = λ j inside. record {
      shared = λ le. subst (λ o. Alike o (r (drop j B))) (sym (same (drop j A))) (subst (λ u. Alike (p (drop j A)) u) (sym (same (drop j B))) ((own.from j inside).shared le));
      past = λ le. subst Past (sym (same (drop j A))) ((own.from j inside).past le);
    };
  }

  -- ---- a token is taken

  kinds : (j : ℕ) → j < n → kind (drop j A) ≡ kind (drop j B)
  unfolding kind
  kinds j lt = ap (λ t. t.kind) (agree.same j lt)

  took_by : {X : Type 0} (x y : X) (j : ℕ) (b : Bool) → is_last (kind (drop j A)) ≡ b → x ≡ y → j < length A → j < n → Alike (Ok (x, next (drop j A))) (Ok (y, next (drop j B)))
  took_by x y j true last same inside lt =
      let own = stays (drop j A) last in
      let other = stays (drop j B) (ap is_last (sym (kinds j lt)) ∙ last) in
      inl (record { value = x; to = j; shared = omega (arith, lt); inside = inside; one = ap (λ us. Ok (x, us)) own; other = ap (λ us. Ok (y, us)) other ∙ ap (λ z. Ok (z, drop j B)) (sym same) })
  took_by x y j false last same inside lt =
      let own = moves (drop j A) last ∙ drop_one j A in
      let other = moves (drop j B) (ap is_last (sym (kinds j lt)) ∙ last) ∙ drop_one j B in
      inl (record { value = x; to = suc j; shared = omega (arith, lt); inside = agree.ends j inside last; one = ap (λ us. Ok (x, us)) own; other = ap (λ us. Ok (y, us)) other ∙ ap (λ z. Ok (z, drop (suc j) B)) (sym same) })

  past_by : {X : Type 0} (x : X) (j : ℕ) (b : Bool) → is_last (kind (drop j A)) ≡ b → j < length A → n ≤ j → Past (Ok (x, next (drop j A)))
  past_by x j true last inside le = (j, inside, stays (drop j A) last, le)
  past_by x j false last inside le = (suc j, agree.ends j inside last, moves (drop j A) last ∙ drop_one j A, omega (arith, le))

  pub take_local : {X : Type 0} (g : Stream → X) → ((ts us : Stream) → first ts ≡ first us → g ts ≡ g us) → Local (λ ts. Ok (g ts, next ts))
  take_local g same = record {
    from = λ j inside. looks j (λ ts. Ok (g ts, next ts))
        (λ lt. took_by (g (drop j A)) (g (drop j B)) j (is_last (kind (drop j A))) refl (same (drop j A) (drop j B) (agree.same j lt)) inside lt)
        (λ le. past_by (g (drop j A)) j (is_last (kind (drop j A))) refl inside le);
  }

  alike_along : {X : Type 0} (o p u r : Outcome X) → o ≡ p → u ≡ r → Alike p r → Alike o u
  alike_along o p u r e f own = subst (λ a. Alike a u) (sym e) (subst (λ b. Alike p b) (sym f) own)

  -- A token of some kind, and what is read after it, which may name its place.
  module _ {X Y : Type 0} (test : Stream → Bool) (g : Stream → X) (f : X → Parser Y)
      (goes : (ts : Stream) → test ts ≡ true → is_last (kind ts) ≡ false)
      (tests : (ts us : Stream) → first ts ≡ first us → test ts ≡ test us)
      (values : (ts us : Stream) → first ts ≡ first us → g ts ≡ g us) where
    abbrev whole : Parser Y
    whole = λ ts. and_then (cond (test ts) (Ok (g ts, next ts)) (refuse ts)) f

    whole_yes : (ts us : Stream) → test ts ≡ true → next ts ≡ us → whole ts ≡ f (g ts) us
    whole_yes ts us e step = ap (λ b. and_then (cond b (Ok (g ts, next ts)) (refuse ts)) f) e ∙ ap (λ vs. f (g ts) vs) step

    whole_no : (ts : Stream) → test ts ≡ false → whole ts ≡ refuse ts
    whole_no ts e = ap (λ b. and_then (cond b (Ok (g ts, next ts)) (refuse ts)) f) e

    module _ (i : ℕ) (inside : i < length A) (each : suc i < length A → Behind i (f (g (drop i A)))) where
      abbrev one_step : (C : Stream) → test (drop i C) ≡ true → next (drop i C) ≡ drop (suc i) C
      one_step C e = moves (drop i C) (goes (drop i C) e) ∙ drop_one i C

      here_by : (b : Bool) → test (drop i A) ≡ b → i < n → Alike (whole (drop i A)) (whole (drop i B))
      here_by true e lt =
          let other : test (drop i B) ≡ true = sym (tests (drop i A) (drop i B) (agree.same i lt)) ∙ e in
          let then = (each (agree.ends i inside (goes (drop i A) e))).shared lt in
          alike_along (whole (drop i A)) (f (g (drop i A)) (drop (suc i) A)) (whole (drop i B)) (f (g (drop i A)) (drop (suc i) B))
          (whole_yes (drop i A) (drop (suc i) A) e (one_step A e))
          (whole_yes (drop i B) (drop (suc i) B) other (one_step B other) ∙ ap (λ x. f x (drop (suc i) B)) (sym (values (drop i A) (drop i B) (agree.same i lt)))) then
      here_by false e lt =
          let other : test (drop i B) ≡ false = sym (tests (drop i A) (drop i B) (agree.same i lt)) ∙ e in
          let le : i ≤ n = omega (arith, lt) in
          alike_along (whole (drop i A)) (refuse (drop i A)) (whole (drop i B)) (refuse (drop i B)) (whole_no (drop i A) e) (whole_no (drop i B) other) ((refuse_local.from i inside).shared le)

      there_by : (b : Bool) → test (drop i A) ≡ b → n ≤ i → Past (whole (drop i A))
      there_by true e le = subst Past (sym (whole_yes (drop i A) (drop (suc i) A) e (one_step A e))) ((each (agree.ends i inside (goes (drop i A) e))).past le)
      there_by false e le = subst Past (sym (whole_no (drop i A) e)) (((refuse_local {X = Y}).from i inside).past le)

      pub token_from : From i whole
      token_from = looks i whole (λ lt. here_by (test (drop i A)) refl lt) (λ le. there_by (test (drop i A)) refl le)

  pub peek_local : Local peek
  unfolding kind
  peek_local = look_local kind (λ ts us e. ap (λ t. t.kind) e)

  pub token_local : Local take_token
  token_local = take_local (λ ts. tt) (λ ts us e. refl)

  pub sees_same : (kd : Kind) (ts us : Stream) → first ts ≡ first us → sees kd ts ≡ sees kd us
  unfolding sees kind
  sees_same kd ts us e = ap (λ t. same_kind t.kind kd) e

  pub expect_local : (kd : Kind) → Local (expect kd)
  unfolding expect
  expect_local kd = choose_local (sees kd) take_token refuse (sees_same kd) token_local refuse_local

  eat_by : (b : Bool) (ts : Stream) → ok b (cond b (next ts) ts) ≡ cond b (ok true (next ts)) (ok false ts)
  eat_by true ts = refl
  eat_by false ts = refl

  pub eat_local : (kd : Kind) → Local (eat kd)
  unfolding after
  eat_local kd = same_local (λ ts. cond (sees kd ts) (Ok (true, next ts)) (Ok (false, ts))) (eat kd) (λ ts. eat_by (sees kd ts) ts)
      (choose_local (sees kd) (λ ts. Ok (true, next ts)) (pure false) (sees_same kd) (take_local (λ ts. true) (λ ts us e. refl)) (pure_local false))

  pub name_local : Local name
  unfolding name word place
  name_local = choose_local (sees k.Name) (λ ts. Ok (record { name = word ts; offset = place ts }, next ts)) refuse (sees_same k.Name)
      (take_local (λ ts. record { name = word ts; offset = place ts }) (λ ts us e. ap (λ t. record { name = t.value; offset = t.at }) e)) refuse_local

  literal_by_local : (kd : Kind) → Local (literal_by kd)
  unfolding number word place
  literal_by_local k.Number = take_local (λ ts. record { value = Whole (number ts); offset = place ts }) (λ ts us e. ap (λ t. record { value = Whole t.number; offset = t.at }) e)
  literal_by_local k.Text = take_local (λ ts. record { value = Text (word ts); offset = place ts }) (λ ts us e. ap (λ t. record { value = Text t.value; offset = t.at }) e)
  literal_by_local _ = refuse_local

  pub literal_local : Local literal
  unfolding literal
  literal_local = bind_local peek literal_by peek_local literal_by_local

  -- ---- repetition

  more_local : {X : Type 0} (b : Bool) (p : Parser X) (x : X) → Local p → Local (cond b p (pure x))
  more_local true p x own = own
  more_local false p x own = pure_local x

  turns_local : {X : Type 0} (sep : Kind) (item : Parser X) (f : ℕ) (found : List X) → Local item → Local (separated_from sep item f found)
  unfolding separated_from
  turns_local sep item zero found own = refuse_local
  turns_local sep item (suc f) found own = bind_local item _ own (λ x. bind_local (eat sep) _ (eat_local sep) (λ more. more_local more (separated_from sep item f (found ++ x ∷ [])) (found ++ x ∷ []) (turns_local sep item f (found ++ x ∷ []) own)))

  -- turns that are not wanted change nothing
  sep_by : {X : Type 0} (sep : Kind) (item : Parser X) (f g : ℕ) (found : List X) (ts us : Stream) (x : X) (b : Bool) → item ts ≡ Ok (x, us) → sees sep us ≡ b
      → separated_from sep item f (found ++ x ∷ []) (after sep us) ≡ separated_from sep item g (found ++ x ∷ []) (after sep us)
      → separated_from sep item (suc f) found ts ≡ separated_from sep item (suc g) found ts
  sep_by sep item f g found ts us x true e s rest = one sep item f found ts us x true e s ∙ rest ∙ sym (one sep item g found ts us x true e s)
  sep_by sep item f g found ts us x false e s rest = one sep item f found ts us x false e s ∙ sym (one sep item g found ts us x false e s)

  item_by : {X : Type 0} (sep : Kind) (item : Parser X) (f g : ℕ) (found : List X) (ts : Stream) (o : Outcome X) → item ts ≡ o
      → ((us : Stream) (x : X) → item ts ≡ Ok (x, us) → separated_from sep item f (found ++ x ∷ []) (after sep us) ≡ separated_from sep item g (found ++ x ∷ []) (after sep us))
      → separated_from sep item (suc f) found ts ≡ separated_from sep item (suc g) found ts
  item_by sep item f g found ts (Ok p) e rest = sep_by sep item f g found ts p.1 p.0 (sees sep p.1) e refl (rest p.1 p.0 e)
  item_by sep item f g found ts (Err e) is rest = none sep item f found ts e is ∙ sym (none sep item g found ts e is)

  enough : {X : Type 0} (sep : Kind) (item : Parser X) → Shrinks item → (f g : ℕ) (found : List X) (ts : Stream) → length ts < f → length ts < g → separated_from sep item f found ts ≡ separated_from sep item g found ts
  enough sep item less zero g found ts lt mt = absurd (omega (arith, lt))
  enough sep item less (suc f) zero found ts lt mt = absurd (omega (arith, mt))
  enough sep item less (suc f) (suc g) found ts lt mt = item_by sep item f g found ts (item ts) refl (λ us x e.
      let shorter = less ts us x e in
      let kept = after_keeps sep us in
      enough sep item less f g (found ++ x ∷ []) (after sep us) (omega (arith, lt, shorter, kept)) (omega (arith, mt, shorter, kept)))

  pub separated_local : {X : Type 0} (sep : Kind) (item : Parser X) → Shrinks item → Local item → Local (separated sep item)
  separated_local sep item less own = record {
    from = λ j inside.
        let all = suc (length (drop j A) + length (drop j B)) in
        let turns = (turns_local sep item all [] own).from j inside in
        let left = enough sep item less all (suc (length (drop j A))) [] (drop j A) (omega arith) (omega arith) in
        let right = enough sep item less all (suc (length (drop j B))) [] (drop j B) (omega arith) (omega arith) in
        record {
          shared = λ le. subst (λ o. Alike o (separated sep item (drop j B))) left (subst (λ u. Alike (separated_from sep item all [] (drop j A)) u) right (turns.shared le));
          past = λ le. subst Past left (turns.past le);
        };
  }
