-- The rows for which the documents at a path stand.
use Rattle.std.proofs.Common.{◌≡◌, ◌≢◌, ℕ, zero, suc, ◌≤◌, ◌<◌, Bool, true, false, cond, ◌&&◌}
use Rattle.std.proofs.Common.{◌||◌, ◌==◌, ◌⊎◌, inl, inr, List, [], ◌∷◌, ◌++◌, length, get_or, refl}
use Rattle.std.proofs.Common.{sym, ap, subst, ◌∙◌, arith}
use Rattle.std.specs.List.{list_any}
use Rattle.std.specs.declared.cmp.Ordering.TheVariants.{Less, Equal, Greater}
use Rattle.std.specs.FinMap.Entries.{by_order}
use Rattle.std.proofs.lemmas.Bool.{eq-eqb, eqb-true, ne_eqb}
use Rattle.agg_laws.specs.Merged.{rekey, add}
use Rattle.agg_laws.specs.Tree.{star, dims_order, dim, merged_docs, agrees, starred, rows_at}
use Rattle.agg_laws.specs.Tree.{CoversRows, HaveNoStar}
use Rattle.state_columns.specs.Docs.{HaveIds}
use Rattle.state_columns.specs.Documents.{star_from, aggregated}
use Rattle.state_columns.proofs.ListLemmas.{same_dims}
use Rattle.star_tree.proofs.TreeLemmas.{agrees_star}
use Rattle.star_tree.proofs.NodeLemmas.{dim-after}

-- these ids are those of one of the entries
abbrev pub Among : {S : Type 0} → List ℕ → List (List ℕ × S) → Type 0
Among q [] = ⊥
Among q (e ∷ es) = (e.0 ≡ q) ⊎ Among q es

pub among_at : {S : Type 0} (es : List (List ℕ × S)) (i : ℕ) (d : List ℕ × S) → i < length es
    → Among (get_or es i d).0 es
among_at [] i d lt = absurd (omega arith)
among_at (e ∷ es) zero d lt = inl refl
among_at (e ∷ es) (suc i) d lt = inr (among_at es i d (omega arith))

length_among : {S : Type 0} (k : ℕ) (q : List ℕ) (es : List (List ℕ × S)) → HaveIds k es
    → Among q es → length q ≡ k
length_among k q [] ids h = absurd h
length_among k q (e ∷ es) ids h =
    elim h [ inl is ↦ ap length (sym is) ∙ ids.0 | inr more ↦ length_among k q es ids.1 more ]

no_star_among : {S : Type 0} (k : ℕ) (q : List ℕ) (es : List (List ℕ × S)) → HaveNoStar k es
    → Among q es → (d : ℕ) → d < k → dim d q ≢ star
no_star_among k q [] no_star h = absurd h
no_star_among k q (e ∷ es) no_star h =
    elim h [
      | inl is ↦ λ d lt at. no_star.0 d lt (ap (dim d) is ∙ at)
      | inr more ↦ no_star_among k q es no_star.1 more
    ]

-- a test finds an entry
pub any_of : {S : Type 0} (p : List ℕ → Bool) (es : List (List ℕ × S)) (q : List ℕ) → Among q es
    → p q ≡ true → list_any (λ e. p e.0) es ≡ true
any_of p [] q h on = absurd h
any_of p (e ∷ es) q h on =
    elim h [
      | inl is ↦ ap (λ b. b || list_any (λ e. p e.0) es) (ap p is ∙ on)
      | inr more ↦ by_first (p e.0) (any_of p es q more on)
    ]
  where
    by_first : (b : Bool) {c : Bool} → c ≡ true → (b || c) ≡ true
    by_first true h = refl
    by_first false h = h

of_any : {S : Type 0} (p : List ℕ → Bool) (es : List (List ℕ × S))
    → list_any (λ e. p e.0) es ≡ true → (q : List ℕ) × Among q es × (p q ≡ true)
of_any p [] h = cc
of_any p (e ∷ es) h =
    elim (p e.0) as
    (λ b. p e.0 ≡ b → (b || list_any (λ e. p e.0) es) ≡ true
    → (q : List ℕ) × Among q (e ∷ es) × (p q ≡ true)) [
      | true ↦ λ on _. (e.0, inl refl, on)
      | false ↦ λ _ g. let more = of_any p es g in (more.0, inr more.1, more.2)
    ] refl h

-- the entries of merged lists, under new keys and at a path
module _ {S : Type 0} (join : S → S → S) where
  add_from : (q k : List ℕ) (s : S) (es : List (List ℕ × S)) → Among q (add dims_order join k s es)
      → (k ≡ q) ⊎ Among q es
  add_from q k s [] h = h
  add_from q k s (e ∷ es) h =
      elim (dims_order k e.0) as
      (λ r. Among q (by_order r ((k, s) ∷ e ∷ es) ((e.0, join s e.1) ∷ es)
      (e ∷ add dims_order join k s es)) → (k ≡ q) ⊎ ((e.0 ≡ q) ⊎ Among q es)) [
        | Less ↦ λ g. g
        | Equal ↦ λ g. inr g
        | Greater ↦ λ g. elim g [
          | inl is ↦ inr (inl is)
          | inr more ↦ elim (add_from q k s es more) [ inl is ↦ inl is | inr own ↦ inr (inr own) ]
        ]
      ] h

  add_own : (k : List ℕ) (s : S) (es : List (List ℕ × S)) → Among k (add dims_order join k s es)
  add_own k s [] = inl refl
  add_own k s (e ∷ es) =
      elim (dims_order k e.0) as
      (λ r. dims_order k e.0 ≡ r → Among k (by_order r ((k, s) ∷ e ∷ es) ((e.0, join s e.1) ∷ es)
      (e ∷ add dims_order join k s es))) [
        | Less ↦ λ _. inl refl
        | Equal ↦ λ t. inl (sym (same_dims k e.0 t))
        | Greater ↦ λ _. inr (add_own k s es)
      ] refl

  add_keeps : (q k : List ℕ) (s : S) (es : List (List ℕ × S)) → Among q es
      → Among q (add dims_order join k s es)
  add_keeps q k s [] h = absurd h
  add_keeps q k s (e ∷ es) h =
      elim (dims_order k e.0) as
      (λ r. Among q (by_order r ((k, s) ∷ e ∷ es) ((e.0, join s e.1) ∷ es)
      (e ∷ add dims_order join k s es))) [
        | Less ↦ inr h
        | Equal ↦ h
        | Greater ↦ elim h [ inl is ↦ inl is | inr more ↦ inr (add_keeps q k s es more) ]
      ]

  merged_from : (q : List ℕ) (es : List (List ℕ × S)) → Among q (merged_docs join es) → Among q es
  merged_from q [] h = h
  merged_from q (e ∷ es) h =
      elim (add_from q e.0 e.1 (merged_docs join es) h)
      [ inl is ↦ inl is | inr more ↦ inr (merged_from q es more) ]

  merged_keeps : (q : List ℕ) (es : List (List ℕ × S)) → Among q es → Among q (merged_docs join es)
  merged_keeps q [] h = h
  merged_keeps q (e ∷ es) h =
      elim h [
        | inl is ↦ subst (λ k. Among k (add dims_order join e.0 e.1 (merged_docs join es))) is
            (add_own e.0 e.1 (merged_docs join es))
        | inr more ↦ add_keeps q e.0 e.1 (merged_docs join es) (merged_keeps q es more)
      ]

rekey_from : {S : Type 0} (f : List ℕ → List ℕ) (q : List ℕ) (es : List (List ℕ × S))
    → Among q (rekey f es) → (y : List ℕ) × Among y es × (f y ≡ q)
rekey_from f q [] h = absurd h
rekey_from f q (e ∷ es) h =
    elim h [
      | inl is ↦ (e.0, inl refl, is)
      | inr g ↦ let more = rekey_from f q es g in (more.0, inr more.1, more.2)
    ]

rekey_keeps : {S : Type 0} (f : List ℕ → List ℕ) (y : List ℕ) (es : List (List ℕ × S))
    → Among y es → Among (f y) (rekey f es)
rekey_keeps f y [] h = h
rekey_keeps f y (e ∷ es) h =
    elim h [ inl is ↦ inl (ap f is) | inr more ↦ inr (rekey_keeps f y es more) ]

at_from : {S : Type 0} (path q : List ℕ) (es : List (List ℕ × S)) → Among q (rows_at path es)
    → Among q es × (agrees path q ≡ true)
at_from path q [] h = absurd h
at_from path q (e ∷ es) h =
    elim (agrees path e.0) as
    (λ b. agrees path e.0 ≡ b → Among q (cond b (e ∷ rows_at path es) (rows_at path es))
    → Among q (e ∷ es) × (agrees path q ≡ true)) [
      | true ↦ λ on g. elim g [
        | inl is ↦ (inl is, ap (agrees path) (sym is) ∙ on)
        | inr m ↦ let more = at_from path q es m in (inr more.0, more.1)
      ]
      | false ↦ λ _ g. let more = at_from path q es g in (inr more.0, more.1)
    ] refl h

at_keeps : {S : Type 0} (path q : List ℕ) (es : List (List ℕ × S)) → Among q es
    → agrees path q ≡ true → Among q (rows_at path es)
at_keeps path q [] h on = h
at_keeps path q (e ∷ es) h on =
    elim (agrees path e.0) as
    (λ b. agrees path e.0 ≡ b → Among q (cond b (e ∷ rows_at path es) (rows_at path es))) [
      | true ↦ λ _. elim h [ inl is ↦ inl is | inr more ↦ inr (at_keeps path q es more on) ]
      | false ↦ λ off. elim h [
        | inl is ↦ absurd (let no : false ≡ true = sym off ∙ ap (agrees path) is ∙ on in cc)
        | inr more ↦ at_keeps path q es more on
      ]
    ] refl

-- ids that are those of a row, or star where the path has star
abbrev pub Like : List ℕ → List ℕ → List ℕ → Type 0
Like [] y q = Unit {0}
Like (p ∷ ps) [] q = q ≡ []
Like (p ∷ ps) (y ∷ ys) [] = ⊥
Like (p ∷ ps) (y ∷ ys) (c ∷ cs) = (c ≡ cond (p == star) star y) × Like ps ys cs

like_starred : (path y : List ℕ) → Like path y (starred path y)
like_starred [] y = tt
like_starred (p ∷ ps) [] = refl
like_starred (p ∷ ps) (y ∷ ys) = (refl, like_starred ps ys)

like_star_from : (path y : List ℕ) → Like path y (star_from (length path) (starred path y))
like_star_from [] y = tt
like_star_from (p ∷ ps) [] = refl
like_star_from (p ∷ ps) (y ∷ ys) = (refl, like_star_from ps ys)

like_less : (path : List ℕ) (v : ℕ) (y q : List ℕ) → Like (path ++ (v ∷ [])) y q → Like path y q
like_less [] v y q h = tt
like_less (p ∷ ps) v [] q h = h
like_less (p ∷ ps) v (y ∷ ys) [] h = h
like_less (p ∷ ps) v (y ∷ ys) (c ∷ cs) h = (h.0, like_less ps v ys cs h.1)

not_star : (p : ℕ) → p ≢ star → (p == star) ≡ false
not_star p h = ne_eqb p star h

like_dim : (path y q : List ℕ) (i : ℕ) → Like path y q → dim i path ≢ star → dim i q ≡ dim i y
like_dim [] y q i h own = absurd (own refl)
like_dim (p ∷ ps) [] q i h own = ap (dim i) h
like_dim (p ∷ ps) (y ∷ ys) [] i h own = absurd h
like_dim (p ∷ ps) (y ∷ ys) (c ∷ cs) zero h own =
    h.0 ∙ ap (λ b. cond b star y) (not_star p own)
like_dim (p ∷ ps) (y ∷ ys) (c ∷ cs) (suc i) h own = like_dim ps ys cs i h.1 own

-- a row stands for itself, starred or not
and_intro : (a b : Bool) → a ≡ true → b ≡ true → (a && b) ≡ true
and_intro a b h g = (λ i. h i && g i)

or_second : (a b : Bool) → b ≡ true → (a || b) ≡ true
or_second true b h = refl
or_second false b h = h

own_id : (p x : ℕ) → ((cond (p == star) star x == star) || (x == cond (p == star) star x)) ≡ true
own_id p x = by_star (p == star)
  where
    by_star : (b : Bool) → ((cond b star x == star) || (x == cond b star x)) ≡ true
    by_star true = refl
    by_star false = or_second (x == star) (x == x) (eq-eqb x x refl)

agrees_self : (x : List ℕ) → agrees x x ≡ true
agrees_self [] = refl
agrees_self (x ∷ xs) = and_intro ((x == star) || (x == x)) (agrees xs xs)
    (or_second (x == star) (x == x) (eq-eqb x x refl)) (agrees_self xs)

starred_own : (path x : List ℕ) → agrees (starred path x) x ≡ true
starred_own [] x = agrees_self x
starred_own (p ∷ ps) [] = refl
starred_own (p ∷ ps) (x ∷ xs) =
    let c = cond (p == star) star x in
    and_intro ((c == star) || (x == c)) (agrees (starred ps xs) xs) (own_id p x)
    (starred_own ps xs)

first : (a b : Bool) → (a && b) ≡ true → a ≡ true
first true b h = refl
first false b h = cc

second : (a b : Bool) → (a && b) ≡ true → b ≡ true
second true b h = h
second false b h = cc

star_more : (d : ℕ) (y x : List ℕ) → agrees y x ≡ true → agrees (star_from d y) x ≡ true
star_more d [] x h = refl
star_more zero (y ∷ ys) [] h = star_more zero ys [] (second (y == star) (agrees ys []) h)
star_more zero (y ∷ ys) (x ∷ xs) h =
    star_more zero ys xs (second ((y == star) || (x == y)) (agrees ys xs) h)
star_more (suc d) (y ∷ ys) [] h =
    and_intro (y == star) (agrees (star_from d ys) []) (first (y == star) (agrees ys []) h)
    (star_more d ys [] (second (y == star) (agrees ys []) h))
star_more (suc d) (y ∷ ys) (x ∷ xs) h =
    and_intro ((y == star) || (x == y)) (agrees (star_from d ys) xs)
    (first ((y == star) || (x == y)) (agrees ys xs) h)
    (star_more d ys xs (second ((y == star) || (x == y)) (agrees ys xs) h))

-- a row for which ids like those of a row of the path stand is a row of the path
back_id : (p y c x : ℕ) → c ≡ cond (p == star) star y → ((p == star) || (y == p)) ≡ true
    → ((c == star) || (x == c)) ≡ true → ((p == star) || (x == p)) ≡ true
back_id p y c x is on h =
    elim (p == star) as
    (λ b. (p == star) ≡ b → c ≡ cond b star y → (b || (y == p)) ≡ true
    → (b || (x == p)) ≡ true) [
      | true ↦ λ _ _ _. refl
      | false ↦ λ e same at. let c_p : c ≡ p = same ∙ eqb-true y p at in
          ap (λ b. b || (x == p)) (sym e)
          ∙ subst (λ n. ((n == star) || (x == n)) ≡ true) c_p h
    ] refl is on

like_back : (path y q x : List ℕ) → Like path y q → length x ≡ length y → agrees path y ≡ true
    → agrees q x ≡ true → agrees path x ≡ true
like_back [] y q x h e on g = refl
like_back (p ∷ ps) [] q [] h e on g = on
like_back (p ∷ ps) [] q (x ∷ xs) h e on g = absurd (omega (arith, e))
like_back (p ∷ ps) (y ∷ ys) [] x h e on g = absurd h
like_back (p ∷ ps) (y ∷ ys) (c ∷ cs) [] h e on g = absurd (omega (arith, e))
like_back (p ∷ ps) (y ∷ ys) (c ∷ cs) (x ∷ xs) h e on g =
    and_intro ((p == star) || (x == p)) (agrees ps xs)
    (back_id p y c x h.0 (first ((p == star) || (y == p)) (agrees ps ys) on)
    (first ((c == star) || (x == c)) (agrees cs xs) g))
    (like_back ps ys cs xs h.1 (omega (arith, e))
    (second ((p == star) || (y == p)) (agrees ps ys) on)
    (second ((c == star) || (x == c)) (agrees cs xs) g))

-- where a row agrees with ids, it has those that are no star
pub same_dim : (q x : List ℕ) (d : ℕ) → agrees q x ≡ true → dim d q ≢ star → dim d q ≡ dim d x
same_dim [] x d h own = absurd (own refl)
same_dim (c ∷ cs) [] zero h own = absurd (own (eqb-true c star (first (c == star) (agrees cs []) h)))
same_dim (c ∷ cs) [] (suc d) h own = same_dim cs [] d (second (c == star) (agrees cs []) h) own
same_dim (c ∷ cs) (x ∷ xs) zero h own =
    sym (eqb-true x c (ap (λ b. b || (x == c)) (sym (not_star c own))
    ∙ first ((c == star) || (x == c)) (agrees cs xs) h))
same_dim (c ∷ cs) (x ∷ xs) (suc d) h own =
    same_dim cs xs d (second ((c == star) || (x == c)) (agrees cs xs) h) own

-- ids that stand for a row of a path, and that have its ids where the path has some
pub record IsOfRow {S : Type 0} (path : List ℕ) (rows : List (List ℕ × S)) (q : List ℕ)
    : Type 0 where
  pub row : List ℕ
  pub among : Among row rows
  pub on : agrees path row ≡ true
  pub like : Like path row q
  pub own : agrees q row ≡ true

-- documents that stand for just the rows of a path
pub record Stand {S : Type 0} (path : List ℕ) (rows docs : List (List ℕ × S)) : Type 0 where
  pub of_row : (q : List ℕ) → Among q docs → IsOfRow path rows q
  pub each : (x : List ℕ) → Among x rows → agrees path x ≡ true
      → (q : List ℕ) × Among q docs × (agrees q x ≡ true)

module _ {S : Type 0} (join : S → S → S) (rows : List (List ℕ × S)) where
  -- so do all documents of a node
  pub docs_stand : (path : List ℕ) (docs : List (List ℕ × S)) → CoversRows join rows path docs
      → Stand path rows docs
  docs_stand path docs covers =
      let all = rekey (starred path) (rows_at path rows) in
      record {
        of_row = λ q h.
            let of = rekey_from (starred path) q (rows_at path rows)
            (merged_from join q all (subst (Among q) covers.docs_are h)) in
            let at = at_from path of.0 rows of.1 in
            record {
              row = of.0;
              among = at.0;
              on = at.1;
              like = subst (Like path of.0) of.2 (like_starred path of.0);
              own = ap (λ p. agrees p of.0) (sym of.2) ∙ starred_own path of.0;
            };
        each = λ x h on. (
          starred path x,
          subst (Among (starred path x)) (sym covers.docs_are)
              (merged_keeps join (starred path x) all
              (rekey_keeps (starred path) x (rows_at path rows) (at_keeps path x rows h on))),
          starred_own path x,
        );
      }

  -- and the aggregated document
  pub aggregated_stand : (d : ℕ) (path : List ℕ) (docs : List (List ℕ × S)) → d ≡ length path
      → CoversRows join rows path docs → Stand path rows (aggregated join d docs)
  aggregated_stand d path docs at covers =
      let all = rekey (starred path) (rows_at path rows) in
      let more = rekey (star_from d) docs in
      record {
        of_row = λ q h.
            let f = rekey_from (star_from d) q docs (merged_from join q more h) in
            let of = rekey_from (starred path) f.0 (rows_at path rows)
            (merged_from join f.0 all (subst (Among f.0) covers.docs_are f.1)) in
            let from = at_from path of.0 rows of.1 in
            let is : star_from d (starred path of.0) ≡ q = ap (star_from d) of.2 ∙ f.2 in
            record {
              row = of.0;
              among = from.0;
              on = from.1;
              like = subst (Like path of.0)
                  (ap (λ n. star_from n (starred path of.0)) (sym at) ∙ is)
                  (like_star_from path of.0);
              own = ap (λ p. agrees p of.0) (sym is)
                  ∙ star_more d (starred path of.0) of.0 (starred_own path of.0);
            };
        each = λ x h on.
            let s = starred path x in
            let here : Among s docs = subst (Among s) (sym covers.docs_are)
            (merged_keeps join s all
            (rekey_keeps (starred path) x (rows_at path rows) (at_keeps path x rows h on))) in (
              star_from d s,
              merged_keeps join (star_from d s) more (rekey_keeps (star_from d) s docs here),
              star_more d s x (starred_own path x),
            );
      }

  -- a path with one more star has the same rows
  pub star_stand : (path : List ℕ) (docs : List (List ℕ × S)) → Stand (path ++ (star ∷ [])) rows docs
      → Stand path rows docs
  star_stand path docs h = record {
    of_row = λ q among. let of = h.of_row q among in record {
      row = of.row;
      among = of.among;
      on = sym (agrees_star path of.row) ∙ of.on;
      like = like_less path star of.row q of.like;
      own = of.own;
    };
    each = λ x among on. h.each x among (agrees_star path x ∙ on);
  }

  -- documents that stand for the rows of a path cover just these
  pub stand_any : (k : ℕ) (path : List ℕ) (docs : List (List ℕ × S)) → HaveIds k rows
      → Stand path rows docs → (x : List ℕ) → Among x rows
      → list_any (λ e. agrees e.0 x) docs ≡ agrees path x
  stand_any k path docs ids h x among =
      same (list_any (λ e. agrees e.0 x) docs) (agrees path x)
      (λ any. let q = of_any (λ q. agrees q x) docs any in
      let of = h.of_row q.0 q.1 in
      like_back path of.row q.0 x of.like
      (length_among k x rows ids among ∙ sym (length_among k of.row rows ids of.among)) of.on q.2)
      (λ on. let q = h.each x among on in any_of (λ q. agrees q x) docs q.0 q.1 q.2)
    where
      same : (a b : Bool) → (a ≡ true → b ≡ true) → (b ≡ true → a ≡ true) → a ≡ b
      same true b f g = sym (f refl)
      same false true f g = g refl
      same false false f g = refl

  -- where the path has an id, the documents have one
  pub stand_own : (k : ℕ) (path : List ℕ) (docs : List (List ℕ × S)) → HaveNoStar k rows
      → Stand path rows docs → (q : List ℕ) → Among q docs → (d : ℕ) → d < k
      → dim d path ≢ star → dim d q ≢ star
  stand_own k path docs no_star h q among d lt own at =
      let of = h.of_row q among in
      no_star_among k of.row rows no_star of.among d lt
      (sym (like_dim path of.row q d of.like own) ∙ at)

  -- and on the dimensions after the path, where they are not aggregated
  pub docs_after : (k : ℕ) (path : List ℕ) (docs : List (List ℕ × S)) → HaveNoStar k rows
      → CoversRows join rows path docs → (q : List ℕ) → Among q docs → (d : ℕ)
      → length path ≤ d → d < k → dim d q ≢ star
  docs_after k path docs no_star covers q among d le lt at =
      let of = rekey_from (starred path) q (rows_at path rows)
      (merged_from join q (rekey (starred path) (rows_at path rows))
      (subst (Among q) covers.docs_are among)) in
      no_star_among k of.0 rows no_star (at_from path of.0 rows of.1).0 d lt
      (sym (dim-after path of.0 d le) ∙ ap (dim d) of.2 ∙ at)
