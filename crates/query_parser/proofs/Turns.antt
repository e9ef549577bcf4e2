-- A loop that reads members with a token between.
use Rattle.std.proofs.Common.{◌≡◌, ℕ, suc, ◌-◌, ◌<◌, Bool, true, false, cond, List, [], ◌∷◌, ◌++◌, length, Ok, Err, refl, ap, ◌∙◌, arith}
use Rattle.query_tokens.specs.declared.token.Kind.{Kind}
use Rattle.query_tokens.specs.declared.fault.QueryFault.{QueryFault}
use Rattle.query_tokens.specs.Stream.{Stream}
use Rattle.query_parser.specs.Reading.{Parser, and_then, ◌>>=◌, pure, eat, sees, after, separated_from, separated}
use Rattle.query_parser.specs.Shrinks.{after_keeps}

-- From old on, found has been read so far, and ts is left.
pub record Turns {A : Type 0} (sep : Kind) (item : Parser A) (old : Stream) (found : List A) (ts : Stream) : Type 0 where
  pub n : ℕ
  pub fits : length ts < n
  pub same : separated sep item old ≡ separated_from sep item n found ts

pub turns_begin : {A : Type 0} (sep : Kind) (item : Parser A) (old : Stream) → Turns sep item old [] old
turns_begin sep item old = record { n = suc (length old); fits = omega arith; same = refl }

pub one : {A : Type 0} (sep : Kind) (item : Parser A) (n : ℕ) (found : List A) (ts us : Stream) (x : A) (q : Bool) → item ts ≡ Ok (x, us) → sees sep us ≡ q
    → separated_from sep item (suc n) found ts ≡ cond q (separated_from sep item n (found ++ x ∷ [])) (pure (found ++ x ∷ [])) (after sep us)
unfolding separated_from
one sep item n found ts us x q e s =
    ap (λ o. and_then o (λ x. eat sep >>= (λ more. cond more (separated_from sep item n (found ++ x ∷ [])) (pure (found ++ x ∷ []))))) e
    ∙ ap (λ q. cond q (separated_from sep item n (found ++ x ∷ [])) (pure (found ++ x ∷ [])) (after sep us)) s

pub none : {A : Type 0} (sep : Kind) (item : Parser A) (n : ℕ) (found : List A) (ts : Stream) (f : QueryFault) → item ts ≡ Err f → separated_from sep item (suc n) found ts ≡ Err f
unfolding separated_from
none sep item n found ts f e = ap (λ o. and_then o (λ x. eat sep >>= (λ more. cond more (separated_from sep item n (found ++ x ∷ [])) (pure (found ++ x ∷ []))))) e

module _ {A : Type 0} (sep : Kind) (item : Parser A) (old : Stream) (found : List A) (ts : Stream) where
  pub turns_on : (us : Stream) (x : A) → length us < length ts → Turns sep item old found ts → item ts ≡ Ok (x, us) → sees sep us ≡ true → Turns sep item old (found ++ x ∷ []) (after sep us)
  turns_on us x less t e more =
      let le = after_keeps sep us in
      let k : t.n ≡ suc (t.n - 1) = omega (arith, t.fits) in
      record { n = t.n - 1; fits = omega (arith, less, le, t.fits); same = t.same ∙ ap (λ n. separated_from sep item n found ts) k ∙ one sep item (t.n - 1) found ts us x true e more }

  pub turns_done : (us : Stream) (x : A) → Turns sep item old found ts → item ts ≡ Ok (x, us) → sees sep us ≡ false → separated sep item old ≡ Ok (found ++ x ∷ [], after sep us)
  turns_done us x t e more =
      let k : t.n ≡ suc (t.n - 1) = omega (arith, t.fits) in
      t.same ∙ ap (λ n. separated_from sep item n found ts) k ∙ one sep item (t.n - 1) found ts us x false e more

  pub turns_stop : (f : QueryFault) → Turns sep item old found ts → item ts ≡ Err f → separated sep item old ≡ Err f
  turns_stop f t e =
      let k : t.n ≡ suc (t.n - 1) = omega (arith, t.fits) in
      t.same ∙ ap (λ n. separated_from sep item n found ts) k ∙ none sep item (t.n - 1) found ts f e

-- one more turn is left
pub turns_more : {A : Type 0} (sep : Kind) (item : Parser A) (old : Stream) (found : List A) (ts : Stream) (t : Turns sep item old found ts) → separated sep item old ≡ separated_from sep item (suc (t.n - 1)) found ts
turns_more sep item old found ts t =
    let k : t.n ≡ suc (t.n - 1) = omega (arith, t.fits) in
    t.same ∙ ap (λ n. separated_from sep item n found ts) k

pub turns_less : (sep : Kind) (ts us : Stream) → length us < length ts → length (after sep us) < length ts
turns_less sep ts us less =
    let le = after_keeps sep us in
    omega (arith, less, le)

pub deeper : {X : Type 0} (f : ℕ → X) (n : ℕ) → 0 < n → f n ≡ f (suc (n - 1))
deeper f n some = let e : n ≡ suc (n - 1) = omega arith in ap f e
