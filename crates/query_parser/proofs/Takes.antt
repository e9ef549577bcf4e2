-- A symbol of a query that was read took a token.
use Rattle.std.proofs.Common.{◌≡◌, ℕ, suc, ◌-◌, ◌<◌, Bool, true, false, cond, length, Some, None, Result, Ok, Err, refl, ap, ◌∙◌, arith}
use Rattle.query_tokens.specs.declared.token.Kind.{Kind}
use Rattle.query_tokens.specs.declared.token.Kind.TheVariants as k
use Rattle.query_tokens.specs.declared.fault.QueryFault.{QueryFault}
use Rattle.query_tokens.specs.Stream.{Stream, kind, word, next}
use Rattle.query_parser.specs.Reading.{Parser, and_then, ◌>>=◌, ◌>>◌, ◌<$>◌, pure, peek, take_token, sees, eat, expect, name, refuse}
use Rattle.query_parser.specs.Query as q
use Rattle.query_parser.specs.Shrinks.{Shrinks, Keeps, keeps, rest_is, bind_shrinks, bind_shrinks', bind_keeps, pure_keeps, refuse_shrinks, peek_keeps, take_keeps, eat_keeps, expect_keeps, name_shrinks, next_keeps}
use Rattle.query_parser.specs.TermShrinks.{stop_keeps, chosen_keeps, term_shrinks}

some_keeps : {A : Type 0} (p : Parser A) (b : Bool) → Keeps p → Keeps (cond b (Some <$> p) (pure None))
some_keeps p true h = bind_keeps p _ h (λ a. pure_keeps (Some a))
some_keeps p false h = pure_keeps None

label_keeps : Keeps q.label
unfolding q.label
label_keeps = bind_keeps (eat k.As) _ (eat_keeps k.As) (λ b. some_keeps name b (keeps _ name_shrinks))

direction_by_keeps : (kd : Kind) → Keeps (q.direction_by kd)
direction_by_keeps k.Asc = bind_keeps take_token _ take_keeps (λ _. pure_keeps false)
direction_by_keeps k.Desc = bind_keeps take_token _ take_keeps (λ _. pure_keeps true)
direction_by_keeps _ = pure_keeps false

direction_keeps : Keeps q.direction
unfolding q.direction
direction_keeps = bind_keeps peek _ peek_keeps direction_by_keeps

pub item_shrinks : Shrinks q.item
unfolding q.item
item_shrinks = bind_shrinks q.term_of _ term_shrinks (λ t. bind_keeps q.label _ label_keeps (λ l. pure_keeps (record { term = t; label = l })))

pub key_shrinks : Shrinks q.key
unfolding q.key
key_shrinks = bind_shrinks q.term_of _ term_shrinks (λ t. bind_keeps q.direction _ direction_keeps (λ d. pure_keeps (record { term = t; descending = d })))

-- ---- options

value_keeps : Keeps q.option_value
unfolding q.option_value
value_keeps = chosen_keeps (λ ts. q.is_value (kind ts)) (λ ts. Ok (word ts, next ts)) refuse (λ ts us a e. let same = rest_is (word ts) a (next ts) us e in let le = next_keeps ts in omega (arith, ap length same, le)) (keeps _ refuse_shrinks)

checked_keeps : (r : Result Bool QueryFault) → Keeps (q.checked r)
checked_keeps (Ok b) = pure_keeps b
checked_keeps (Err e) = stop_keeps e

pub option_shrinks : (b : Bool) → Shrinks (q.option b)
unfolding q.option
option_shrinks b =
    bind_shrinks' (expect k.Set) _ (expect_keeps k.Set) (λ _. bind_shrinks name _ name_shrinks (λ n. bind_keeps (expect k.Eq) _ (expect_keeps k.Eq) (λ _. bind_keeps q.option_value _ value_keeps
    (λ v. bind_keeps (q.checked (q.set_option n v b)) _ (checked_keeps (q.set_option n v b)) (λ after. bind_keeps (expect k.Semi) _ (expect_keeps k.Semi) (λ _. pure_keeps after))))))

-- From old on, options have been read, and ts is left.
pub record OptionTurns (old : Stream) (use_tree : Bool) (ts : Stream) : Type 0 where
  pub n : ℕ
  pub fits : length ts < n
  pub same : q.options old ≡ q.options_from n use_tree ts

pub options_begin : (old : Stream) → OptionTurns old true old
options_begin old = record { n = suc (length old); fits = omega arith; same = refl }

pub options_more : (old : Stream) (b : Bool) (ts : Stream) (t : OptionTurns old b ts) → q.options old ≡ q.options_from (suc (t.n - 1)) b ts
options_more old b ts t =
    let k : t.n ≡ suc (t.n - 1) = omega (arith, t.fits) in
    t.same ∙ ap (λ n. q.options_from n b ts) k

pub options_on : (old : Stream) (b : Bool) (ts us : Stream) (after : Bool) → OptionTurns old b ts → sees k.Set ts ≡ true → q.option b ts ≡ Ok (after, us) → OptionTurns old after us
unfolding q.options_from
options_on old b ts us after t s e =
    let less = option_shrinks b ts us after e in
    let first : q.options_from (suc (t.n - 1)) b ts ≡ (q.option b >>= q.options_from (t.n - 1)) ts = ap (λ r. cond r ((q.option b >>= q.options_from (t.n - 1)) ts) (Ok (b, ts))) s in
    record { n = t.n - 1; fits = omega (arith, less, t.fits); same = options_more old b ts t ∙ first ∙ ap (λ o. and_then o (q.options_from (t.n - 1))) e }
