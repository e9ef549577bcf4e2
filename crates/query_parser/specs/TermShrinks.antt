-- A term, and a test of a group, took a token.
use Rattle.std.proofs.Common.{◌≡◌, ℕ, ◌≤◌, Bool, true, false, cond, length, Option, Some, None, Ok}
use Rattle.query_tokens.specs.declared.token.Kind.{Kind}
use Rattle.query_tokens.specs.declared.token.Kind.TheVariants as k
use Rattle.query_tokens.specs.declared.fault.QueryFault.{QueryFault}
use Rattle.values.specs.declared.test.CompareOp.{CompareOp}
use Rattle.query_tokens.specs.declared.tree.Func.{Func}
use Rattle.query_tokens.specs.declared.tree.Argument.TheVariants as argument
use Rattle.query_tokens.specs.declared.tree.Term.{Term}
use Rattle.query_tokens.specs.declared.tree.Term.TheVariants as term
use Rattle.query_tokens.specs.declared.tree.HavingCond.TheVariants.{Compare}
use Rattle.query_tokens.specs.Stream.{Stream}
use Rattle.query_parser.specs.Reading.{Parser, ◌>>◌, pure, peek, take_token, sees, expect, name, literal}
use Rattle.query_parser.specs.Operators.{operator}
use Rattle.query_parser.specs.Query as q
use Rattle.query_parser.specs.Shrinks.{Shrinks, Keeps, keeps, bind_shrinks, bind_keeps, pure_keeps, refuse_shrinks, peek_keeps, take_keeps, expect_keeps, name_shrinks, literal_shrinks}

pub stop_keeps : {A : Type 0} (f : QueryFault) → Keeps (q.stop_at {A = A} f)
stop_keeps f ts us a e = absurd (cc)

star_keeps : (b : Bool) → Keeps (cond b (take_token >> pure argument.Star) (q.bad_star))
star_keeps true = bind_keeps take_token _ take_keeps (λ _. pure_keeps argument.Star)
star_keeps false = λ ts us a e. absurd (cc)

argument_keeps : (f : Func) (kd : Kind) → Keeps (q.argument_by f kd)
argument_keeps f k.Star = star_keeps (q.is_count f)
argument_keeps f k.Name = bind_keeps name _
    (keeps _ name_shrinks) (λ n. pure_keeps (argument.Column n))
argument_keeps f _ = keeps _ refuse_shrinks

call_keeps : (at : ℕ) (f : Option Func) → Keeps (q.call_of at f)
unfolding q.argument_of
call_keeps at None = stop_keeps _
call_keeps at (Some f) =
    bind_keeps take_token _ take_keeps (λ _. bind_keeps (q.argument_of f) _
    (bind_keeps peek _ peek_keeps (λ kd. argument_keeps f kd)) (λ a. bind_keeps (expect k.RParen) _
    (expect_keeps k.RParen)
    (λ _. pure_keeps (term.Call (record { func = f; argument = a; offset = at })))))

chosen : {A : Type 0} (b : Bool) (p r : Parser A) → Keeps p → Keeps r → (ts us : Stream) (a : A)
    → cond b (p ts) (r ts) ≡ Ok (a, us) → length us ≤ length ts
chosen true p r hp hr ts us a h = hp ts us a h
chosen false p r hp hr ts us a h = hr ts us a h

pub chosen_keeps : {A : Type 0} (test : Stream → Bool) (p r : Parser A) → Keeps p → Keeps r
    → Keeps (λ ts. cond (test ts) (p ts) (r ts))
chosen_keeps test p r hp hr ts us a e = chosen (test ts) p r hp hr ts us a e

pub term_shrinks : Shrinks q.term_of
unfolding q.term_of
term_shrinks = bind_shrinks name _ name_shrinks (λ n. chosen_keeps (sees k.LParen)
    (q.call_of n.offset (q.func_of n.name)) (pure (term.Column n))
    (call_keeps n.offset (q.func_of n.name)) (pure_keeps (term.Column n)))

compared_keeps : (t : Term) (op : Option CompareOp) → Keeps (q.having_compared t op)
compared_keeps t (Some op) = bind_keeps take_token _ take_keeps
    (λ _. bind_keeps literal _ (keeps _ literal_shrinks) (λ v. pure_keeps (Compare t op v)))
compared_keeps t None = keeps _ refuse_shrinks

-- a test of a group takes a token at least
pub having_test_shrinks : Shrinks q.having_test
unfolding q.having_test
having_test_shrinks = bind_shrinks q.term_of _ term_shrinks (λ t. bind_keeps peek _ peek_keeps
    (λ kd. compared_keeps t (operator kd)))
