use Rattle.std.proofs.Common.{◌≡◌, IfOk, IfErr, Result, Ok, Err, subst, sym}
use Rattle.query_bind.specs.Bound.{bound}
use Rattle.sql_reply.specs.Asked.{Asks, asked, normal_asked}
use Rattle.sql_reply.specs.Parts.{IsBound}
use Rattle.sql_reply.specs.Reply.{conjuncts_reply}
use Rattle.sql_reply.specs.SqlReply.{Replies, replied, sql_reply}
use Rattle.sql_reply.proofs.AskedLemmas.{asked_so, asks_halted, asks_so, bound_asked, unasked_replies}
use Rattle.sql_reply.proofs.QueryLemmas.{err-halted, normal_so}
use Rattle.sql_reply.proofs.bound.bound_query.Goals as goal

over : {T E : Type 0} (r : Result T E) (P Q : E → Type 0) → ((e : E) → P e → Q e) → IfErr r P → IfErr r Q
over (Ok t) P Q f h = tt
over (Err e) P Q f h = f e h

found_so : {T E : Type 0} (r : Result T E) (P Q : T → Type 0) → ((t : T) → P t → Q t) → IfOk r P → IfOk r Q
found_so (Ok t) P Q f h = f t h
found_so (Err e) P Q f h = tt

pub returns-in_err-query-clause-asked : goal.returns-in_err-query-clause-asked
returns-in_err-query-clause-asked c =
    asks_halted c.from_residual.result (asked c.args.table.now c.args.any_table c.args.sql.now) c.in_err-query.field-0.0 c.from_residual.ensures.1 (c.in_err-query.ensures.err c.args.table.now c.args.any_table)

pub returns-in_err-query-clause-err : goal.returns-in_err-query-clause-err
returns-in_err-query-clause-err c = λ rows.
    err-halted c.from_residual.result (λ fault. Replies (sql_reply c.args.table.now c.args.any_table c.args.sql.now rows) (Err fault)) c.in_err-query.field-0.0 c.from_residual.ensures.1
    (unasked_replies c.args.table.now c.args.any_table c.args.sql.now rows c.in_err-query.field-0.0 (c.in_err-query.ensures.err c.args.table.now c.args.any_table))

pub returns-clause-asked : goal.returns-clause-asked
returns-clause-asked c =
    asks_so c.bind_to.result (asked c.args.table.now c.args.any_table c.args.sql.now) (normal_asked (bound c.args.table.now c.args.any_table c.in_ok-query.query))
    (asked_so c.args.table.now c.args.any_table c.args.sql.now c.in_ok-query.query c.in_ok-query.ensures.query)
    (found_so c.bind_to.result
    (IsBound c.args.table.now c.args.any_table c.in_ok-query.query)
    (λ found. asked c.args.table.now c.args.any_table c.args.sql.now ≡ Ok found)
    (λ found. bound_asked c.args.table.now c.args.any_table c.args.sql.now c.in_ok-query.query found c.in_ok-query.ensures.query)
    c.bind_to.ensures.bound)
    c.bind_to.ensures.err

pub returns-clause-reply : goal.returns-clause-reply
returns-clause-reply c = λ rows.
    found_so c.bind_to.result
    (IsBound c.args.table.now c.args.any_table c.in_ok-query.query)
    (λ found. sql_reply c.args.table.now c.args.any_table c.args.sql.now rows ≡ replied (conjuncts_reply found rows))
    (λ found. normal_so c.args.table.now c.args.any_table c.args.sql.now rows c.in_ok-query.query found c.in_ok-query.ensures.query)
    c.bind_to.ensures.bound

pub returns-clause-err : goal.returns-clause-err
returns-clause-err c = λ rows.
    over c.bind_to.result
    (λ fault. Asks (normal_asked (bound c.args.table.now c.args.any_table c.in_ok-query.query)) (Err fault))
    (λ fault. Replies (sql_reply c.args.table.now c.args.any_table c.args.sql.now rows) (Err fault))
    (λ fault asks. unasked_replies c.args.table.now c.args.any_table c.args.sql.now rows fault
    (subst (λ a. Asks a (Err fault)) (sym (asked_so c.args.table.now c.args.any_table c.args.sql.now c.in_ok-query.query c.in_ok-query.ensures.query)) asks))
    c.bind_to.ensures.err
