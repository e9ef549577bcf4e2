-- A text that is no query has no reply, and one that is read and bound is that query.
use Rattle.std.proofs.Common.{◌≡◌, ◌≢◌, ◌∙◌, ◌≤◌, ℕ, Bool, true, false, cond, nat_lt, List, length, Result, Ok, Err, IfOk, IfErr, IsErrAnd, sym, ap, subst, arith}
use Rattle.std.proofs.lemmas.Bool.Decides.{nat_tests}
use Rattle.values.specs.declared.value.Value.{Value}
use Rattle.table_schema.specs.declared.query.BoundQuery.{BoundQuery}
use Rattle.table_schema.specs.declared.table.Table.{Table}
use Rattle.query_parser.specs.Query.{parsed}
use Rattle.query_tokens.specs.declared.tree.Query.{Query}
use Rattle.query_tokens.specs.declared.fault.QueryFault.{QueryFault}
use Rattle.query_tokens.specs.declared.fault.QueryFault.TheVariants as parse
use Rattle.query_bind.specs.Bound.{Bound, bound}
use Rattle.query_bind.specs.declared.fault.BindFault.{BindFault}
use Rattle.query_bind.specs.declared.fault.BindFault.TheVariants as bind
use Rattle.sql_reply.specs.Asked.{Asked, Asks, asked, normal_asked, parsed_asked}
use Rattle.sql_reply.specs.Laws.{UnaskedHasNone}
use Rattle.sql_reply.specs.Parts.{IsBound, IsRead}
use Rattle.sql_reply.specs.SqlReply.{IsOfText, Replies, SqlReply, bind_fault, bound_reply, parsed_reply, query_fault, sql_reply}
use Rattle.sql_reply.specs.declared.fault.SqlFault.{SqlFault}
use Rattle.sql_reply.specs.declared.fault.SqlFault.TheVariants.{BadQuery, LongQuery, NoMemory, Unbound}

-- ---- a text that is no query

abbrev Unasked : SqlFault → Asked
Unasked fault = Err fault

abbrev Unanswered : SqlFault → SqlReply
Unanswered fault = Err fault

same_fault : (a b : SqlFault) → Unasked a ≡ Unasked b → Unanswered a ≡ Unanswered b
same_fault a b is = let same : a ≡ b = cc in ap Unanswered same

normal_none : (r : Result Bound BindFault) (rows : List (List Value)) (fault : SqlFault) → normal_asked r ≡ Err fault → bound_reply rows r ≡ Err fault
normal_none (Ok b) rows fault is = absurd cc
normal_none (Err wrong) rows fault is = same_fault (bind_fault wrong) fault is

parsed_none : (table : Table) (any_table : Bool) (r : Result Query QueryFault) (rows : List (List Value)) (fault : SqlFault) → parsed_asked table any_table r ≡ Err fault → parsed_reply table any_table rows r ≡ Err fault
parsed_none table any_table (Ok q) rows fault is = normal_none (bound table any_table q) rows fault is
parsed_none table any_table (Err wrong) rows fault is = same_fault (query_fault wrong) fault is

long_none : (lengths : Bool) (a : Asked) (r : SqlReply) (most : SqlFault) (fault : SqlFault) → (a ≡ Err fault → r ≡ Err fault) → cond lengths (Err most) a ≡ Err fault → cond lengths (Err most) r ≡ Err fault
long_none true a r most fault same is = same_fault most fault is
long_none false a r most fault same is = same is

pub unasked_none : UnaskedHasNone
unasked_none table any_table sql fault rows is =
    long_none (nat_lt 65536 (length sql)) (parsed_asked table any_table (parsed sql)) (parsed_reply table any_table rows (parsed sql)) (LongQuery 65536) fault
    (parsed_none table any_table (parsed sql) rows fault) is

-- what is wrong with it is of the text itself
normal_text : (r : Result Bound BindFault) (fault : SqlFault) → normal_asked r ≡ Err fault → fault ≢ NoMemory → IsOfText fault
normal_text (Ok b) fault is real = absurd cc
normal_text (Err (bind.At wrong place)) fault is real = let same : Unbound wrong place ≡ fault = cc in subst IsOfText same tt
normal_text (Err bind.NoMemory) fault is real = absurd (real cc)

parsed_text : (table : Table) (any_table : Bool) (r : Result Query QueryFault) (fault : SqlFault) → parsed_asked table any_table r ≡ Err fault → fault ≢ NoMemory → IsOfText fault
parsed_text table any_table (Ok q) fault is real = normal_text (bound table any_table q) fault is real
parsed_text table any_table (Err (parse.At wrong place)) fault is real = let same : BadQuery wrong place ≡ fault = cc in subst IsOfText same tt
parsed_text table any_table (Err parse.NoMemory) fault is real = absurd (real cc)

long_text : (lengths : Bool) (a : Asked) (fault : SqlFault) → (a ≡ Err fault → IsOfText fault) → cond lengths (Err (LongQuery 65536)) a ≡ Err fault → IsOfText fault
long_text true a fault of is = let same : LongQuery 65536 ≡ fault = cc in subst IsOfText same tt
long_text false a fault of is = of is

pub unasked_text : (table : Table) (any_table : Bool) (sql : List ℕ) (fault : SqlFault) → asked table any_table sql ≡ Err fault → fault ≢ NoMemory → IsOfText fault
unasked_text table any_table sql fault is real =
    long_text (nat_lt 65536 (length sql)) (parsed_asked table any_table (parsed sql)) fault (λ e. parsed_text table any_table (parsed sql) fault e real) is

-- so what is wrong with a text is why it has no reply
pub unasked_replies : (table : Table) (any_table : Bool) (sql : List ℕ) (rows : List (List Value)) (fault : SqlFault) → Asks (asked table any_table sql) (Err fault) → Replies (sql_reply table any_table sql rows) (Err fault)
unasked_replies table any_table sql rows fault asks = λ real. unasked_none table any_table sql fault rows (asks real)

-- ---- a text that is read

asked_by : (table : Table) (any_table : Bool) (sql : List ℕ) (q : Query) → length sql ≤ 65536 → parsed sql ≡ Ok q → asked table any_table sql ≡ normal_asked (bound table any_table q)
asked_by table any_table sql q le ok =
    let test : nat_lt 65536 (length sql) ≡ false = grind (arith, nat_tests) in
    ap (λ t. cond t (Err (LongQuery 65536)) (parsed_asked table any_table (parsed sql))) test ∙ ap (parsed_asked table any_table) ok

pub asked_so : (table : Table) (any_table : Bool) (sql : List ℕ) (q : Query) → IsRead sql q → asked table any_table sql ≡ normal_asked (bound table any_table q)
asked_so table any_table sql q is = asked_by table any_table sql q is.short is.parsed_so

pub bound_asked : (table : Table) (any_table : Bool) (sql : List ℕ) (q : Query) (found : BoundQuery) → IsRead sql q → IsBound table any_table q found → asked table any_table sql ≡ Ok found
bound_asked table any_table sql q found read is = asked_so table any_table sql q read ∙ ap normal_asked is.bound_so ∙ ap (λ f. Ok f) (sym is.normal)

-- ---- what a call answers

pub asks_so : (r a b : Asked) → a ≡ b → IfOk r (λ found. a ≡ Ok found) → IfErr r (λ fault. Asks b (Err fault)) → Asks a r
asks_so (Ok found) a b same ok err = ok
asks_so (Err fault) a b same ok err = subst (λ x. Asks x (Err fault)) (sym same) err

-- a fault that is handed on
pub asks_halted : (r a : Asked) (why : SqlFault) → IsErrAnd r (λ s. s ≡ why) → Asks a (Err why) → Asks a r
asks_halted (Ok found) a why is asks = absurd is
asks_halted (Err fault) a why is asks = subst (λ f. Asks a (Err f)) (sym is) asks
