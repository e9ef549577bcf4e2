use Rattle.std.proofs.Common.{◌≡◌, ◌∙◌, false, ℕ, List, map, Ok, Err, IfOk, IfSome, OnOk, length, refl, sym, ap, subst}
use Rattle.sql_reply.proofs.AskedLemmas.{unasked_text}
use Rattle.segment_head.specs.Stored.{live}
use Rattle.segment_head.specs.declared.stored.Stored.{Stored}
use Rattle.sql_reply.specs.declared.fault.SqlFault.TheVariants.{NoMemory}
use Rattle.query_executor.specs.Passes.{HaveOpenings}
use Rattle.query_executor.specs.Replies.{ExplainsText}
use Rattle.query_executor.specs.declared.fault.ExecutorFault.TheVariants.{Sql}
use Rattle.query_executor.specs.Explained.{IsExplained}
use Rattle.query_executor.specs.Lines.{plan_line}
use Rattle.query_executor.specs.Steps.{HasLines}
use Rattle.query_executor.proofs.ReplyLemmas.{all_explained, over_live}
use Rattle.query_executor.proofs.EndLemmas.{fault_if, fault_ok, found_so, gives_fault, memory_refused}
use Rattle.outside.specs.Seen.{Seen, seen}
use Rattle.query_executor.proofs.PassLemmas.{heads_lacking, heads_unread}
use Rattle.query_executor.proofs.explain.explain_query.Goals as goal

pub explain_bound-requires : goal.explain_bound-requires
explain_bound-requires g c = record { of_table = over_live c.args.table.now c.args.names.now c.as_slice.result.now (c.as_slice.ensures.value ∙ c.in_ok-stored-in-Ok.ensures) c.requires; query = c.in-Ok.ensures.valid }

pub returns-in_ok-stored-in-Ok : goal.returns-in_ok-stored-in-Ok
returns-in_ok-stored-in-Ok g c =
    let table = c.args.table.now in
    let stored : List Stored = c.as_slice.result.now in
    let held = g.S.Shelf.held c.args.shelf.now in
    let own = c.explain_bound.ensures in
    subst (λ l. ExplainsText table l c.args.sql.now (seen g.S.Shelf c.args.shelf.now) (seen g.S.Shelf c.explain_bound.new.shelf) c.explain_bound.result) (c.as_slice.ensures.value ∙ c.in_ok-stored-in-Ok.ensures)
    (record {
      reply = found_so c.explain_bound.result
          (HasLines (plan_line c.in-Ok.bound table) table held stored (length stored))
          (λ text. IfSome held (λ files. IsExplained table files stored c.args.sql.now (Ok text)))
          (all_explained c.in-Ok.bound table stored c.args.sql.now c.in-Ok.ensures.asked held)
          own.lines;
      of_text = λ fault is real. absurd (real (own.never_wrong fault is));
      opens = own.opens;
      looks = own.looks;
    })

pub returns-in_err-stored-in-Ok : goal.returns-in_err-stored-in-Ok
returns-in_err-stored-in-Ok g c =
    let table = c.args.table.now in
    let stored : List Stored = map live c.args.names.now in
    let a : Seen = seen g.S.Shelf c.args.shelf.now in
    let r = c.from_residual.result in
    let is = gives_fault _ r (Sql NoMemory) c.from_residual.ensures.1 in
    record {
      reply = fault_if _ r (Sql NoMemory) _ is;
      of_text = λ fault e real. absurd (memory_refused _ r fault is e real);
      opens = fault_ok _ r (Sql NoMemory) (HaveOpenings table a.held stored) is;
      looks = heads_lacking table stored _ r a is;
    }

pub returns-in-Err : goal.returns-in-Err
returns-in-Err g c = record {
  reply = tt;
  of_text = λ fault is real.
      let same : c.in-Err.fault ≡ fault = cc in
      let asked_so = c.in-Err.ensures.asked (λ e. real (sym same ∙ e)) ∙ ap Err same in
      (unasked_text c.args.table.now false c.args.sql.now fault asked_so real, refl, asked_so);
  opens = tt;
  looks = heads_unread c.args.table.now (map live c.args.names.now) _ c.in-Err.fault (seen g.S.Shelf c.args.shelf.now);
}
