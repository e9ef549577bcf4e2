use Rattle.std.proofs.Common.{◌∙◌, ◌-◌, ◌*◌, ℕ, List, Err, IfSome, length, sym, ap, subst, arith}
use Rattle.outside.specs.Seen.{Seen, seen}
use Rattle.sql_reply.specs.declared.fault.SqlFault.TheVariants.{NoMemory, TooManyGroups}
use Rattle.query_executor.specs.Answers.{IsBoundReply}
use Rattle.query_executor.specs.Passes.{HaveOpenings, kept_by}
use Rattle.query_executor.specs.declared.fault.ExecutorFault.TheVariants.{Sql}
use Rattle.query_executor.proofs.EndLemmas.{fault_if, fault_ok, gives_fault, memory_refused, no_fault, own_fault}
use Rattle.query_executor.proofs.PassLemmas.{pass_done, pass_failed, pass_lacking, pass_unread}
use Rattle.query_executor.proofs.ReplyLemmas.{all_answered, groups_no_text, too_many_refused}
use Rattle.query_executor.proofs.StatedLemmas.{bound_with}
use Rattle.query_executor.specs.Stated.{text_with}
use Rattle.agg_laws.specs.Numbers.{most_values}
use Rattle.group_table.specs.Groups.{Groups}
use Rattle.group_table.specs.Kept.{groups_in}
use Rattle.group_table.specs.Shape.{shape_of}
use Rattle.scan_engine.specs.Scanned.{HaveAtMost}
use Rattle.scan_engine.proofs.AddLemmas.{at_most_more}
use Rattle.sql_reply.proofs.GroupLemmas.{none_fit}
use Rattle.query_executor.proofs.executor.reply_to_bound.Goals as goal
use Rattle.segment_head.specs.declared.stored.Stored.{Stored}

pub answer-requires : goal.answer-requires
answer-requires g c = record {
  pooled = c.pass_over.ensures.stays.table;
  table = c.in-Ok.ensures.made.of_query;
  valid = (c.args.table.now, c.requires.query);
  most = let is = c.in-Ok.ensures.made.most in let le = c.in_ok-pass.ensures.limits.within in omega (arith, is, le);
}

pub returns-in_err-pass : goal.returns-in_err-pass
returns-in_err-pass g c =
    let query = c.args.query.now in
    let table = c.args.table.now in
    let stored : List Stored = c.args.stored.now in
    let a : Seen = seen g.S.Shelf c.args.shelf.now in
    let r = c.from_residual.result in
    let is = gives_fault _ r (Sql NoMemory) c.from_residual.ensures.1 in
    record {
      reply = fault_if _ r (Sql NoMemory) _ is;
      refused = λ fault e real. absurd (memory_refused _ r fault is e real);
      opens = fault_ok _ r (Sql NoMemory) (HaveOpenings table a.held stored) is;
      passes = pass_unread query table stored c.docs_bound_law.ensures.bound c.requires.of_table.valid _ r a is;
    }

pub pass_over-requires : goal.pass_over-requires
pass_over-requires g c =
    let new = c.in_ok-pass.ensures.groups in
    record {
      pooled = c.in_ok-pass.ensures.pooled;
      begins = record {
        over = c.requires;
        of_query = new.of_query;
        fits = λ key. at_most_more (groups_in (kept_by c.in_ok-pass.pass)) 0 (most_values - length c.args.stored.now * 1048576) (omega arith) (subst (λ (groups : Groups). HaveAtMost 0 groups) (sym new.groups_are) (none_fit (shape_of c.args.query.now))) key;
      };
      no_lines = c.in_ok-pass.ensures.lines;
    }

pub returns-in-Err : goal.returns-in-Err
returns-in-Err g c =
    let query = c.args.query.now in
    let table = c.args.table.now in
    let stored : List Stored = c.args.stored.now in
    let a : Seen = seen g.S.Shelf c.args.shelf.now in
    let b : Seen = seen g.S.Shelf c.pass_over.new.shelf in
    let own = c.in-Err.fault in
    record {
      reply = tt;
      refused = λ fault e real.
          let (most, over) = c.in-Err.ensures.refused fault (ap Err (own_fault _ own (Sql fault) e)) real in
          (groups_no_text fault _ most, subst (λ f. IfSome a.held (λ files. IsBoundReply table files stored query (Err f))) (sym (most ∙ ap TooManyGroups c.in_ok-pass.ensures.most)) (too_many_refused query table stored a.held (kept_by c.in_ok-pass.pass) c.in_ok-pass.ensures.groups c.in_ok-pass.ensures.limits over));
      opens = tt;
      passes = pass_failed query table stored _ _ own a b c.in-Err.ensures.passes;
    }

pub returns-in_err-reply : goal.returns-in_err-reply
returns-in_err-reply g c =
    let query = c.args.query.now in
    let table = c.args.table.now in
    let stored : List Stored = c.args.stored.now in
    let a : Seen = seen g.S.Shelf c.args.shelf.now in
    let b : Seen = seen g.S.Shelf c.pass_over.new.shelf in
    let r = c.from_residual-in_err-reply.result in
    let is = gives_fault _ r (Sql NoMemory) c.from_residual-in_err-reply.ensures.1 in
    record {
      reply = fault_if _ r (Sql NoMemory) _ is;
      refused = λ fault e real. absurd (memory_refused _ r fault is e real);
      opens = fault_ok _ r (Sql NoMemory) (HaveOpenings table a.held stored) is;
      passes = pass_lacking query table stored _ _ tt r a b is c.in-Ok.ensures.passes;
    }

pub returns-in_err-with_lines : goal.returns-in_err-with_lines
returns-in_err-with_lines g c =
    let query = c.args.query.now in
    let table = c.args.table.now in
    let stored : List Stored = c.args.stored.now in
    let a : Seen = seen g.S.Shelf c.args.shelf.now in
    let b : Seen = seen g.S.Shelf c.pass_over.new.shelf in
    let r = c.from_residual-in_err-with_lines.result in
    let is = gives_fault _ r (Sql NoMemory) c.from_residual-in_err-with_lines.ensures.1 in
    record {
      reply = fault_if _ r (Sql NoMemory) _ is;
      refused = λ fault e real. absurd (memory_refused _ r fault is e real);
      opens = fault_ok _ r (Sql NoMemory) (HaveOpenings table a.held stored) is;
      passes = pass_lacking query table stored _ _ tt r a b is c.in-Ok.ensures.passes;
    }

pub returns : goal.returns
returns g c =
    let query = c.args.query.now in
    let table = c.args.table.now in
    let stored : List Stored = c.args.stored.now in
    let a : Seen = seen g.S.Shelf c.args.shelf.now in
    let b : Seen = seen g.S.Shelf c.pass_over.new.shelf in
    let text : List ℕ = c.in_ok-reply.reply in
    record {
      reply = bound_with query table stored c.args.wants_lines a.held text c.pass_over.new.pass.lines.items _
          (all_answered query table stored a.held (kept_by c.in_ok-pass.pass) (kept_by c.pass_over.new.pass) text c.in_ok-pass.ensures.groups c.in-Ok.ensures.made.groups c.in_ok-reply.ensures) (λ wanted. c.in-Ok.ensures.made.lines (c.in_ok-pass.ensures.wants ∙ wanted))
          (c.in_ok-with_lines.ensures ∙ ap (text_with c.args.wants_lines text) c.as_slice.ensures.value);
      refused = λ fault e real. absurd (no_fault _ _ (Sql fault) e);
      opens = c.in-Ok.ensures.made.openings;
      passes = pass_done query table stored _ _ tt _ a b c.in-Ok.ensures.passes;
    }

pub new-requires-clause-few : goal.new-requires-clause-few
new-requires-clause-few g c = let few = c.requires.query.few_aggs in omega (arith, few)
