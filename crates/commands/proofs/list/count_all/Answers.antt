use Rattle.std.proofs.Common.{◌≡◌, ◌∙◌, ◌<◌, ◌+◌, ◌++◌, ◌∷◌, [], List, ℕ, IfSome, get_or, length, map, length-append, arith, subst, sym, ap}
use Rattle.std.specs.List.{AllZip, Contains}
use Rattle.outside.specs.Seen.{Seen, seen}
use Rattle.command_model.specs.Profile.{StoreFiles}
use Rattle.command_model.specs.Touched.{IsStoreFile}
use Rattle.command_model.specs.Stored.{HasRows, SegmentsRefuse}
use Rattle.segment_head.specs.Stored.{live}
use Rattle.segment_head.specs.declared.stored.Stored.{Stored}
use Rattle.segment_reads.specs.Logs.{IsHeadRead}
use Rattle.segment_reads.proofs.NameLemmas.{live_at, live_count}
use Rattle.segment_reads.proofs.LogLemmas.{entries_none, heads_more}
use Rattle.outside.proofs.SeenLemmas.{reads_none}
use Rattle.command_model.proofs.StoredLemmas.{CountsOn, any_default, counts_all, counts_more, counts_none, err_after, handed, logs_then, no_memory, reads_then}
use Rattle.commands.proofs.list.count_all.Goals as goal

pub returns-in_err-counts-clause-looks : goal.returns-in_err-counts-clause-looks
returns-in_err-counts-clause-looks g c =
    let a : Seen = seen g.D.Shelf c.args.depot.now in
    handed (λ files counts. AllZip (HasRows c.args.table.now files) c.args.names.now counts) SegmentsRefuse StoreFiles a a c.from_residual.result _ c.from_residual.ensures.1
    (no_memory _ SegmentsRefuse StoreFiles a a (reads_none a) (entries_none (λ entry. IsStoreFile entry.file) a.log))

pub returns-in_err-counts-clause-heads : goal.returns-in_err-counts-clause-heads
returns-in_err-counts-clause-heads g c =
    let a : Seen = seen g.D.Shelf c.args.depot.now in
    entries_none (λ entry. (segment : Stored) × Contains (map live c.args.names.now) segment × IsHeadRead c.args.table.now a.held segment entry) a.log

pub names-init : goal.names-init
names-init g c =
    let a : Seen = seen g.D.Shelf c.args.depot.now in
    let none : c.in_ok-counts.counts.items ≡ [] = c.in_ok-counts.ensures.items in
    record {
      reads = reads_none a;
      log = entries_none (λ entry. IsStoreFile entry.file) a.log;
      heads = entries_none (λ entry. (segment : Stored) × Contains (map live c.args.names.now) segment × IsHeadRead c.args.table.now a.held segment entry) a.log;
      each = ap length none;
      so_far = subst (λ counts. IfSome a.held (CountsOn c.args.table.now c.args.names.now 0 counts)) (sym none) (counts_none a.held c.args.table.now c.args.names.now);
    }

pub returns-in_err-rows-clause-looks : goal.returns-in_err-rows-clause-looks
returns-in_err-rows-clause-looks g c =
    let a : Seen = seen g.D.Shelf c.args.depot.now in
    let b : Seen = seen g.D.Shelf c.names.depot in
    let d : Seen = seen g.D.Shelf c.count_rows.new.depot in
    handed (λ files counts. AllZip (HasRows c.args.table.now files) c.args.names.now counts) SegmentsRefuse StoreFiles a d c.from_residual-in_err-rows.result c.in_err-rows.field-0.0 c.from_residual-in_err-rows.ensures.1
    (err_after _ _ a b d c.in_err-rows.field-0.0 c.names.invariant.reads c.names.invariant.log c.in_err-rows.ensures.looks)

pub returns-in_err-push_count-clause-looks : goal.returns-in_err-push_count-clause-looks
returns-in_err-push_count-clause-looks g c =
    let a : Seen = seen g.D.Shelf c.args.depot.now in
    let b : Seen = seen g.D.Shelf c.names.depot in
    let d : Seen = seen g.D.Shelf c.count_rows.new.depot in
    handed (λ files counts. AllZip (HasRows c.args.table.now files) c.args.names.now counts) SegmentsRefuse StoreFiles a d c.from_residual-in_err-push_count.result _ c.from_residual-in_err-push_count.ensures.1
    (no_memory _ SegmentsRefuse StoreFiles a d (reads_then a b d c.names.invariant.reads c.in_ok-rows.ensures.looks.reads) (logs_then a.log b.log d.log c.names.invariant.log c.in_ok-rows.ensures.looks.log))

pub returns-in_err-rows-clause-heads : goal.returns-in_err-rows-clause-heads
returns-in_err-rows-clause-heads g c =
    let a : Seen = seen g.D.Shelf c.args.depot.now in
    let b : Seen = seen g.D.Shelf c.names.depot in
    let d : Seen = seen g.D.Shelf c.count_rows.new.depot in
    let lt : c.names.at < length c.args.names.now = omega arith in
    let is : c.as_str.result.now ≡ get_or c.args.names.now c.names.at [] = c.as_str.ensures ∙ c.index-names-at.is ∙ any_default c.args.names.now c.names.at c.index-names-at.result [] lt in
    heads_more c.args.table.now (map live c.args.names.now) c.names.at (live c.as_str.result.now) a.held b.held a.log b.log d.log (omega (arith, lt, live_count c.args.names.now)) (ap live is ∙ sym (live_at c.args.names.now c.names.at)) c.names.invariant.reads.held c.names.invariant.heads c.in_err-rows.ensures.heads

pub returns-in_err-push_count-clause-heads : goal.returns-in_err-push_count-clause-heads
returns-in_err-push_count-clause-heads g c =
    let a : Seen = seen g.D.Shelf c.args.depot.now in
    let b : Seen = seen g.D.Shelf c.names.depot in
    let d : Seen = seen g.D.Shelf c.count_rows.new.depot in
    let lt : c.names.at < length c.args.names.now = omega arith in
    let is : c.as_str.result.now ≡ get_or c.args.names.now c.names.at [] = c.as_str.ensures ∙ c.index-names-at.is ∙ any_default c.args.names.now c.names.at c.index-names-at.result [] lt in
    heads_more c.args.table.now (map live c.args.names.now) c.names.at (live c.as_str.result.now) a.held b.held a.log b.log d.log (omega (arith, lt, live_count c.args.names.now)) (ap live is ∙ sym (live_at c.args.names.now c.names.at)) c.names.invariant.reads.held c.names.invariant.heads c.in_ok-rows.ensures.heads

pub names-preserved : goal.names-preserved
names-preserved g c =
    let a : Seen = seen g.D.Shelf c.args.depot.now in
    let b : Seen = seen g.D.Shelf c.names.depot in
    let d : Seen = seen g.D.Shelf c.count_rows.new.depot in
    let old : List ℕ = c.names.counts.items in
    let lt : c.names.at < length c.args.names.now = omega arith in
    let is : c.as_str.result.now ≡ get_or c.args.names.now c.names.at [] = c.as_str.ensures ∙ c.index-names-at.is ∙ any_default c.args.names.now c.names.at c.index-names-at.result [] lt in
    let pushed : c.push_count.new.counts.items ≡ old ++ c.in_ok-rows.rows ∷ [] = c.in_ok-push_count.ensures in
    let more : length c.push_count.new.counts.items ≡ length old + 1 = ap length pushed ∙ length-append old (c.in_ok-rows.rows ∷ []) in
    record {
      reads = reads_then a b d c.names.invariant.reads c.in_ok-rows.ensures.looks.reads;
      log = logs_then a.log b.log d.log c.names.invariant.log c.in_ok-rows.ensures.looks.log;
      heads = heads_more c.args.table.now (map live c.args.names.now) c.names.at (live c.as_str.result.now) a.held b.held a.log b.log d.log (omega (arith, lt, live_count c.args.names.now)) (ap live is ∙ sym (live_at c.args.names.now c.names.at)) c.names.invariant.reads.held c.names.invariant.heads c.in_ok-rows.ensures.heads;
      each = omega (arith, more, c.names.invariant.each);
      so_far = subst (λ counts. IfSome a.held (CountsOn c.args.table.now c.args.names.now (c.names.at + 1) counts)) (sym pushed)
          (counts_more a.held b.held c.args.table.now c.args.names.now c.names.at c.in_ok-rows.rows old c.names.invariant.reads.held lt
          (subst (λ name. IfSome b.held (λ files. HasRows c.args.table.now files name c.in_ok-rows.rows)) is c.in_ok-rows.ensures.looks.found) c.names.invariant.so_far);
    }

pub returns-clause-looks : goal.returns-clause-looks
returns-clause-looks g c =
    let a : Seen = seen g.D.Shelf c.args.depot.now in
    record {
      reads = c.names.invariant.reads;
      log = c.names.invariant.log;
      found = subst (λ counts. IfSome a.held (λ files. AllZip (HasRows c.args.table.now files) c.args.names.now counts)) (sym c.from_vec.ensures)
          (counts_all a.held c.args.table.now c.args.names.now c.names.at c.names.counts.items (omega arith) c.names.invariant.so_far);
      stops = tt;
    }
