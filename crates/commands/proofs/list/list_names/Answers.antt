use Rattle.std.proofs.Common.{◌∙◌, ap, refl}
use Rattle.outside.specs.Seen.{Seen, seen}
use Rattle.command_model.specs.Profile.{StoreFiles}
use Rattle.command_model.specs.Stored.{IsListed, SegmentsRefuse, list_text}
use Rattle.commands.proofs.ListLemmas.{listed_heads, listed_so, ran_list}
use Rattle.command_model.proofs.StoredLemmas.{err_after, handed, logs_then, more_opened, no_memory, reads_then}
use Rattle.commands.proofs.list.list_names.Goals as goal

pub returns-in_err-counts : goal.returns-in_err-counts
returns-in_err-counts g c = λ a b first second inputs.
    let d : Seen = seen g.D.Shelf c.args.depot.now in
    let f : Seen = seen g.D.Shelf c.count_all.new.depot in
    let why = c.in_err-counts.field-0.0 in
    ran_list inputs a f c.from_residual.result (listed_heads a b d f c.args.table.now c.args.names.now c.args.names.now first second refl c.in_err-counts.ensures.heads)
    (handed IsListed SegmentsRefuse StoreFiles a f c.from_residual.result why c.from_residual.ensures.1
    (err_after _ IsListed a d f why (reads_then a b d first.reads second.reads) (logs_then a.log b.log d.log (more_opened a.log b.log first.log) (more_opened b.log d.log second.log)) c.in_err-counts.ensures.looks))

pub returns-in_err-list_text : goal.returns-in_err-list_text
returns-in_err-list_text g c = λ a b first second inputs.
    let d : Seen = seen g.D.Shelf c.args.depot.now in
    let f : Seen = seen g.D.Shelf c.count_all.new.depot in
    let third = c.in_ok-counts.ensures.looks in
    ran_list inputs a f c.from_residual-in_err-list_text.result (listed_heads a b d f c.args.table.now c.args.names.now c.args.names.now first second refl c.in_ok-counts.ensures.heads)
    (handed IsListed SegmentsRefuse StoreFiles a f c.from_residual-in_err-list_text.result _ c.from_residual-in_err-list_text.ensures.1
    (no_memory IsListed SegmentsRefuse StoreFiles a f (reads_then a d f (reads_then a b d first.reads second.reads) third.reads)
    (logs_then a.log d.log f.log (logs_then a.log b.log d.log (more_opened a.log b.log first.log) (more_opened b.log d.log second.log)) third.log)))

pub returns : goal.returns
returns g c = λ a b first second inputs.
    let d : Seen = seen g.D.Shelf c.args.depot.now in
    let f : Seen = seen g.D.Shelf c.count_all.new.depot in
    let third = c.in_ok-counts.ensures.looks in
    ran_list inputs a f _ (listed_heads a b d f c.args.table.now c.args.names.now c.args.names.now first second refl c.in_ok-counts.ensures.heads) (record {
      reads = reads_then a d f (reads_then a b d first.reads second.reads) third.reads;
      log = logs_then a.log d.log f.log (logs_then a.log b.log d.log (more_opened a.log b.log first.log) (more_opened b.log d.log second.log)) third.log;
      found = listed_so a.held b.held d.held f.held c.args.table.now c.args.names.now c.in_ok-counts.counts _ first.reads.held second.reads.held
          (c.in_ok-list_text.ensures ∙ ap (list_text c.args.names.now) c.as_slice.ensures) first.found second.found third.found;
      stops = tt;
    })
