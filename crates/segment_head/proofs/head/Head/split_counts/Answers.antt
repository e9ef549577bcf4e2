use Rattle.std.proofs.Common.{◌≡◌, ◌∙◌, ◌<◌, ◌+◌, [], ◌∷◌, All, length, get_or, refl, sym, ap, subst, arith, length-append, take}
use Rattle.std.proofs.lemmas.List.{take_all}
use Rattle.std.proofs.lemmas.Option.{slice_get-get_or}
use Rattle.outside.specs.Seen.{seen}
use Rattle.outside.proofs.SeenLemmas.{reads_none}
use Rattle.segment_head.specs.Calls.{IsSplitPart}
use Rattle.segment_head.specs.Heads.{HasCount, HaveCounts, LogsCount, LogsCounts, OfWhole, split_of}
use Rattle.segment_file.proofs.Faults.{growth_bad, growth_ok, growth_reads, reads_ended}
use Rattle.segment_head.proofs.TreeChecks.{split_known}
use Rattle.segment_head.proofs.TreeSteps.{counts_push, logs_none, logs_push, logs_stop, reads_err, reads_ok, split_is}
use Rattle.segment_head.proofs.head.Head.split_counts.Goals as goal

pub returns-in_err-counts-clause-log : goal.returns-in_err-counts-clause-log
returns-in_err-counts-clause-log g c = logs_none c.args.self.now (split_of c.args.table.now c.args.tree) (g.S.Shelf.log c.args.shelf.now)

pub count-requires : goal.count-requires
count-requires g c =
    let table = c.args.table.now in
    let column =
    subst (All (λ x. x < length table.schema.fields)) (sym c.as_slice-split.ensures) (split_known table c.args.tree c.at.result.now c.requires.valid c.at.ensures) c.loop-column.column-index 0 c.loop-column-test.true in
    record { opened = c.requires.opened; column = column }

pub returns-in_err-keep-in-Ok-clause-log : goal.returns-in_err-keep-in-Ok-clause-log
returns-in_err-keep-in-Ok-clause-log g c =
    let table = c.args.table.now in
    let head = c.args.self.now in
    let split = c.as_slice-split.result.now in
    let i = c.loop-column.column-index in
    let column = get_or split i 0 in
    let split_are : split ≡ split_of table c.args.tree = c.as_slice-split.ensures ∙ sym (split_is table c.args.tree c.at.result.now c.at.ensures) in
    let first = g.S.Shelf.log c.args.shelf.now in
    let between = g.S.Shelf.log c.loop-column.shelf in
    let last = g.S.Shelf.log c.count.new.shelf in
    let one : LogsCount head column between last = record { unchanged = c.in-Ok.ensures.unchanged; first = c.in-Ok.ensures.log } in
    subst (λ xs. LogsCounts head xs first last) split_are (logs_stop head split (i + 1) first last (logs_push head split i column first between last c.loop-column-test.true refl c.loop-column.invariant.log one))

pub returns-in-Err-clause-reads : goal.returns-in-Err-clause-reads
returns-in-Err-clause-reads g c = record {
  told = tt;
  refused = λ p is. subst (λ h. OfWhole c.args.table.now h c.args.self.now (λ _. ⊥)) c.loop-column.invariant.reads.held (c.in-Err.ensures.reads.refused p is);
  only_reads = reads_err c.in-Err.fault (seen g.S.Shelf c.args.shelf.now) (seen g.S.Shelf c.loop-column.shelf) (seen g.S.Shelf c.count.new.shelf) c.loop-column.invariant.reads c.in-Err.ensures.reads.only_reads;
}

pub returns-in-Err-clause-log : goal.returns-in-Err-clause-log
returns-in-Err-clause-log g c =
    let table = c.args.table.now in
    let head = c.args.self.now in
    let split = c.as_slice-split.result.now in
    let i = c.loop-column.column-index in
    let column = get_or split i 0 in
    let split_are : split ≡ split_of table c.args.tree = c.as_slice-split.ensures ∙ sym (split_is table c.args.tree c.at.result.now c.at.ensures) in
    let first = g.S.Shelf.log c.args.shelf.now in
    let between = g.S.Shelf.log c.loop-column.shelf in
    let last = g.S.Shelf.log c.count.new.shelf in
    let one : LogsCount head column between last = record { unchanged = c.in-Err.ensures.unchanged; first = c.in-Err.ensures.log } in
    subst (λ xs. LogsCounts head xs first last) split_are (logs_stop head split (i + 1) first last (logs_push head split i column first between last c.loop-column-test.true refl c.loop-column.invariant.log one))

pub loop-column-preserved : goal.loop-column-preserved
loop-column-preserved g c =
    let table = c.args.table.now in
    let head = c.args.self.now in
    let split = c.as_slice-split.result.now in
    let i = c.loop-column.column-index in
    let column = get_or split i 0 in
    let split_are : split ≡ split_of table c.args.tree = c.as_slice-split.ensures ∙ sym (split_is table c.args.tree c.at.result.now c.at.ensures) in
    let first = g.S.Shelf.log c.args.shelf.now in
    let between = g.S.Shelf.log c.loop-column.shelf in
    let last = g.S.Shelf.log c.count.new.shelf in
    let one : LogsCount head column between last = record { unchanged = c.in-Ok.ensures.unchanged; first = c.in-Ok.ensures.log } in
    let held = g.S.Shelf.held c.args.shelf.now in
    let n = c.in-Ok.count in
    let counts = c.loop-column.counts.items in
    record {
      counts = counts_push table head held split counts c.keep.new.counts.items i column n c.loop-column-test.true refl c.in_ok-keep-in-Ok.ensures c.loop-column.invariant.counts
          (subst (λ h. OfWhole table h head (HasCount column n)) c.loop-column.invariant.reads.held c.in-Ok.ensures.reads.told);
      number = omega (arith, ap length c.in_ok-keep-in-Ok.ensures, length-append counts (n ∷ []), c.loop-column.invariant.number);
      reads = reads_ok n (seen g.S.Shelf c.args.shelf.now) (seen g.S.Shelf c.loop-column.shelf) (seen g.S.Shelf c.count.new.shelf) c.loop-column.invariant.reads c.in-Ok.ensures.reads.only_reads;
      log = logs_push head split i column first between last c.loop-column-test.true refl c.loop-column.invariant.log one;
    }

pub returns-in_err-counts-clause-reads : goal.returns-in_err-counts-clause-reads
returns-in_err-counts-clause-reads g c = record {
  told = growth_ok (λ counts. OfWhole c.args.table.now (g.S.Shelf.held c.args.shelf.now) c.args.self.now (HaveCounts (split_of c.args.table.now c.args.tree) counts.items)) c.from_residual.result c.from_residual.ensures;
  refused = growth_bad (λ p. OfWhole c.args.table.now (g.S.Shelf.held c.args.shelf.now) c.args.self.now (λ _. ⊥)) c.from_residual.result c.from_residual.ensures;
  only_reads = growth_reads c.from_residual.result (seen g.S.Shelf c.args.shelf.now) (seen g.S.Shelf c.args.shelf.now) c.from_residual.ensures (reads_none (seen g.S.Shelf c.args.shelf.now));
}

pub returns-in_err-counts-clause-each : goal.returns-in_err-counts-clause-each
returns-in_err-counts-clause-each g c = growth_ok (λ counts. length counts.items ≡ length (split_of c.args.table.now c.args.tree)) c.from_residual.result c.from_residual.ensures

pub returns-in_err-keep-in-Ok-clause-reads : goal.returns-in_err-keep-in-Ok-clause-reads
returns-in_err-keep-in-Ok-clause-reads g c = record {
  told = growth_ok (λ counts. OfWhole c.args.table.now (g.S.Shelf.held c.args.shelf.now) c.args.self.now (HaveCounts (split_of c.args.table.now c.args.tree) counts.items)) c.from_residual-in_err-keep-in-Ok.result c.from_residual-in_err-keep-in-Ok.ensures;
  refused = growth_bad (λ p. OfWhole c.args.table.now (g.S.Shelf.held c.args.shelf.now) c.args.self.now (λ _. ⊥)) c.from_residual-in_err-keep-in-Ok.result c.from_residual-in_err-keep-in-Ok.ensures;
  only_reads = growth_reads c.from_residual-in_err-keep-in-Ok.result (seen g.S.Shelf c.args.shelf.now) (seen g.S.Shelf c.count.new.shelf) c.from_residual-in_err-keep-in-Ok.ensures (reads_ok c.in-Ok.count (seen g.S.Shelf c.args.shelf.now) (seen g.S.Shelf c.loop-column.shelf) (seen g.S.Shelf c.count.new.shelf) c.loop-column.invariant.reads c.in-Ok.ensures.reads.only_reads);
}

pub returns-in_err-keep-in-Ok-clause-each : goal.returns-in_err-keep-in-Ok-clause-each
returns-in_err-keep-in-Ok-clause-each g c = growth_ok (λ counts. length counts.items ≡ length (split_of c.args.table.now c.args.tree)) c.from_residual-in_err-keep-in-Ok.result c.from_residual-in_err-keep-in-Ok.ensures

pub returns-in-Err-clause-each : goal.returns-in-Err-clause-each
returns-in-Err-clause-each g c = tt

pub returns : goal.returns
returns g c =
    let table = c.args.table.now in
    let head = c.args.self.now in
    let split = c.as_slice-split.result.now in
    let old = seen g.S.Shelf c.args.shelf.now in
    let last = seen g.S.Shelf c.loop-column.shelf in
    let counts = c.loop-column.counts in
    let so_far = c.loop-column.invariant in
    let split_are : split ≡ split_of table c.args.tree = c.as_slice-split.ensures ∙ sym (split_is table c.args.tree c.at.result.now c.at.ensures) in
    let all : take c.loop-column.column-index split ≡ split_of table c.args.tree = take_all c.loop-column.column-index split c.loop-column-test.false ∙ split_are in
    let ended : c.loop-column.column-index ≡ length split = omega (arith, c.loop-column-test.false, c.loop-column.auto.column-index-end) in
    record {
      reads = record {
        told = subst (λ xs. OfWhole table old.held head (HaveCounts xs counts.items)) all so_far.counts;
        refused = tt;
        only_reads = reads_ended counts old last so_far.reads;
      };
      each = so_far.number ∙ ended ∙ ap length split_are;
      part = tt;
      log = subst (λ xs. LogsCounts head xs old.log last.log) all so_far.log;
    }

pub returns-in_err-counts-clause-part : goal.returns-in_err-counts-clause-part
returns-in_err-counts-clause-part g c =
    growth_bad (IsSplitPart (split_of c.args.table.now c.args.tree)) c.from_residual.result c.from_residual.ensures

pub returns-in_err-keep-in-Ok-clause-part : goal.returns-in_err-keep-in-Ok-clause-part
returns-in_err-keep-in-Ok-clause-part g c =
    growth_bad (IsSplitPart (split_of c.args.table.now c.args.tree)) c.from_residual-in_err-keep-in-Ok.result c.from_residual-in_err-keep-in-Ok.ensures

pub returns-in-Err-clause-part : goal.returns-in-Err-clause-part
returns-in-Err-clause-part g c = λ p is.
    let table = c.args.table.now in
    let split = c.as_slice-split.result.now in
    let i = c.loop-column.column-index in
    let split_are : split ≡ split_of table c.args.tree = c.as_slice-split.ensures ∙ sym (split_is table c.args.tree c.at.result.now c.at.ensures) in
    subst (λ xs. IsSplitPart xs p) split_are (record {
      level = i;
      column = get_or split i 0;
      at = slice_get-get_or split i 0 c.loop-column-test.true;
      own = c.in-Err.ensures.part p is;
    })
