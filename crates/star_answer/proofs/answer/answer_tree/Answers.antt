use Rattle.std.proofs.Common.{◌≡◌, ◌∙◌, ◌≤◌, ◌-◌, ℕ, Err, inl, length, ap, sym, subst, arith}
use Rattle.outside.proofs.ReadLemmas.{on-err}
use Rattle.std.specs.Prelude.{slice_index_or}
use Rattle.std.proofs.lemmas.List.{length-map}
use Rattle.agg_laws.specs.declared.aggregate_kind.AggKind.TheVariants as kinds
use Rattle.agg_laws.specs.Numbers.{most_values}
use Rattle.agg_laws.specs.Merged.{weights}
use Rattle.agg_laws.specs.Rows.{row_weight}
use Rattle.star_table.specs.declared.star_table.StarTable.{StarTable}
use Rattle.group_table.specs.Kept.{groups_in}
use Rattle.scan_engine.proofs.AddLemmas.{at_most_more}
use Rattle.star_walk.specs.Images.{AreWithin, read_of}
use Rattle.star_walk.specs.Coalescing.{coalesced}
use Rattle.star_reader.specs.Answers.{LogsSome, picks_of, reads_of}
use Rattle.star_reader.specs.declared.fault.AnswerFault.{AnswerFault}
use Rattle.star_reader.specs.declared.fault.AnswerFault.TheVariants.{BadDocs}
use Rattle.star_answer.proofs.AnswerSteps as steps
use Rattle.star_reader.proofs.FaultSteps.{same_fault}
use Rattle.group_table.specs.Pooled.{in_pool}
use Rattle.star_answer.proofs.answer.answer_tree.Goals as goal

pub returns-in_err-picks-clause-log_of_fault : goal.returns-in_err-picks-clause-log_of_fault
returns-in_err-picks-clause-log_of_fault g c =
    let log = g.S.Shelf.log c.args.shelf.now in
    on-err c.from_residual.result (LogsSome c.args.tree.now (reads_of c.args.tree.now c.args.task.now) log log)
    (steps.nothing_logged c.args.tree.now c.args.task.now c.requires.room.tree
    c.walkable_law.ensures.within log)

pub returns-in_err-picks-2-clause-log_of_fault : goal.returns-in_err-picks-2-clause-log_of_fault
returns-in_err-picks-2-clause-log_of_fault g c =
    let log = g.S.Shelf.log c.args.shelf.now in
    on-err c.from_residual-in_err-picks-2.result (LogsSome c.args.tree.now (reads_of c.args.tree.now c.args.task.now) log log)
    (steps.nothing_logged c.args.tree.now c.args.task.now c.requires.room.tree
    c.walkable_law.ensures.within log)

pub returns-in_default-clause-bad : goal.returns-in_default-clause-bad
returns-in_default-clause-bad g c is =
    let reads : c.as_slice.result.now ≡ reads_of c.args.tree.now c.args.task.now = c.as_slice.ensures
    ∙ c.in_ok-picks-2.ensures ∙ ap coalesced c.in_ok-picks.ensures in
    let many = steps.reads_many c.args.tree.now c.args.task.now c.requires.room.tree
    c.walkable_law.ensures.within c.coalesced_law.ensures.read c.as_slice.result.now reads in
    inl (omega (arith, c.in_default.ensures, many))

pub returns-in_default-clause-log_of_fault : goal.returns-in_default-clause-log_of_fault
returns-in_default-clause-log_of_fault g c =
    steps.nothing_logged c.args.tree.now c.args.task.now c.requires.room.tree
    c.walkable_law.ensures.within (g.S.Shelf.log c.args.shelf.now)

pub take_picks-requires : goal.take_picks-requires
take_picks-requires g c =
    let reads : c.as_slice-2.result.now ≡ reads_of c.args.tree.now c.args.task.now = c.as_slice-2.ensures
    ∙ c.in_ok-picks-2.ensures ∙ ap coalesced c.in_ok-picks.ensures in
    let same : c.as_slice-2.result.now ≡ c.as_slice.result.now = c.as_slice-2.ensures ∙ sym c.as_slice.ensures in
    let many : read_of c.as_slice-2.result.now ≡ read_of c.as_slice.result.now = ap read_of same in
    record {
      tree = c.requires.room.tree;
      asked = c.requires.room.asked;
      within = (
        c.requires.room.tree.documents,
        subst (AreWithin c.requires.room.tree.documents (length c.args.task.now.matched)) (sym reads)
            (steps.reads_within c.args.tree.now c.args.task.now c.requires.room.tree
            c.walkable_law.ensures.within),
      );
      at_most = omega (arith, many, c.in-Some.ensures.0, c.in-Some.ensures.1);
      few_rows = c.requires.room.few_rows;
    }

pub returns-in-Err-clause-bad : goal.returns-in-Err-clause-bad
returns-in-Err-clause-bad g c is =
    let reads : c.as_slice-2.result.now ≡ reads_of c.args.tree.now c.args.task.now = c.as_slice-2.ensures
    ∙ c.in_ok-picks-2.ensures ∙ ap coalesced c.in_ok-picks.ensures in
    steps.bad_so c.args.tree.now c.args.task.now c.args.asked.now c.args.rows
    (g.S.Shelf.held c.args.shelf.now) c.as_slice-2.result.now reads
    (c.in-Err.ensures.bad (same_fault ℕ StarTable AnswerFault c.in-Err.fault BadDocs is))

pub merge_documents-requires-clause-merges : goal.merge_documents-requires-clause-merges
merge_documents-requires-clause-merges g c =
    let selected = c.in-Ok.ensures.selected.selected in
    let weight_fits = selected.may.weight_fits in
    let few_rows = c.requires.room.few_rows in
    record {
      dims = selected.dims;
      few_columns = c.requires.room.asked.few_columns;
      keyed = selected.may.keyed;
      weight_fits = omega (arith, weight_fits, few_rows);
      few_kinds =
          let many = ap length selected.kinds ∙ length-map c.args.asked.now.pairs.now (λ pair. slice_index_or c.args.tree.now.shape.now.kinds pair kinds.Count) in
          omega (arith, many, c.requires.room.asked.few_pairs);
      as_many = c.requires.room.table.columns;
      kinds = c.requires.room.table.kinds ∙ sym selected.kinds;
      fits = at_most_more (groups_in (in_pool c.args.groups.now c.args.pool.now)) (most_values - c.args.rows)
          (most_values - weights row_weight c.in-Ok.selected.docs) (omega (arith, weight_fits)) c.requires.room.fits;
    }

pub returns-in-Ok-merge_documents-clause-count : goal.returns-in-Ok-merge_documents-clause-count
returns-in-Ok-merge_documents-clause-count g c =
    let reads : c.as_slice.result.now ≡ reads_of c.args.tree.now c.args.task.now = c.as_slice.ensures
    ∙ c.in_ok-picks-2.ensures ∙ ap coalesced c.in_ok-picks.ensures in
    c.in-Some.ensures.0
    ∙ steps.reads_many c.args.tree.now c.args.task.now c.requires.room.tree
    c.walkable_law.ensures.within c.coalesced_law.ensures.read c.as_slice.result.now reads

pub returns-in-Ok-merge_documents-clause-ok : goal.returns-in-Ok-merge_documents-clause-ok
returns-in-Ok-merge_documents-clause-ok g c =
    let counted : c.as_slice.result.now ≡ reads_of c.args.tree.now c.args.task.now = c.as_slice.ensures
    ∙ c.in_ok-picks-2.ensures ∙ ap coalesced c.in_ok-picks.ensures in
    let reads : c.as_slice-2.result.now ≡ reads_of c.args.tree.now c.args.task.now = c.as_slice-2.ensures
    ∙ c.in_ok-picks-2.ensures ∙ ap coalesced c.in_ok-picks.ensures in
    let many = steps.reads_many c.args.tree.now c.args.task.now c.requires.room.tree
    c.walkable_law.ensures.within c.coalesced_law.ensures.read c.as_slice.result.now counted in
    let at_most : read_of (picks_of c.args.tree.now c.args.task.now) ≤ c.args.rows =
    omega (arith, many, c.in-Some.ensures.0, c.in-Some.ensures.1) in
    steps.answers c.args.tree.now c.args.task.now c.args.asked.now c.args.rows
    (g.S.Shelf.held c.args.shelf.now) c.as_slice-2.result.now reads c.in-Ok.selected
    c.in-Ok.ensures.selected (in_pool c.args.groups.now c.args.pool.now) (in_pool c.merge_documents.new.groups c.merge_documents.new.pool) at_most
    c.in-Ok-merge_documents.ensures.ok

pub returns-in-Err-TooManyGroups-clause-full : goal.returns-in-Err-TooManyGroups-clause-full
returns-in-Err-TooManyGroups-clause-full g c is =
    let reads : c.as_slice-2.result.now ≡ reads_of c.args.tree.now c.args.task.now = c.as_slice-2.ensures
    ∙ c.in_ok-picks-2.ensures ∙ ap coalesced c.in_ok-picks.ensures in
    let full = ap Err c.in-Err-TooManyGroups.field-0-is in
    record {
      over = steps.over c.args.tree.now c.args.task.now c.args.asked.now c.args.rows
          (g.S.Shelf.held c.args.shelf.now) c.as_slice-2.result.now reads c.in-Ok.selected
          c.in-Ok.ensures.selected (in_pool c.args.groups.now c.args.pool.now)
          (c.in-Err-TooManyGroups.ensures.full full);
      filled = c.in-Err-TooManyGroups.ensures.filled full;
    }

pub returns-in-Err-TooManyGroups-clause-log_of_fault : goal.returns-in-Err-TooManyGroups-clause-log_of_fault
returns-in-Err-TooManyGroups-clause-log_of_fault g c =
    let reads : c.as_slice-2.result.now ≡ reads_of c.args.tree.now c.args.task.now = c.as_slice-2.ensures
    ∙ c.in_ok-picks-2.ensures ∙ ap coalesced c.in_ok-picks.ensures in
    steps.logged_some c.args.tree.now c.as_slice-2.result.now
    (reads_of c.args.tree.now c.args.task.now) (g.S.Shelf.log c.args.shelf.now)
    (g.S.Shelf.log c.take_picks.new.shelf) reads c.in-Ok.ensures.log

pub returns-clause-log_of_fault : goal.returns-clause-log_of_fault
returns-clause-log_of_fault g c =
    let reads : c.as_slice-2.result.now ≡ reads_of c.args.tree.now c.args.task.now = c.as_slice-2.ensures
    ∙ c.in_ok-picks-2.ensures ∙ ap coalesced c.in_ok-picks.ensures in
    steps.logged_some c.args.tree.now c.as_slice-2.result.now
    (reads_of c.args.tree.now c.args.task.now) (g.S.Shelf.log c.args.shelf.now)
    (g.S.Shelf.log c.take_picks.new.shelf) reads c.in-Ok.ensures.log
