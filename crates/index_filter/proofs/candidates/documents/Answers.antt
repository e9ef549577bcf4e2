use Rattle.std.proofs.Common.{rules, ◌≡◌, ◌+◌, ℕ, suc, List, Option, length, take, refl, sym, subst, arith}
use Rattle.outside.specs.Files.{Files}
use Rattle.outside.specs.Seen.{seen}
use Rattle.outside.proofs.SeenLemmas.{reads_none, reads_next}
use Rattle.table_schema.specs.declared.query.Conjunct.{Conjunct}
use Rattle.segment_head.specs.Heads.{Seen}
use Rattle.segment_plan.specs.declared.plans.IndexChoice.{IndexChoice}
use Rattle.index_filter.specs.Indexes.{AddsUnsure, IsBadIndex, IsReady, Leaves, LeavesBy, LogsAt, LogsAtPartly, LogsIndexed, LogsIndexedPartly}
use Rattle.outside.specs.Series.{LogsTo}
use Rattle.segment_plan.specs.Served.{choice_at}
use Rattle.segment_plan.specs.RowsLeft.{indexed}
use Rattle.segment_head.specs.declared.fault.EngineFault.{EngineFault}
use Rattle.segment_head.specs.declared.fault.EngineFault.TheVariants.{ReadFault}
use Rattle.index_filter.proofs.LeftLemmas.{item_at, left_next, logs_at, logs_at_partly, none_indexed, unsure_next, unsure_none}
use Rattle.outside.proofs.SeriesLemmas.{series_more, series_part}
use Rattle.index_filter.proofs.candidates.documents.Goals as goal

pub loop-at-init : goal.loop-at-init
loop-at-init g c = record { docs = none_indexed c.args.choices.now; unsure = unsure_none c.args.head.now c.args.choices.now c.args.conjuncts.now (g.S.Shelf.held c.args.shelf.now) c.args.unsure.now; only_reads = reads_none (seen g.S.Shelf c.args.shelf.now); log = refl }

pub docs_by-requires : goal.docs_by-requires
docs_by-requires g c =
    let x : Conjunct = c.index-conjuncts-at.result in
    record {
      rows = c.requires.rows;
      ready = subst (λ ch. IsReady c.args.head.now ch x) (sym c.choice_at-choice.ensures) (c.requires.ready c.loop-at.at x (item_at c.args.conjuncts.now c.loop-at.at x c.loop-at-test.true c.index-conjuncts-at.is));
    }

pub returns-in-Err-clause-reads : goal.returns-in-Err-clause-reads
returns-in-Err-clause-reads g c = record {
  bad =
      λ part bad.
      let x : Conjunct = c.index-conjuncts-at.result in
      let head : Seen = c.args.head.now in
      let held : Option Files = g.S.Shelf.held c.args.shelf.now in (
        c.loop-at.at,
        x,
        item_at c.args.conjuncts.now c.loop-at.at x c.loop-at-test.true c.index-conjuncts-at.is,
        subst (λ ch. IsBadIndex held head part ch x) c.choice_at-choice.ensures (subst (λ h. IsBadIndex h head part c.choice_at-choice.result x) c.loop-at.invariant.only_reads.held (c.in-Err.ensures.reads.bad part bad)),
      );
  full = search rules;
  only_reads = search rules;
  log = tt;
  log_of_fault =
      let x : Conjunct = c.index-conjuncts-at.result in
      let i : ℕ = c.loop-at.at in
      let head : Seen = c.args.head.now in
      let choices : List IndexChoice = c.args.choices.now in
      let conjuncts : List Conjunct = c.args.conjuncts.now in
      let held : Option Files = g.S.Shelf.held c.args.shelf.now in
      let now : Option Files = g.S.Shelf.held c.loop-at.shelf in
      let mid = g.S.Shelf.log c.loop-at.shelf in
      let last = g.S.Shelf.log c.docs_by.new.shelf in
      series_part (LogsAt held head choices conjuncts) (LogsAtPartly held head choices conjuncts) (length conjuncts) i (g.S.Shelf.log c.args.shelf.now) mid last c.loop-at-test.true c.loop-at.invariant.log
      (logs_at_partly held head choices conjuncts now i x mid last c.loop-at.invariant.only_reads.held (item_at conjuncts i x c.loop-at-test.true c.index-conjuncts-at.is)
      (subst (λ ch. LogsIndexedPartly now head ch x mid last) c.choice_at-choice.ensures c.in-Err.ensures.reads.log_of_fault));
}

pub returns-in-Err-in_both-clause-reads : goal.returns-in-Err-in_both-clause-reads
returns-in-Err-in_both-clause-reads g c = record {
  bad = search rules;
  full = search rules;
  only_reads = search rules;
  log = tt;
  log_of_fault =
      let x : Conjunct = c.index-conjuncts-at.result in
      let i : ℕ = c.loop-at.at in
      let head : Seen = c.args.head.now in
      let choices : List IndexChoice = c.args.choices.now in
      let conjuncts : List Conjunct = c.args.conjuncts.now in
      let held : Option Files = g.S.Shelf.held c.args.shelf.now in
      let now : Option Files = g.S.Shelf.held c.loop-at.shelf in
      let mid = g.S.Shelf.log c.loop-at.shelf in
      let last = g.S.Shelf.log c.docs_by.new.shelf in
      series_more (LogsAt held head choices conjuncts) (LogsAtPartly held head choices conjuncts) (length conjuncts) i (g.S.Shelf.log c.args.shelf.now) mid last c.loop-at-test.true c.loop-at.invariant.log
      (logs_at held head choices conjuncts now i x mid last c.loop-at.invariant.only_reads.held (item_at conjuncts i x c.loop-at-test.true c.index-conjuncts-at.is)
      (subst (λ ch. LogsIndexed now head ch x mid last) c.choice_at-choice.ensures c.in-Ok.ensures.reads.log));
}

pub loop-at-preserved : goal.loop-at-preserved
loop-at-preserved g c =
    let x : Conjunct = c.index-conjuncts-at.result in
    let i : ℕ = c.loop-at.at in
    let head : Seen = c.args.head.now in
    let choices : List IndexChoice = c.args.choices.now in
    let conjuncts : List Conjunct = c.args.conjuncts.now in
    let held : Option Files = g.S.Shelf.held c.args.shelf.now in
    let now : Option Files = g.S.Shelf.held c.loop-at.shelf in
    let mid = g.S.Shelf.log c.loop-at.shelf in
    let last = g.S.Shelf.log c.docs_by.new.shelf in
    let at = item_at conjuncts i x c.loop-at-test.true c.index-conjuncts-at.is in
    let more : suc i ≡ i + 1 = omega arith in
    let adds : AddsUnsure held head (choice_at choices i) x c.loop-at.unsure c.docs_by.new.unsure =
    subst (λ ch. AddsUnsure held head ch x c.loop-at.unsure c.docs_by.new.unsure) c.choice_at-choice.ensures (subst (λ h. AddsUnsure h head c.choice_at-choice.result x c.loop-at.unsure c.docs_by.new.unsure) c.loop-at.invariant.only_reads.held c.in-Ok.ensures.unsure) in
    let by : LeavesBy held head (choice_at choices i) x c.in-Ok.more =
    subst (λ ch. LeavesBy held head ch x c.in-Ok.more) c.choice_at-choice.ensures (subst (λ h. LeavesBy h head c.choice_at-choice.result x c.in-Ok.more) c.loop-at.invariant.only_reads.held c.in-Ok.ensures.docs) in
    record {
      docs = subst (λ n. Leaves held head choices conjuncts (indexed choices (take n conjuncts)) c.in-Ok-in_both.docs) more
          (left_next held head choices conjuncts i x c.loop-at.docs c.in-Ok.more c.in-Ok-in_both.docs at c.loop-at.invariant.docs by c.in-Ok-in_both.ensures);
      unsure = unsure_next head choices conjuncts held i x c.loop-at.unsure c.docs_by.new.unsure at c.loop-at.invariant.unsure adds;
      only_reads = reads_next (Option (List ℕ)) EngineFault c.in-Ok.more ReadFault (seen g.S.Shelf c.args.shelf.now) (seen g.S.Shelf c.loop-at.shelf) (seen g.S.Shelf c.docs_by.new.shelf) c.loop-at.invariant.only_reads c.in-Ok.ensures.reads.only_reads;
      log = subst (λ n. LogsTo (LogsAt held head choices conjuncts) n (g.S.Shelf.log c.args.shelf.now) last) more (
        mid,
        c.loop-at.invariant.log,
        logs_at held head choices conjuncts now i x mid last c.loop-at.invariant.only_reads.held at (subst (λ ch. LogsIndexed now head ch x mid last) c.choice_at-choice.ensures c.in-Ok.ensures.reads.log),
      );
    }
