use Rattle.std.proofs.Common.{◌≡◌, ◌∙◌, ◌+◌, ◌||◌, ℕ, List, false, ap, get_or, length, take, subst, sym, arith}
use Rattle.std.proofs.lemmas.Bool.{OnTrue_from, eqb-true}
use Rattle.std.proofs.lemmas.List.{take_all}
use Rattle.value_ids.specs.Ids.{has_id}
use Rattle.coded_columns.specs.Ids.{seen_ids}
use Rattle.coded_scan.specs.Marks.{AreMarks, is_between}
use Rattle.coded_scan.proofs.MarkSteps.{are-same}
use Rattle.coded_scan.proofs.marking.mark_runs.Goals as goal

pub loop-init : goal.loop-init
loop-init c = record {
  within = omega arith;
  marks = subst (λ n. AreMarks n (λ row. false) c.mark_same.new.words) c.count.ensures c.mark_same.ensures;
}

pub loop-preserved : goal.loop-preserved
loop-preserved c =
    let seen : List ℕ = seen_ids c.args.ids in
    let matching : List ℕ = c.args.matching.now in
    let start : ℕ = c.loop.start in
    let run = c.run_at-run.result in
    let next : start + run.more + 1 ≡ start + (run.more + 1) = omega arith in
    record {
      within = omega (arith, c.run_at-run.ensures.within);
      marks = are-same (length seen) (λ row. has_id (take start matching) (get_or seen row 0) || is_between run.first (run.first + run.more) (get_or seen row 0))
          (λ row. has_id (take (start + (run.more + 1)) matching) (get_or seen row 0)) c.add_run.new.words
          (λ row lt. sym (c.run_at-run.ensures.each (get_or seen row 0)) ∙ ap (λ n. has_id (take n matching) (get_or seen row 0)) next)
          (c.add_run.ensures (λ row. has_id (take start matching) (get_or seen row 0)) c.loop.invariant.marks);
    }

pub returns : goal.returns
returns c = OnTrue_from _ _ (λ all.
    let matching : List ℕ = c.args.matching.now in
    let end : c.loop.start ≡ length matching = eqb-true c.loop.start (length matching) all in
    subst (λ (ids : List ℕ). AreMarks (length (seen_ids c.args.ids)) (λ row. has_id ids (get_or (seen_ids c.args.ids) row 0)) c.loop.words)
    (take_all c.loop.start matching (omega (arith, end))) c.loop.invariant.marks)
