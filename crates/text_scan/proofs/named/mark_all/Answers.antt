use Rattle.std.proofs.Common.{◌≡◌, ℕ, List, true, get_or, subst}
use Rattle.std.specs.List.{All}
use Rattle.table_schema.specs.declared.query.Agg.{Agg}
use Rattle.table_schema.specs.declared.query.Conjunct.{Conjunct}
use Rattle.text_scan.specs.Named.{IsAggMarked, IsTestMarked, is_marked}
use Rattle.text_scan.proofs.NamedLemmas.{test-stays}
use Rattle.text_scan.proofs.named.mark_all.Goals as goal

pub returns : goal.returns
returns c = λ _.
    let q = c.args.query.now in
    let first = c.mark_conjuncts.new.marks in
    let mid = c.mark_groups.new.marks in
    let last = c.mark_aggs.new.marks in
    let conjuncts : All (IsTestMarked first) q.conjuncts = subst (λ (xs : List Conjunct). All (IsTestMarked first) xs) c.as_slice-conjuncts.ensures (c.mark_conjuncts.ensures c.if-not-mark_conjuncts.false) in
    let groups : All (λ (column : ℕ). is_marked mid column ≡ true) q.groups = subst (λ (xs : List ℕ). All (λ (column : ℕ). is_marked mid column ≡ true) xs) c.as_slice-groups.ensures c.mark_groups.ensures.marked in
    record {
      conjuncts = λ k d lt. test-stays mid last c.mark_aggs.ensures.stay (get_or q.conjuncts k d) (test-stays first mid c.mark_groups.ensures.stay (get_or q.conjuncts k d) (conjuncts k d lt));
      groups = λ k d lt. c.mark_aggs.ensures.stay (get_or q.groups k d) (groups k d lt);
      aggs = subst (λ (xs : List Agg). All (IsAggMarked last) xs) c.as_slice-aggs.ensures c.mark_aggs.ensures.marked;
    }
