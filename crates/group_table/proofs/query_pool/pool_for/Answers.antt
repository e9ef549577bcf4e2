use Rattle.std.proofs.Common.{◌≡◌, ◌∙◌, ◌≤◌, ◌<◌, ℕ, List, [], ◌∷◌, length, map, get_or, sym, ap, subst, arith, rules}
use Rattle.std.proofs.lemmas.Result.{IfOk-weaker}
use Rattle.std.specs.FinMap as finite
use Rattle.std.specs.Ordering.{nat_cmp}
use Rattle.agg_laws.specs.declared.states.AggState.{AggState}
use Rattle.group_table.specs.QueryPool.{Limits}
use Rattle.group_table.proofs.query_pool.pool_for.Goals as goal

pub returns : goal.returns
returns c =
    let kinds = c.in_ok-kinds.ensures ∙ ap (map (λ agg. agg.kind)) c.as_slice.ensures in
    IfOk-weaker c.with_slots.result _ _ (λ pool new.
    let quotas : pool.quotas ≡ c.quota_for.result ∷ [] = search (rules, new.quotas_are) in
    let there : 0 < length (c.quota_for.result ∷ []) = omega arith in
    record {
      one = ap length quotas;
      kinds = new.kinds_are 0 (search rules) ∙ kinds;
      none = ap finite.len (new.none_out 0) ∙ finite.len-empty nat_cmp (List AggState);
      some = subst (λ (qs : List ℕ). 1 ≤ get_or qs 0 0) (sym quotas) c.quota_for.ensures.some;
      limits = subst (λ (qs : List ℕ). Limits c.args.query.now c.args.most (get_or qs 0 0)) (sym quotas) c.quota_for.ensures.limits;
    }) c.with_slots.ensures
