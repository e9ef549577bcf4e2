use Rattle.std.proofs.Common.{◌∙◌, length, ap}
use Rattle.std.proofs.lemmas.List.{length-replicate}
use Rattle.agg_laws.specs.declared.aggregate_kind.AggKind.{AggKind}
use Rattle.agg_laws.specs.declared.aggregate_kind.AggKind.TheVariants.{Count}
use Rattle.query_executor.proofs.EndLemmas.{found_so}
use Rattle.cursors.specs.Kept.{IsEmptyPool}
use Rattle.cursors.proofs.NewLemmas.{empty_pool}
use Rattle.cursors.proofs.opening.cursor_pool.Goals as goal

pub returns : goal.returns
returns c =
    found_so c.with_slots.result _ IsEmptyPool (λ pool new. empty_pool _ _ pool (ap length (c.from_vec-kinds.ensures ∙ c.in_ok-vec.ensures.items_if_clones_equal (λ y e. e)) ∙ length-replicate {A = AggKind} 16 Count)
    (c.from_vec-quotas.ensures ∙ c.in_ok-vec-2.ensures.items_if_clones_equal (λ y e. e)) new) c.with_slots.ensures
