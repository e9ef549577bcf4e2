use Rattle.std.proofs.Common.{◌≡◌, ◌∙◌, ◌≤◌, ◌+◌, ℕ, length, ap, subst, arith, length-take}
use Rattle.std.proofs.lemmas.List.{length-map}
use Rattle.csv_ingest.specs.Kept.{Grown}
use Rattle.csv_ingest.proofs.KeptLemmas.{zeros-none, zeros-step}
use Rattle.csv_ingest.proofs.kept_columns.push_zeros.Goals as goal

pub zeros-init : goal.zeros-init
zeros-init c = (0, omega (arith), zeros-none c.args.column.now)

pub push_wholes-requires : goal.push_wholes-requires
push_wholes-requires c = ap (λ t. t.are_texts) c.zeros.invariant.2.new_is ∙ c.requires

pub zeros-preserved : goal.zeros-preserved
zeros-preserved c =
    let within : c.min-count.result ≤ c.zeros.left = omega (arith, c.min-count.ensures) in
    zeros-step c.args.rows c.zeros.left c.min-count.result c.zeros.invariant.0 c.args.column.now c.zeros.column c.push_wholes.new.self _ c.zeros.invariant.1 within (length-map _ _ ∙ length-take _ _ ∙ omega (arith, c.min-count.ensures)) c.requires c.zeros.invariant.2 c.in_ok-push_wholes.ensures

pub returns : goal.returns
returns c = subst (λ n. Grown n c.args.column.now c.zeros.column) (omega (arith, c.zeros.invariant.1, c.zeros-test.false)) c.zeros.invariant.2
