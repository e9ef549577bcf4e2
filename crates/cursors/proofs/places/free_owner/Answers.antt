use Rattle.std.proofs.Common.{◌≤◌, ℕ, List, arith, length, map, ◌∙◌}
use Rattle.std.proofs.lemmas.List.{length-map}
use Rattle.cursors.specs.declared.cursor.Cursor.{Cursor}
use Rattle.cursors.proofs.OwnerLemmas.{all_below, any_owner}
use Rattle.cursors.proofs.places.free_owner.Goals as goal

pub unreachable-requires : goal.unreachable-requires
unreachable-requires c =
    let owners : List ℕ = map (λ (cursor : Cursor). cursor.owner) c.args.cursors.now in
    let many : 16 ≤ length owners = all_below 16 owners (λ k lt. any_owner k c.args.cursors.now ∙ c.owners.invariant.taken k (let le = c.owners-test.false in omega (arith, lt, le))) in
    let long = length-map c.args.cursors.now (λ (cursor : Cursor). cursor.owner) in
    let few = c.requires in
    omega (arith, many, long, few)
