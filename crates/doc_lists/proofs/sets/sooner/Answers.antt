use Rattle.std.proofs.Common.{◌≡◌, ◌<◌, inl, inr, arith, length, rules}
use Rattle.doc_lists.proofs.Sweep.{is_sooner_ours, is_sooner_theirs}
use Rattle.doc_lists.proofs.sets.sooner.Goals as goal

pub returns-then-is_empty : goal.returns-then-is_empty
returns-then-is_empty c =
    let none : length c.args.theirs.now ≡ 0 = search rules in
    let some : 0 < length c.args.ours.now = search rules in
    λ start remain aside. is_sooner_ours start c.args.ours.now c.args.theirs.now (record { first = 0; last = 0 }) some (inl none) remain aside

pub returns-then-is_empty-2 : goal.returns-then-is_empty-2
returns-then-is_empty-2 c =
    let none : length c.args.ours.now ≡ 0 = search rules in
    let some : 0 < length c.args.theirs.now = search rules in
    λ start remain aside. is_sooner_theirs start c.args.ours.now c.args.theirs.now (record { first = 0; last = 0 }) some (inl none) remain aside

pub returns-then-ours-theirs : goal.returns-then-ours-theirs
returns-then-ours-theirs c =
    let some : 0 < length c.args.ours.now = search rules in
    let any : 0 < length c.args.theirs.now = search rules in
    λ start remain aside. is_sooner_ours start c.args.ours.now c.args.theirs.now (record { first = 0; last = 0 }) some (inr (any, c.if-ours-theirs.true)) remain aside

pub returns-else-ours-theirs : goal.returns-else-ours-theirs
returns-else-ours-theirs c =
    let some : 0 < length c.args.ours.now = search rules in
    let any : 0 < length c.args.theirs.now = search rules in
    λ start remain aside. is_sooner_theirs start c.args.ours.now c.args.theirs.now (record { first = 0; last = 0 }) any (inr (some, omega (arith, c.if-ours-theirs.false))) remain aside
