use Rattle.std.proofs.Common.{◌≡◌, ◌<◌, ◌-◌, ◌*◌, ℕ, All, IsTrue, List, arith, drop, length, take, rules, subst, sym}
use Rattle.std.proofs.lemmas.List.{length-drop, take-append-drop, take_all}
use Rattle.std.proofs.lemmas.List.Elements.{All-append, All-drop}
use Rattle.bit_column.proofs.narrowing.put_ids.Goals as goal

pub returns-clause-below : goal.returns-clause-below
returns-clause-below c =
    let below : ℕ → Type 0 = λ id. id < c.args.count in
    let many : ℕ = 8 * c.whole_groups-groups.result in
    let ids : List ℕ = c.put_rest-2.new.ids in
    let yes : IsTrue c.put_narrow_groups-below.result = search rules in
    let front : All below (take many ids) = subst (All below) (sym c.put_rest-2.ensures.kept) (c.put_narrow_groups-below.ensures.below.0 yes) in
    let whole : take (length ids - many) (drop many ids) ≡ drop many ids = take_all (length ids - many) (drop many ids) (omega (arith, length-drop many ids)) in (
      (λ rest. subst (All below) (take-append-drop many ids) (All-append below (take many ids) (drop many ids) front (subst (All below) whole (c.narrow_below-2.ensures.0 rest)))),
      (λ all. c.narrow_below-2.ensures.1 (subst (All below) (sym whole) (All-drop below many ids all))),
    )
