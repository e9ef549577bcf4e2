use Rattle.std.proofs.Common.{◌≡◌, ◌∙◌, position, Some, ap, sym}
use Rattle.std.specs.Map.{keys_of}
use Rattle.group_table.specs.Kept.{key_eq}
use Rattle.group_table.specs.Pooled.{PooledTable}
use Rattle.group_table.proofs.KeyPlaces.{key_found}
use Rattle.group_table.proofs.table.GroupTable.find.Goals as goal

pub returns-in-Some : goal.returns-in-Some
returns-in-Some c =
    let key = c.args.key.now in
    let place : position (key_eq key) (keys_of c.self.inside.slots.entries) ≡ Some c.in-Some.at = sym c.in-Some.ensures.index in
    key_found c.args.self.now key c.in-Some.at
    (sym (ap (λ (t : PooledTable). position (key_eq key) (keys_of t.slots)) c.self.view_is) ∙ place)
