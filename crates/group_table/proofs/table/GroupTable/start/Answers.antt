use Rattle.std.proofs.Common.{◌≡◌, ◌∙◌, [], ◌∷◌, ◌++◌, None, ap, subst}
use Rattle.std.specs.List.{IsDistinct}
use Rattle.std.specs.Map.{keys_of, lookup}
use Rattle.indexmap.proofs.CallerLemmas.{insert_entry-new}
use Rattle.state_pool.specs.Pool.{Takes}
use Rattle.group_table.specs.Kept.{key_eq}
use Rattle.group_table.specs.Pooled.{PooledTable, with_slots}
use Rattle.group_table.specs.contracts.table.GroupTable.{the_view}
use Rattle.group_table.proofs.table.GroupTable.start.Goals as goal

pub returns-clause-ok : goal.returns-clause-ok
returns-clause-ok c =
    let t : PooledTable = the_view c.self.inside in
    let same : c.in_ok-key.key ≡ c.args.key.now = c.in_ok-key.ensures in
    let kept : c.reserve.new.self.entries ≡ t.slots = c.in_ok-reserve.ensures.entries in
    let absent : lookup (key_eq c.in_ok-key.key) c.reserve.new.self.entries ≡ None =
    (λ i. lookup (key_eq (same i)) (kept i)) ∙ ap (λ (t : PooledTable). lookup (key_eq c.args.key.now) t.slots) c.self.view_is ∙ c.requires.absent in
    let pushed : c.insert.new.self.entries ≡ c.args.self.now.slots ++ (c.args.key.now, c.in-Some.slot) ∷ [] =
    c.in_default-insert.ensures.entries ∙ insert_entry-new key_eq c.reserve.new.self c.in_ok-key.key c.in-Some.slot absent
    ∙ (λ i. kept i ++ (same i, c.in-Some.slot) ∷ []) ∙ ap (λ (t : PooledTable). t.slots ++ (c.args.key.now, c.in-Some.slot) ∷ []) c.self.view_is in (
      c.in-Some.slot,
      record {
        absent = c.requires.absent;
        room = c.requires.room;
        table = ap (with_slots t) pushed ∙ ap (λ (t : PooledTable). with_slots t (c.args.self.now.slots ++ (c.args.key.now, c.in-Some.slot) ∷ [])) c.self.view_is;
        once = subst (λ es. IsDistinct key_eq (keys_of es)) pushed c.insert.ensures.unique;
        takes = subst (λ (t : PooledTable). Takes t.owner c.in-Some.slot c.args.pool.now c.take.new.self) c.self.view_is c.in-Some.ensures.taken;
      },
    )
