use Rattle.std.proofs.Common.{◌≡◌, ◌∙◌, ◌-◌, [], ◌∷◌, ◌++◌, length, None, false, inr, ap, sym, subst, arith, length-append, is_some}
use Rattle.std.specs.Map.{lookup}
use Rattle.indexmap.proofs.CallerLemmas.{insert_entry-new}
use Rattle.state_pool.specs.Pool.{Takes}
use Rattle.group_table.specs.Kept.{key_eq}
use Rattle.group_table.specs.Pooled.{has_slot, place_at}
use Rattle.group_table.proofs.NewKeys.{last_same, place_last}
use Rattle.group_table.proofs.KeptSteps.{none_from}
use Rattle.group_table.proofs.table.place_in.Goals as goal

pub returns-clause-placed : goal.returns-clause-placed
returns-clause-placed c =
    let old = c.args.slots.now.entries in
    let key = c.args.key.now in
    let slot = c.in-Some-take.slot in
    let none : has_slot old key ≡ false = sym c.get_index_of.ensures.found ∙ ap is_some c.in_default.is in
    let absent : lookup (key_eq key) old ≡ None = none_from (lookup (key_eq key) old) none in
    let split : c.args.copies.now.items ≡ c.pop.new.self.items ++ c.in-Some-pop.copy ∷ [] = c.in-Some-pop.ensures.items in
    let next = c.requires.next none in
    let same : c.in-Some-pop.copy ≡ key = last_same c.pop.new.self.items next.0 c.in-Some-pop.copy key (sym split ∙ next.1) in
    let pushed : c.insert.new.self.entries ≡ old ++ (key, slot) ∷ [] =
    c.in_default-insert.ensures.entries ∙ insert_entry-new key_eq c.args.slots.now c.in-Some-pop.copy slot (ap (λ k. lookup (key_eq k) old) same ∙ absent)
    ∙ ap (λ k. old ++ (k, slot) ∷ []) same in
    let at : c.len.result - 1 ≡ length old = omega (arith, c.len.ensures.len, ap length pushed, length-append old ((key, slot) ∷ [])) in
    let place : place_at c.insert.new.self.entries (c.len.result - 1) ≡ slot = (λ i. place_at (pushed i) (at i)) ∙ place_last old key slot in
    record {
      within = omega (arith, at, ap length pushed, length-append old ((key, slot) ∷ []));
      found = inr (
        absent,
        pushed ∙ ap (λ s. old ++ (key, s) ∷ []) (sym place),
        c.insert.ensures.unique,
        subst (λ s. Takes c.args.owner s c.args.pool.now c.take.new.self) (sym place) c.in-Some-take.ensures.taken,
        split ∙ ap (λ k. c.pop.new.self.items ++ k ∷ []) same,
      );
    }
