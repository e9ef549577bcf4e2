-- The key and the slot of the group at a place.
use Rattle.std.proofs.Common.{◌≡◌, ◌∙◌, ℕ, zero, suc, ◌<◌, Bool, true, false, cond, List, [], ◌∷◌, length, map, get_or, slice_get, position, Some, inl, refl, sym, ap, arith}
use Rattle.std.specs.List.{AllByRecursion}
use Rattle.std.specs.Map.{keys_of, lookup, lookup_key}
use Rattle.indexmap.proofs.MapLemmas.{Found-position}
use Rattle.values.specs.declared.value.Value.{Value}
use Rattle.agg_laws.specs.declared.aggregate_kind.AggKind.{AggKind}
use Rattle.state_pool.specs.Pool.{Place, Pool, kinds_at}
use Rattle.state_pool.proofs.SlotLemmas.{none_some}
use Rattle.group_table.specs.Kept.{IsGroup, group_at, key_eq}
use Rattle.group_table.specs.Pooled.{Finds, IsKeyAt, IsTableIn, PooledTable, group_in, in_pool}
use Rattle.group_table.proofs.KeptLemmas.{same_key}
use Rattle.group_table.proofs.NewKeys.{place_get}

abbrev key_in : Pool → List (List Value × Place) → ℕ → List Value
key_in pool es at = (get_or (map (group_in pool) es) at ([], [])).0

-- a key that passes is the one that was looked for
found_same : (key : List Value) (es : List (List Value × Place)) (k : List Value) → lookup_key (key_eq key) es ≡ Some k → k ≡ key
found_same key [] k e = absurd (none_some e)
found_same key (x ∷ es) k e = by (key_eq key x.0) refl e (λ more. found_same key es k more)
  where
    by : (b : Bool) → key_eq key x.0 ≡ b → cond b (Some x.0) (lookup_key (key_eq key) es) ≡ Some k → (lookup_key (key_eq key) es ≡ Some k → k ≡ key) → k ≡ key
    by true same is rest = let own : x.0 ≡ k = cc in sym own ∙ sym (same_key key x.0 same)
    by false other is rest = rest is

key_there : (pool : Pool) (es : List (List Value × Place)) (at : ℕ) → at < length es → slice_get (keys_of es) at ≡ Some (key_in pool es at)
key_there pool [] at lt = absurd (omega (arith, lt))
key_there pool (e ∷ es) zero lt = refl
key_there pool (e ∷ es) (suc at) lt = key_there pool es at (omega (arith, lt))

entry_key : (pool : Pool) (es : List (List Value × Place)) (at : ℕ) (key : List Value) (slot : Place) → Some (key, slot) ≡ slice_get es at → key_in pool es at ≡ key
entry_key pool [] at key slot e = absurd (none_some (sym e))
entry_key pool (x ∷ es) zero key slot e = let is : (key, slot) ≡ x = cc in ap (λ y. y.0) (sym is)
entry_key pool (x ∷ es) (suc at) key slot e = entry_key pool es at key slot e

long_in : (pool : Pool) (n : ℕ) (kinds : List AggKind) (es : List (List Value × Place)) (at : ℕ)
    → AllByRecursion (IsGroup n kinds) (map (group_in pool) es) → at < length es → length (key_in pool es at) ≡ n
long_in pool n kinds [] at h lt = absurd (omega (arith, lt))
long_in pool n kinds (e ∷ es) zero h lt = h.0.key
long_in pool n kinds (e ∷ es) (suc at) h lt = long_in pool n kinds es at h.1 (omega (arith, lt))

-- it has a value for each group column
pub key_long : (t : PooledTable) (pool : Pool) (at : ℕ) → IsTableIn t pool → at < length t.slots → length (group_at (in_pool t pool) at).0 ≡ t.columns
key_long t pool at table lt = long_in pool t.columns (kinds_at pool t.owner) t.slots at table.is_table.each lt

-- a key that is found at a place is the key of its group
pub key_found : (t : PooledTable) (key : List Value) (at : ℕ) → position (key_eq key) (keys_of t.slots) ≡ Some at → IsKeyAt t key at
key_found t key at e =
    let found = Found-position (key_eq key) t.slots at e in
    record { within = found.within; is_key = λ pool. found_same key t.slots (key_in pool t.slots at) (found.key ∙ key_there pool t.slots at found.within) }

-- the key at a place has the slot there
pub found_at : (t : PooledTable) (pool : Pool) (at : ℕ) (key : List Value) (slot : Place) → at < length t.slots
    → Some (key, slot) ≡ slice_get t.slots at → lookup (key_eq key) t.slots ≡ Some slot
    → Finds (group_at (in_pool t pool) at).0 at t pool t pool
found_at t pool at key slot within entry value =
    let own : lookup (key_eq (key_in pool t.slots at)) t.slots ≡ Some slot =
    ap (λ k. lookup (key_eq k) t.slots) (entry_key pool t.slots at key slot entry) ∙ value in
    record { within = within; found = inl (own ∙ ap Some (place_get t.slots at key slot entry), refl, refl) }
