-- A look through cursors for a name.
use Rattle.std.proofs.Common.{◌≡◌, ◌∙◌, ◌<◌, ℕ, zero, suc, Bool, true, false, cond, List, [], ◌∷◌, length, get_or, take, Option, Some, None, refl, ap, arith}
use Rattle.std.specs.Option.{option_map}
use Rattle.cursors.specs.Kept.{place_under, same_name}
use Rattle.cursors.specs.declared.cursor.Cursor.{Cursor}

none_by_name : (b : Bool) (o : Option ℕ) → b ≡ false → o ≡ None → cond b (Some 0) (option_map suc o) ≡ None
none_by_name b o is none = (λ i. cond (is i) (Some 0) (option_map suc (none i)))

later_none : (b : Bool) (o : Option ℕ) → cond b (Some 0) (option_map suc o) ≡ None → (b ≡ false) × (o ≡ None)
later_none true o is = absurd cc
later_none false None is = (refl, refl)
later_none false (Some n) is = absurd cc

-- none before has the name, and the one at the place has it
pub found_at : (name : List ℕ) (ds : List Cursor) (at : ℕ) (c dflt : Cursor) → at < length ds → get_or ds at dflt ≡ c → place_under name (take at ds) ≡ None → same_name name c.name ≡ true → place_under name ds ≡ Some at
found_at name [] at c dflt lt is none same = absurd (omega (arith, lt))
found_at name (d ∷ ds) zero c dflt lt is none same = ap (λ b. cond b (Some 0) (option_map suc (place_under name ds))) (ap (λ (x : Cursor). same_name name x.name) is ∙ same)
found_at name (d ∷ ds) (suc at) c dflt lt is none same =
    let two = later_none (same_name name d.name) (place_under name (take at ds)) none in
    (λ i. cond (two.0 i) (Some 0) (option_map suc (found_at name ds at c dflt (omega (arith, lt)) is two.1 same i)))

pub none_next : (name : List ℕ) (ds : List Cursor) (at : ℕ) (c dflt : Cursor) → at < length ds → get_or ds at dflt ≡ c → place_under name (take at ds) ≡ None → same_name name c.name ≡ false → place_under name (take (suc at) ds) ≡ None
none_next name [] at c dflt lt is none apart = refl
none_next name (d ∷ ds) zero c dflt lt is none apart = none_by_name (same_name name d.name) None (ap (λ (x : Cursor). same_name name x.name) is ∙ apart) refl
none_next name (d ∷ ds) (suc at) c dflt lt is none apart =
    let two = later_none (same_name name d.name) (place_under name (take at ds)) none in
    none_by_name (same_name name d.name) (place_under name (take (suc at) ds)) two.0 (none_next name ds at c dflt (omega (arith, lt)) is two.1 apart)
