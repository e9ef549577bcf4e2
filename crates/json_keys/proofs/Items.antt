-- The items of an array, as the list of what each value is.
use Rattle.std.proofs.Common.{◌≡◌, ◌==◌, List, [], ◌∷◌, length, map, refl, ap, arith}
use Rattle.std.proofs.lemmas.Grind.{common_steps}
use Rattle.serde_json.specs.View.{view, items_view}
use Rattle.serde_json.specs.declared.value.Value.{Value}
use Rattle.json_keys.specs.Json.{items, is_no_items}

pub items-items_view : (vs : List Value) → items (items_view vs) ≡ map view vs
items-items_view [] = refl
items-items_view (v ∷ vs) = ap (λ ds. view v ∷ ds) (items-items_view vs)

pub is_no_items-items_view : (vs : List Value) → is_no_items (items_view vs) ≡ (length vs == 0)
is_no_items-items_view [] = refl
is_no_items-items_view (v ∷ vs) = grind (arith, common_steps)
