-- The rows of an answer by the places of the groups in order.
use Rattle.std.proofs.Common.{◌≡◌, ◌∙◌, ℕ, zero, suc, List, [], ◌∷◌, map, take, drop, length, ◌<◌, ◌+◌, refl, sym, ap, arith}
use Rattle.std.specs.List.{All}
use Rattle.std.proofs.lemmas.List.{drop-map, drop-take, length-map, take-map}
use Rattle.table_schema.specs.declared.query.Item.{Item}
use Rattle.table_schema.specs.declared.query.OrderKey.{OrderKey}
use Rattle.group_table.specs.Groups.{Group, Groups}
use Rattle.group_table.specs.Shape.{Shape}
use Rattle.group_table.specs.Kept.{KeptGroups, group_at}
use Rattle.broker_merge.specs.Order.{in_order}
use Rattle.broker_merge.specs.Ranked.{BeginInOrder}
use Rattle.broker_merge.specs.Answer.{IsWhole, answer_of, item_cell, written_of}

pub both_maps : {A B C : Type 0} (f : B → C) (g : A → B) (xs : List A) → map (λ x. f (g x)) xs ≡ map f (map g xs)
both_maps f g [] = refl
both_maps f g (x ∷ xs) = ap (λ l. f (g x) ∷ l) (both_maps f g xs)

-- what is written at the places is what is written of the groups
pub rows_are : (t : KeptGroups) (gs : List Group) (order : List OrderKey) (items : List Item) (limit offset : ℕ) (places : List ℕ) → BeginInOrder t gs order (offset + limit) places
    → map (λ at. map (item_cell (group_at t at)) items) (take limit (drop offset places))
    ≡ map (λ group. map (item_cell group) items) (take limit (drop offset (in_order order gs)))
rows_are t gs order items limit offset places h = both_maps (λ (group : Group). map (item_cell group) items) (group_at t) (take limit (drop offset places))
    ∙ ap (map (λ (group : Group). map (item_cell group) items)) (sym (take-map (group_at t) limit (drop offset places))
    ∙ ap (take limit) (sym (drop-map (group_at t) offset places))
    ∙ sym (drop-take offset limit (map (group_at t) places))
    ∙ ap (drop offset) h.begins
    ∙ drop-take offset limit (in_order order gs))

all_map : {A B : Type 0} (P : B → Type 0) (f : A → B) (xs : List A) → ((x : A) → P (f x)) → All P (map f xs)
all_map P f [] each k d lt = absurd (omega arith)
all_map P f (x ∷ xs) each zero d lt = each x
all_map P f (x ∷ xs) each (suc k) d lt = all_map P f xs each k d (omega arith)

-- an answer has a cell for each column, where each item has a label
pub whole_answer : (shape : Shape) (groups : Groups) → 0 < length shape.labels → length shape.labels ≡ length shape.items
    → IsWhole (answer_of shape groups)
whole_answer shape groups some each = record {
  some = some;
  each = all_map (λ row. length row ≡ length shape.labels) (λ group. map (item_cell group) shape.items) (written_of shape groups)
      (λ group. length-map shape.items (item_cell group) ∙ sym each);
}
