-- The numbers of a block, one after the other.
use Rattle.std.proofs.Common.{◌≡◌, ◌≢◌, ◌∙◌, ◌<◌, ◌≤◌, ◌+◌, ◌-◌, ◌*◌, ℕ, ℤ, true, List, [], ◌∷◌, ◌++◌, length, map, take, drop, get_or, sym, ap, arith, append_assoc}
use Rattle.std.proofs.Math.Seq.{take-add}
use Rattle.std.proofs.lemmas.List.{get_or-drop, length-drop, map-append, take_more}
use Rattle.std.proofs.lemmas.Option.{get_or_from_slice_get}
use Rattle.data_types.specs.Numbers.{is_in_range}
use Rattle.data_types.specs.declared.kind.FieldKind.TheVariants as kind
use Rattle.values.specs.declared.value.Value.{Value}
use Rattle.values.specs.declared.value.Value.TheVariants as value
use Rattle.value_ids.specs.Dictionary.{Distinct}
use Rattle.dictionary.specs.Spelling.{number_bytes}
use Rattle.dictionary_reading.specs.declared.block.Block.{Block}
use Rattle.dictionary_reading.specs.InFile.{IsBlockOf, part}
use Rattle.dictionary_reading.proofs.Blocks.{number_of_block}

pub number_more : (d : Distinct) (b : Block) (id : ℕ) (z : ℤ) (first old new : List ℤ) → IsBlockOf d b → b.kind ≢ kind.Text → b.from ≤ id → id < b.to → is_in_range kind.Long z ≡ true → number_bytes (value.Whole z) ≡ part (8 * (id - b.from)) 8 b.body
    → map value.Whole old ≡ map value.Whole first ++ take (id - b.from) (drop b.from d.values) → new ≡ old ++ z ∷ [] → map value.Whole new ≡ map value.Whole first ++ take (id + 1 - b.from) (drop b.from d.values)
number_more d b id z first old new is some low high long read before after =
    let within = is.within in
    let rest : List Value = drop b.from d.values in
    let lt : id - b.from < length rest = omega (arith, low, high, within, length-drop b.from d.values) in
    let at : b.from + (id - b.from) ≡ id = omega (arith, low) in
    let value_is : get_or rest (id - b.from) (value.Whole z) ≡ value.Whole z =
    (get_or-drop b.from d.values (id - b.from) (value.Whole z) ∙ ap (λ k. get_or d.values k (value.Whole z)) at ∙ get_or_from_slice_get d.values id (value.Whole z) (value.Whole z) (number_of_block d b id z is some low high long read)) in
    let next : id - b.from + 1 ≡ id + 1 - b.from = omega (arith, low) in
    ap (map value.Whole) after
    ∙ map-append value.Whole old (z ∷ [])
    ∙ (λ i. before i ++ sym value_is i ∷ [])
    ∙ append_assoc (map value.Whole first) (take (id - b.from) rest) (get_or rest (id - b.from) (value.Whole z) ∷ [])
    ∙ ap (λ xs. map value.Whole first ++ xs) (sym (take_more rest (id - b.from) (value.Whole z) lt) ∙ ap (λ k. take k rest) next)

-- the numbers of one more block
pub piece_more : (d : Distinct) (done end : ℕ) (old new : List ℤ) → done ≤ end → map value.Whole old ≡ take done d.values → map value.Whole new ≡ map value.Whole old ++ take (end - done) (drop done d.values) → map value.Whole new ≡ take end d.values
piece_more d done end old new order before after =
    let sum : done + (end - done) ≡ end = omega (arith, order) in
    after ∙ ap (λ xs. xs ++ take (end - done) (drop done d.values)) before ∙ sym (take-add done (end - done) d.values) ∙ ap (λ k. take k d.values) sum
