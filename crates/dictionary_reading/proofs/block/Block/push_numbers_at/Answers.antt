use Rattle.std.proofs.Common.{◌≡◌, ◌∙◌, ◌+◌, ◌++◌, ℕ, ℤ, List, [], ◌∷◌, length, get_or, map, arith, ap}
use Rattle.std.proofs.lemmas.Int.{to_z-of_z}
use Rattle.std.proofs.lemmas.List.{length-append, map-append}
use Rattle.std.specs.Int.{w64, cast_signed, cast_unsigned}
use Rattle.values.specs.declared.value.Value.TheVariants as value
use Rattle.dictionary.proofs.Numbers.{fits_from_mag}
use Rattle.dictionary_reading.proofs.Blocks.{number_of_block}
use Rattle.dictionary_reading.proofs.ListLemmas.{value_more}
use Rattle.dictionary_reading.proofs.block.Block.push_numbers_at.Goals as goal

pub ids-preserved : goal.ids-preserved
ids-preserved c =
    let i = c.ids.invariant in
    let count = i.count in
    let z : ℤ = c.number.result in
    let ids : List ℕ = c.args.ids.now in
    let at : ℕ = c.ids.id-index in
    let id : ℕ = get_or ids at 0 in
    let same : cast_signed w64 (cast_unsigned w64 z) ≡ z = to_z-of_z w64 z (fits_from_mag z c.number.type_inv) in
    let first : List ℤ = c.args.numbers.now.items in
    let old : List ℤ = c.ids.numbers.items in
    let new : List ℤ = c.keep_number.new.numbers.items in
    let kept : new ≡ old ++ z ∷ [] = c.in_ok-keep_number.ensures ∙ ap (λ (y : ℤ). old ++ y ∷ []) same in
    let one : length new ≡ length old + 1 = ap length kept ∙ length-append old (z ∷ []) in
    let inside = c.requires.inside at 0 c.ids-test.true in
    record {
      count = omega (arith, one, count);
      numbers = λ d is. value_more d.values ids at (value.Whole z) (map value.Whole first) (map value.Whole old) (map value.Whole new) c.ids-test.true
          (number_of_block d c.args.self.now id z is c.requires.numbers inside.0 inside.1 c.number.ensures.within c.number.ensures.spelled) (i.numbers d is) (ap (map value.Whole) kept ∙ map-append value.Whole old (z ∷ []));
    }
