use Rattle.std.proofs.Common.{◌≡◌, ◌∙◌, ℤ, [], ◌∷◌, ◌++◌, ap, map, sym}
use Rattle.std.proofs.lemmas.Bool.{false≢true}
use Rattle.std.proofs.lemmas.Int.{to_z-of_z}
use Rattle.std.proofs.lemmas.List.{map-append}
use Rattle.std.specs.Int.{w64, cast_signed, cast_unsigned}
use Rattle.data_types.specs.Numbers.{is_in_range}
use Rattle.dictionary.specs.Reading.{is_above_last}
use Rattle.dictionary.proofs.Numbers.{fits_from_mag, push_begin, push_end, push_more, push_refused}
use Rattle.values.specs.declared.value.Value.TheVariants.{Whole}
use Rattle.dictionary.proofs.piecewise.push_numbers.Goals as goal
use Rattle.dictionary.proofs.piecewise.push_numbers.Goals.{then-not-is_in_range-via-then-not-is_in_range, then-not-is_in_range-via-else-not-is_in_range+then-not-is_greater}

pub loop-chunk-init : goal.loop-chunk-init
loop-chunk-init c = push_begin c.args.kind c.args.bytes.now (map Whole c.args.numbers.now.items) c.requires.eights

pub returns-then-not-is_in_range-clause-bad : goal.returns-then-not-is_in_range-clause-bad
returns-then-not-is_in_range-clause-bad c = λ _.
    let z : ℤ = c.number_of-number.result in
    let same : cast_signed w64 (cast_unsigned w64 z) ≡ z = to_z-of_z w64 z (fits_from_mag z c.number_of-number.type_inv) in
    push_refused c.args.kind c.args.bytes.now c.loop-chunk.rest.now c.in-Some.chunk.now c.in-Some.following.now (map Whole c.args.numbers.now.items) (map Whole c.loop-chunk.numbers.items) z c.requires.numbers
    c.number_of-number.ensures.spelled c.in-Some.ensures.cases.0 c.in-Some.ensures.cases.1 c.number_of-number.ensures.within c.loop-chunk.invariant
    (λ within above. elim c.then-not-is_in_range.branch [
      | then-not-is_in_range-via-then-not-is_in_range w ↦ false≢true (w.if-not-is_in_range.ensures ∙ ap (is_in_range c.args.kind) same ∙ within)
      | then-not-is_in_range-via-else-not-is_in_range+then-not-is_greater w ↦
          false≢true (w.if-not-is_greater.ensures ∙ (λ i. is_above_last (map Whole (w.deref.ensures.value i)) (Whole (same i))) ∙ above)
    ])

pub loop-chunk-preserved : goal.loop-chunk-preserved
loop-chunk-preserved c =
    let z : ℤ = c.number_of-number.result in
    let same : cast_signed w64 (cast_unsigned w64 z) ≡ z = to_z-of_z w64 z (fits_from_mag z c.number_of-number.type_inv) in
    let above : is_above_last (map Whole c.deref.result.now) (Whole (cast_signed w64 (cast_unsigned w64 z))) ≡ is_above_last (map Whole c.loop-chunk.numbers.items) (Whole z) = (λ i. is_above_last (map Whole (c.deref.ensures.value i)) (Whole (same i))) in
    push_more c.args.kind c.args.bytes.now c.loop-chunk.rest.now c.in-Some.chunk.now c.in-Some.following.now (map Whole c.args.numbers.now.items) (map Whole c.loop-chunk.numbers.items) (map Whole c.keep.new.numbers.items) z c.requires.numbers
    c.number_of-number.ensures.spelled c.in-Some.ensures.cases.0 c.in-Some.ensures.cases.1
    (sym (ap (is_in_range c.args.kind) same) ∙ sym c.if-not-is_in_range.ensures) (sym above ∙ sym c.if-not-is_greater.ensures) c.loop-chunk.invariant
    (ap (map Whole) (c.in_ok-keep.ensures.ok ∙ ap (λ n. c.loop-chunk.numbers.items ++ n ∷ []) same) ∙ map-append Whole c.loop-chunk.numbers.items (z ∷ []))

pub returns-clause-ok : goal.returns-clause-ok
returns-clause-ok c = push_end c.args.kind c.args.bytes.now c.loop-chunk.rest.now (map Whole c.args.numbers.now.items) (map Whole c.loop-chunk.numbers.items) c.in_default.ensures.cases c.loop-chunk.invariant
