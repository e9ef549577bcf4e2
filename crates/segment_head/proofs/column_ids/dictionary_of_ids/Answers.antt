use Rattle.std.proofs.Common.{◌≡◌, ◌∙◌, ℕ, ℤ, List, length, map, pos, sym, ap, subst, arith, take, drop, ◌++◌}
use Rattle.std.specs.List.{range_with_len}
use Rattle.std.proofs.lemmas.List.{take_at}
use Rattle.std.proofs.lemmas.List.FromFn.{length-map-range_with_len}
use Rattle.data_types.specs.declared.kind.FieldKind.TheVariants.{Long}
use Rattle.values.specs.declared.value.Value.{Value}
use Rattle.values.specs.declared.value.Value.TheVariants.{Whole}
use Rattle.value_ids.specs.Dictionary.{IsDictionary}
use Rattle.segment_head.proofs.IdsDictionary.{as_values, ids_stand}
use Rattle.segment_head.specs.ColumnIds.{numbers_below}
use Rattle.segment_head.proofs.column_ids.dictionary_of_ids.Goals as goal

-- the numbers are those below the count
module _ (count len : ℕ) (room numbers : List ℤ) (is : numbers ≡ map pos (range_with_len 0 count)) (fits : len ≡ count) where
  are_ids : map Whole (take len (numbers ++ drop (length numbers) room)) ≡ numbers_below count
  are_ids =
      let long : length numbers ≡ count = ap length is ∙ length-map-range_with_len pos 0 count in
      ap (map Whole) (take_at numbers (drop (length numbers) room) len (omega (arith, long, fits)))
      ∙ ap (map Whole) is ∙ as_values (range_with_len 0 count)

pub of_numbers-requires : goal.of_numbers-requires
of_numbers-requires c =
    let own = c.in_ok-numbers.numbers in
    let fits : own.len ≡ c.args.count = c.in_ok-numbers.ensures.len in
    let count : length c.deref_mut.result.now ≡ c.args.count = omega (arith, ap length c.deref_mut.ensures.value, own.ok.0, fits) in
    subst (λ (vs : List Value). IsDictionary (record { kind = Long; values = vs })) (sym (are_ids c.args.count own.len own.items c.put_ids.new.numbers (c.put_ids.ensures ∙ ap (λ (n : ℕ). map pos (range_with_len 0 n)) count) fits)) (ids_stand c.args.count c.requires)

pub returns : goal.returns
returns c =
    let own = c.in_ok-numbers.numbers in
    let fits : own.len ≡ c.args.count = c.in_ok-numbers.ensures.len in
    let count : length c.deref_mut.result.now ≡ c.args.count = omega (arith, ap length c.deref_mut.ensures.value, own.ok.0, fits) in
    c.of_numbers.ensures ∙ ap (λ (vs : List Value). record { kind = Long; values = vs }) (are_ids c.args.count own.len own.items c.put_ids.new.numbers (c.put_ids.ensures ∙ ap (λ (n : ℕ). map pos (range_with_len 0 n)) count) fits)
