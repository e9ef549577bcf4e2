use Rattle.std.proofs.Common.{◌≡◌, ◌∙◌, ◌<◌, ℕ, ℤ, List, get_or, length, set, pos, ap, sym, subst, arith, inl, inr, to_z, of_z, w64}
use Rattle.std.proofs.lemmas.Bool.{cases_eq}
use Rattle.std.proofs.lemmas.List.{get_or-set_other, get_or-set_same, get_or_default}
use Rattle.values.specs.declared.value.Value.{Value}
use Rattle.values.specs.declared.value.Value.TheVariants.{Whole}
use Rattle.agg_laws.specs.Numbers.{IsWhole}
use Rattle.group_table.specs.Groups.{number_of}
use Rattle.coded_columns.specs.Coded.{value_in}
use Rattle.coded_columns.proofs.FoldSteps.{whole-kept}
use Rattle.coded_columns.proofs.SortSteps.{whole-of}
use Rattle.coded_columns.proofs.row_numbers.put_by_ids.Goals as goal

pub loop-k-preserved : goal.loop-k-preserved
loop-k-preserved c =
    let k : ℕ = c.loop-k.k in
    let out : List ℤ = c.loop-k.out in
    let column = c.args.column in
    let values : List Value = column.dictionary.now.values in
    let place : ℕ = get_or c.args.placed.places.now k 0 in
    let numbers : List ℤ = c.args.numbers.now in
    let id : ℕ = c.at-id.result in
    let z : ℤ = to_z w64 (of_z w64 c.number_at.result) in
    let same : z ≡ c.number_at.result = whole-kept c.number_at.result c.number_at.ensures.whole in
    let id_is : id ≡ get_or column.ids.now place 0 = c.at-id.ensures ∙ ap (λ (l : List ℕ). get_or l place 0) c.slices-ids.ensures in
    let value : get_or values id (Whole (pos 0)) ≡ value_in column place = ap (λ i. get_or values i (Whole (pos 0))) id_is in
    let own : get_or values id (Whole (pos 0)) ≡ Whole (get_or numbers id (pos 0)) = whole-of values numbers id c.requires.own in
    let is : z ≡ number_of (value_in column place) = same ∙ c.number_at.ensures.number ∙ ap number_of (sym own ∙ value) in
    let lt : k < length out = omega (arith, c.loop-k-test.true, c.loop-k.auto.out, c.loop-k.auto.k-end, c.requires.same) in
    record {
      each = λ j j_lt. elim (cases_eq j k) [
        | inl e ↦ ap (λ i. get_or (set out k z) i (pos 0)) e ∙ get_or-set_same out k z (pos 0) lt ∙ is ∙ ap (λ i. number_of (value_in column (get_or c.args.placed.places.now i 0))) (sym e)
        | inr ne ↦ get_or-set_other out k j z (pos 0) ne ∙ c.loop-k.invariant.each j (omega (arith, j_lt, ne))
      ];
      whole = λ j j_lt. elim (cases_eq j k) [
        | inl e ↦ subst IsWhole (sym (ap (λ i. get_or (set out k z) i (pos 0)) e ∙ get_or-set_same out k z (pos 0) lt)) (subst IsWhole (sym same) c.number_at.ensures.whole)
        | inr ne ↦ subst IsWhole (sym (get_or-set_other out k j z (pos 0) ne)) (c.loop-k.invariant.whole j (omega (arith, j_lt, ne)))
      ];
    }

pub returns-clause-each : goal.returns-clause-each
returns-clause-each c = λ k lt. c.loop-k.invariant.each k (omega (arith, lt, c.loop-k-test.false, c.loop-k.auto.out, c.loop-k.auto.k-end, c.requires.same))

pub returns-clause-whole : goal.returns-clause-whole
returns-clause-whole c = λ k d lt.
    subst IsWhole (sym (get_or_default c.loop-k.out k d (pos 0) lt)) (c.loop-k.invariant.whole k (omega (arith, lt, c.loop-k-test.false, c.loop-k.auto.out, c.loop-k.auto.k-end, c.requires.same)))
