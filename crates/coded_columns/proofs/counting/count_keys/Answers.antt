use Rattle.std.proofs.Common.{◌≡◌, ◌∙◌, ◌==◌, ℕ, ℤ, List, length, map, get_or, pos, count_by, ap, sym, subst, arith, inl, inr}
use Rattle.std.proofs.lemmas.Bool.{cases_eq}
use Rattle.std.proofs.lemmas.List.{length-map}
use Rattle.value_ids.specs.Coding.{AreBelow}
use Rattle.coded_columns.specs.Slots.{in_slot}
use Rattle.coded_columns.proofs.FoldSteps.{in_slot-count}
use Rattle.coded_columns.proofs.SlotLemmas.{in_slot-one, in_slot-other}
use Rattle.coded_columns.proofs.counting.count_keys.Goals as goal

pub overflow_cast-keys : goal.overflow_cast-keys
overflow_cast-keys c = omega (arith, c.requires.fits 0)

pub returns-then-counts-eq1 : goal.returns-then-counts-eq1
returns-then-counts-eq1 c = λ key.
    let keys : List ℕ = c.args.keys.now in
    let none : ℕ → ℤ = λ s. pos 0 in
    let numbers : List ℤ = map none keys in
    let many : length numbers ≡ length keys = length-map keys none in
    let one : length c.args.counts.now ≡ 1 = omega (arith, c.if-counts-eq1.true) in
    let below : AreBelow 1 keys = subst (λ n. AreBelow n keys) one c.requires.below in
    let counted : length (in_slot key keys numbers) ≡ count_by (λ k. k == key) keys = in_slot-count key keys numbers many in
    elim (cases_eq key 0) [
      | inl e ↦
          let all : length (in_slot key keys numbers) ≡ length keys = ap (λ s. length (in_slot s keys numbers)) e ∙ ap length (in_slot-one keys numbers (sym many) below) ∙ many in
          omega (arith, all, counted, c.count_more.ensures.own, ap (λ s. get_or c.count_more.new.counts s 0) e, ap (λ s. get_or c.args.counts.now s 0) e)
      | inr ne ↦
          let no : length (in_slot key keys numbers) ≡ 0 = ap length (in_slot-other key keys numbers ne below) in
          omega (arith, no, counted, c.count_more.ensures.others key ne)
    ]
