use Rattle.std.proofs.Common.{◌≡◌, ◌∙◌, List, ℕ, length, sym, ap, arith, subst}
use Rattle.data_types.specs.declared.kind.FieldKind.{FieldKind}
use Rattle.value_ids.specs.Dictionary.{Distinct}
use Rattle.dictionary.specs.Reading.{Checks}
use Rattle.dictionary.specs.declared.fault.DictFault.TheVariants.{BadDictionary}
use Rattle.dictionary.proofs.Spells.{spells_one}
use Rattle.segment_file.specs.Rules.{IsSpelled}
use Rattle.segment_head.proofs.dictionaries.of_rows.Goals as goal

pub returns-in-Err-clause-bad : goal.returns-in-Err-clause-bad
returns-in-Err-clause-bad c = λ is kind bytes checks d s.
    let same : c.in-Err.fault ≡ BadDictionary = cc in
    (subst (Checks kind bytes) c.in-Err.is checks).bad same d s.stands s.kind_is s.spelled

pub returns-then-count-rows-clause-bad : goal.returns-then-count-rows-clause-bad
returns-then-count-rows-clause-bad c = λ _ kind bytes checks d s.
    let ours : Distinct = c.in-Ok.dictionary in
    let k = subst (Checks kind bytes) c.in-Ok.is checks in
    let same : ours ≡ d = spells_one ours d k.valid s.stands (k.kind_is ∙ sym s.kind_is) (sym k.ok ∙ s.spelled) in
    omega (arith, s.at_most, c.count-count.ensures.count, ap (λ x. length x.values) same, c.if-count-rows.true)

pub returns-then-rows-gt0-clause-bad : goal.returns-then-rows-gt0-clause-bad
returns-then-rows-gt0-clause-bad c = λ _ kind bytes checks d s.
    let ours : Distinct = c.in-Ok.dictionary in
    let k = subst (Checks kind bytes) c.in-Ok.is checks in
    let same : ours ≡ d = spells_one ours d k.valid s.stands (k.kind_is ∙ sym s.kind_is) (sym k.ok ∙ s.spelled) in
    omega (arith, s.some c.if-rows-gt0.true, c.count-count.ensures.count, ap (λ x. length x.values) same, c.if-count-eq0.true)
