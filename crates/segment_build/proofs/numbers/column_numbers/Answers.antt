use Rattle.std.proofs.Common.{◌≡◌, ◌∙◌, length, map, replicate, get_or, sym, ap, subst, arith}
use Rattle.std.specs.Prelude.{pos}
use Rattle.std.proofs.lemmas.List.{length-map}
use Rattle.segment_file.proofs.Faults.{ok_so}
use Rattle.values.specs.declared.value.Value.TheVariants.{Text, Whole}
use Rattle.value_ids.specs.Coding.{AreBelow, values_at}
use Rattle.value_ids.specs.Dictionary.{Distinct}
use Rattle.segment_file.specs.Trees.{number_of}
use Rattle.segment_build.specs.Coded.{dictionary_of_ids}
use Rattle.segment_build.proofs.Codings.{numbers_gathered, zeros_gathered}
use Rattle.segment_build.proofs.numbers.column_numbers.Goals as goal

pub gathered-requires : goal.gathered-requires
gathered-requires c =
    let column = c.args.column.now in
    let numbers = c.in-Some.numbers.now in
    let is = ap (λ (d : Distinct). d.values) (sym c.dictionary.ensures) ∙ c.in-Some.ensures in
    let count : length (dictionary_of_ids column).values ≡ length numbers = ap length is ∙ length-map numbers Whole in
    subst (AreBelow (length numbers)) (sym (c.as_slice.ensures.value ∙ c.in_ok-put_all-in-Some.ensures)) (subst (λ n. AreBelow n column.ids) count c.requires.below)

pub returns-in_ok-put_all-in-Some : goal.returns-in_ok-put_all-in-Some
returns-in_ok-put_all-in-Some c =
    let column = c.args.column.now in
    let ids = column.ids in
    let numbers = c.in-Some.numbers.now in
    let is = ap (λ (d : Distinct). d.values) (sym c.dictionary.ensures) ∙ c.in-Some.ensures in
    let count : length (dictionary_of_ids column).values ≡ length numbers = ap length is ∙ length-map numbers Whole in
    let same = sym (ap (λ vs. map number_of (values_at vs ids)) is ∙ numbers_gathered numbers ids (subst (λ n. AreBelow n ids) count c.requires.below)) in
    ok_so _ _ c.gathered.result (λ v each. each (pos 0) ∙ ap (map (λ p. get_or numbers p (pos 0))) (c.as_slice.ensures.value ∙ c.in_ok-put_all-in-Some.ensures) ∙ same) c.gathered.ensures

pub returns-in-None : goal.returns-in-None
returns-in-None c =
    let column = c.args.column.now in
    let ids = column.ids in
    let texts = c.in-None.ensures.0 in
    let is = ap (λ (d : Distinct). d.values) (sym c.dictionary.ensures) ∙ c.in-None.ensures.1 in
    let count : length (dictionary_of_ids column).values ≡ length texts = ap length is ∙ length-map texts Text in
    let same = sym (ap (λ vs. map number_of (values_at vs ids)) is ∙ zeros_gathered texts ids (subst (λ n. AreBelow n ids) count c.requires.below)) in
    let long : c.len.result ≡ length ids = omega (arith, c.len.ensures) in
    ok_so _ _ c.zeros.result (λ v each. each ∙ ap (λ n. replicate n (pos 0)) long ∙ same) c.zeros.ensures
