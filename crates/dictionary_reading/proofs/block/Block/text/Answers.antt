use Rattle.std.proofs.Common.{◌≡◌, ◌∙◌, ◌<◌, ◌+◌, ◌-◌, ◌*◌, ◌⊎◌, length, ℕ, List, Some, ap, subst, sym}
use Rattle.std.specs.List.{slice_get}
use Rattle.values.specs.declared.value.Value.TheVariants as value
use Rattle.dictionary_reading.specs.InFile.{part}
use Rattle.dictionary_reading.proofs.Blocks.{not_between, not_unicode, text_of_block}
use Rattle.dictionary_reading.proofs.block.Block.text.Goals as goal

pub returns-in_default-clause-bad : goal.returns-in_default-clause-bad
returns-in_default-clause-bad c = λ _ d is. not_between d c.args.self.now c.args.id c.four_at-base.result c.four_at-start.result c.four_at-end.result
    (record { order = c.requires.from; within = c.requires.to; kind_is = c.requires.kind; base_small = c.four_at-base.ensures.within; start_small = c.four_at-start.ensures.within; end_small = c.four_at-end.ensures.within; base_is = c.four_at-base.ensures.spelled ∙ ap (part 0 4) c.as_slice-starts.ensures; start_is = c.four_at-start.ensures.spelled ∙ ap (part (4 * (c.args.id - c.args.self.now.from)) 4) c.as_slice-starts.ensures; end_is = c.four_at-end.ensures.spelled ∙ ap (part (4 * (c.args.id - c.args.self.now.from) + 4) 4) c.as_slice-starts.ensures })
    (subst (λ (xs : List ℕ). (c.four_at-start.result < c.four_at-base.result) ⊎ (c.four_at-end.result < c.four_at-start.result) ⊎ (length xs + c.four_at-base.result < c.four_at-end.result)) c.as_slice.ensures c.in_default.ensures) is

pub returns-in_default-from_utf8-clause-bad : goal.returns-in_default-from_utf8-clause-bad
returns-in_default-from_utf8-clause-bad c = λ _ d is. not_unicode d c.args.self.now c.args.id c.four_at-base.result c.four_at-start.result c.four_at-end.result c.in-Some.text.now
    (record { order = c.requires.from; within = c.requires.to; kind_is = c.requires.kind; base_small = c.four_at-base.ensures.within; start_small = c.four_at-start.ensures.within; end_small = c.four_at-end.ensures.within; base_is = c.four_at-base.ensures.spelled ∙ ap (part 0 4) c.as_slice-starts.ensures; start_is = c.four_at-start.ensures.spelled ∙ ap (part (4 * (c.args.id - c.args.self.now.from)) 4) c.as_slice-starts.ensures; end_is = c.four_at-end.ensures.spelled ∙ ap (part (4 * (c.args.id - c.args.self.now.from) + 4) 4) c.as_slice-starts.ensures })
    (c.in-Some.ensures.3 ∙ ap (part (c.four_at-start.result - c.four_at-base.result) (c.four_at-end.result - c.four_at-start.result)) c.as_slice.ensures) c.in_default-from_utf8.ensures.cases.0 is

pub returns-clause-value : goal.returns-clause-value
returns-clause-value c = λ d is.
    let same : c.in-Ok.text.now ≡ c.in-Some.text.now = c.in-Ok.ensures.cases.0 in
    subst (λ (t : List ℕ). slice_get d.values c.args.id ≡ Some (value.Text t)) (sym (c.in_ok-from_text.ensures ∙ same))
    (text_of_block d c.args.self.now c.args.id c.four_at-base.result c.four_at-start.result c.four_at-end.result c.in-Some.text.now
    (record { order = c.requires.from; within = c.requires.to; kind_is = c.requires.kind; base_small = c.four_at-base.ensures.within; start_small = c.four_at-start.ensures.within; end_small = c.four_at-end.ensures.within; base_is = c.four_at-base.ensures.spelled ∙ ap (part 0 4) c.as_slice-starts.ensures; start_is = c.four_at-start.ensures.spelled ∙ ap (part (4 * (c.args.id - c.args.self.now.from)) 4) c.as_slice-starts.ensures; end_is = c.four_at-end.ensures.spelled ∙ ap (part (4 * (c.args.id - c.args.self.now.from) + 4) 4) c.as_slice-starts.ensures })
    (c.in-Some.ensures.3 ∙ ap (part (c.four_at-start.result - c.four_at-base.result) (c.four_at-end.result - c.four_at-start.result)) c.as_slice.ensures) is)
