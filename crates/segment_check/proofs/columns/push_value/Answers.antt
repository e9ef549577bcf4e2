use Rattle.std.proofs.Common.{◌≡◌, ◌∙◌, OnOk, ap, pos, subst, sym}
use Rattle.std.proofs.lemmas.Option.{get_or_from_slice_get}
use Rattle.values.specs.Columns.{is_text, pushed}
use Rattle.values.specs.declared.value.Value.{Value}
use Rattle.values.specs.declared.value.Value.TheVariants.{Text, Whole}
use Rattle.segment_check.proofs.columns.push_value.Goals as goal

pub push_text-requires : goal.push_text-requires
push_text-requires c =
    c.requires.sort ∙ ap is_text (get_or_from_slice_get c.args.dictionary.now.values c.args.id (Text c.in-Some.text.now) (Whole (pos 0)) c.in-Some.ensures)

pub returns-in-Some : goal.returns-in-Some
returns-in-Some c =
    subst (λ (v : Value). OnOk c.push_text.result (c.push_text.new.self ≡ pushed c.args.column.now v))
    (sym (get_or_from_slice_get c.args.dictionary.now.values c.args.id (Text c.in-Some.text.now) (Whole (pos 0)) c.in-Some.ensures)) c.push_text.ensures

pub push-requires : goal.push-requires
push-requires c =
    c.requires.sort ∙ ap is_text (get_or_from_slice_get c.args.dictionary.now.values c.args.id c.in_ok-value_at-in-None.field-0 (Whole (pos 0)) c.in_ok-value_at-in-None.ensures)

pub returns-in_ok-value_at-in-None : goal.returns-in_ok-value_at-in-None
returns-in_ok-value_at-in-None c =
    subst (λ (v : Value). OnOk c.push.result (c.push.new.self ≡ pushed c.args.column.now v))
    (sym (get_or_from_slice_get c.args.dictionary.now.values c.args.id c.in_ok-value_at-in-None.field-0 (Whole (pos 0)) c.in_ok-value_at-in-None.ensures)) c.push.ensures
