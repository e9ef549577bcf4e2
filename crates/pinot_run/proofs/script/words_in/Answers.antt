use Rattle.std.proofs.Common.{◌∙◌, ap, map, string_bytes}
use Rattle.pinot_run.proofs.ScriptLemmas.{word_step, word_stop}
use Rattle.pinot_run.proofs.script.words_in.Goals as goal

pub loop-part-preserved : goal.loop-part-preserved
loop-part-preserved c =
    word_step string_bytes (λ part. part.now) c.as_slice-part-items.result.now c.loop-part.part-index _ c.loop-part.words.items c.push.new.self.items c.in_ok-from_str.field-0 c.loop-part-test.true c.in_ok-push.ensures.items
    c.in_ok-from_str.ensures.ok c.loop-part.invariant

pub returns : goal.returns
returns c =
    word_stop string_bytes (λ part. part.now) c.as_slice-part-items.result.now c.loop-part.part-index c.loop-part.words.items c.loop-part-test.false c.loop-part.invariant
    ∙ ap (λ l. map (λ part. part.now) l) c.as_slice-part-items.ensures.value ∙ c.in_ok-parts.ensures
