use Rattle.std.proofs.Common.{◌≡◌, map, string_bytes, take}
use Rattle.pinot_run.proofs.script.words_in.Given as goal

abbrev pub invariant-loop-part : goal.invariant-loop-part
invariant-loop-part l = map string_bytes l.words.items ≡ map (λ part. part.now) (take l.part-index l.part-items)
