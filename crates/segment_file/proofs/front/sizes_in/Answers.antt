use Rattle.std.proofs.Common.{◌≡◌, ◌*◌, ◌+◌, ◌∙◌, ◌++◌, ◌∷◌, [], append-nil, drop, take, sym, ap}
use Rattle.std.proofs.lemmas.List.{drop_all}
use Rattle.std.specs.Int.{w64, from_be_bytes}
use Rattle.segment_file.specs.Reading.{sizes_from}
use Rattle.segment_file.specs.declared.part.Part.TheVariants.{Head}
use Rattle.segment_file.proofs.Fronts.{size_read}
use Rattle.segment_file.proofs.front.sizes_in.Goals as goal

pub loop-at-preserved : goal.loop-at-preserved
loop-at-preserved c =
    let parts = c.args.sections.now in
    let bytes = c.args.directory.now in
    let at = c.loop-at.at in
    let pushed : c.push.new.self.items ≡ c.loop-at.sizes.items ++ from_be_bytes w64 (take 8 (drop (19 * at + 11) bytes)) ∷ [] = c.in_ok-push.ensures.items ∙ ap (λ n. c.loop-at.sizes.items ++ n ∷ []) c.eight_at.ensures in
    ap (λ sizes. sizes ++ sizes_from (drop (at + 1) parts) (drop (19 * (at + 1)) bytes)) pushed
    ∙ size_read parts bytes c.loop-at.sizes.items at Head c.loop-at-test.true c.loop-at.invariant

pub returns : goal.returns
returns c =
    let parts = c.args.sections.now in
    let so_far = c.loop-at.sizes.items in
    sym (append-nil so_far) ∙ ap (λ ps. so_far ++ sizes_from ps (drop (19 * c.loop-at.at) c.args.directory.now)) (sym (drop_all c.loop-at.at parts c.loop-at-test.false)) ∙ c.loop-at.invariant
