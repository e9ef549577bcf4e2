use Rattle.std.proofs.Common.{◌≡◌, ◌*◌, [], ◌∷◌, ◌++◌, get_or, arith, true, false, sym, subst, ◌∙◌, refl}
use Rattle.star_file.specs.Reading.{IsId}
use Rattle.star_file.proofs.DocSteps as steps
use Rattle.star_file.proofs.SpelledSteps.{all_ids}
use Rattle.star_file.proofs.doc_reading.are_ids.Goals as goal

clash : true ≡ false → ⊥
clash e = cc

pub loop-i-init : goal.loop-i-init
loop-i-init c = record { ids = []; are = tt; bytes_are = refl }

pub returns-then-not-is_id : goal.returns-then-not-is_id
returns-then-not-is_id c = λ s.
    let counts = c.args.counts.now in
    let i = c.loop-i.i in
    let there = steps.id_there counts s.ids c.args.bytes.now i 0 s.are s.bytes_are c.loop-i-test.true in
    clash (sym (c.is_id.ensures.1 (subst (IsId (get_or counts i 0)) (sym c.number.ensures) there))
    ∙ c.if-not-is_id.true)

pub loop-i-preserved : goal.loop-i-preserved
loop-i-preserved c =
    let counts = c.args.counts.now in
    let bytes = c.args.bytes.now in
    let i = c.loop-i.i in
    let id = c.number.result in
    let so = c.loop-i.invariant in
    record {
      ids = so.ids ++ id ∷ [];
      are = steps.ids_more counts so.ids (so.ids ++ id ∷ []) i 0 id c.loop-i-test.true so.are
          (c.is_id.ensures.0 c.if-not-is_id.false) refl;
      bytes_are = steps.words_more bytes so.ids (so.ids ++ id ∷ []) i id so.bytes_are
          (steps.word_bytes (4 * i) id bytes (omega (arith, c.requires, c.loop-i-test.true))
          (λ k. omega (arith, c.type_inv.bytes k)) c.number.ensures) refl;
    }

pub returns : goal.returns
returns c = all_ids c.args.counts.now c.args.bytes.now c.loop-i.i (omega arith) c.requires
    c.loop-i.invariant
