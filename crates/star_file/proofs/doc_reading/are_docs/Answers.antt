use Rattle.std.proofs.Common.{◌≡◌, ◌+◌, ◌*◌, ◌≤◌, ◌++◌, ◌∷◌, [], List, ℕ, length, take, drop}
use Rattle.std.proofs.Common.{sym, subst, ◌∙◌, refl}
use Rattle.state_columns.proofs.RegionLemmas.{room_in}
use Rattle.star_file.specs.Reading.{doc_width, SpellsDoc}
use Rattle.star_file.proofs.DocSteps as steps
use Rattle.star_file.proofs.doc_reading.are_docs.Goals as goal

-- the bytes of one document
part_is : (i w w' : ℕ) (bytes part : List ℕ) → w' ≡ w → part ≡ take w' (drop (i * w') bytes)
    → part ≡ take w (drop (i * w) bytes)
part_is i w w' bytes part e h = h ∙ (λ j. take (e j) (drop (i * e j) bytes))

pub loop-i-init : goal.loop-i-init
loop-i-init c = ([], tt)

pub doc_of-requires : goal.doc_of-requires
doc_of-requires c =
    let w = doc_width c.args.shape.now in
    subst (λ (n : ℕ). c.loop-i.i * n + n ≤ length c.args.bytes.now)
    (sym c.width_of-width.ensures.value)
    (room_in c.args.number c.loop-i.i w (length c.args.bytes.now) c.requires.width
    c.loop-i-test.true)

pub returns-then-not-is_doc : goal.returns-then-not-is_doc
returns-then-not-is_doc c = λ docs h.
    let shape = c.args.shape.now in
    let counts = c.args.counts.now in
    let i = c.loop-i.i in
    let there = steps.doc_there shape counts c.args.number i c.args.bytes.now docs h
    c.loop-i-test.true in
    let same = part_is i (doc_width shape) c.width_of-width.result c.args.bytes.now
    c.doc_of.result.now c.width_of-width.ensures.value c.doc_of.ensures.part in
    (rw c.if-not-is_doc.true at c.is_doc.ensures) there.0
    (subst (λ (l : List ℕ). SpellsDoc shape counts l there.0) (sym same) there.1)

pub loop-i-preserved : goal.loop-i-preserved
loop-i-preserved c =
    let shape = c.args.shape.now in
    let counts = c.args.counts.now in
    let i = c.loop-i.i in
    let own = rw c.if-not-is_doc.false at c.is_doc.ensures in
    let so = c.loop-i.invariant in
    let same = part_is i (doc_width shape) c.width_of-width.result c.args.bytes.now
    c.doc_of.result.now c.width_of-width.ensures.value c.doc_of.ensures.part in (
      so.0 ++ own.0 ∷ [],
      steps.docs_more shape counts i c.args.bytes.now so.0 (so.0 ++ own.0 ∷ []) own.0 so.1
          (subst (λ (l : List ℕ). SpellsDoc shape counts l own.0) same own.1) refl,
    )
