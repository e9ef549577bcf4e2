use Rattle.std.proofs.Common.{◌<◌, List, ap, sym, ◌∙◌, arith, get_or, length, slice_get, take}
use Rattle.agg_laws.specs.declared.aggregate_kind.AggKind.{AggKind}
use Rattle.agg_laws.specs.declared.aggregate_kind.AggKind.TheVariants as kinds
use Rattle.agg_laws.specs.Kind.{width_of}
use Rattle.state_columns.specs.Docs.{Docs, doc_at}
use Rattle.star_file.specs.Rules.{widths}
use Rattle.star_file.proofs.SpelledSteps as steps
use Rattle.star_file.proofs.spelled_docs.SpelledDocs.state.Goals as goal

pub doc_of-doc-requires : goal.doc_of-doc-requires
doc_of-doc-requires c =
    let t = c.self.inside in
    let r = steps.room t.shape.now t.counts.now t.count t.width t.bytes c.self.invariant c.args.at
    (steps.is_there t.shape.now t.count t.bytes c.args.self.now c.self.view_is c.args.at
    c.requires.at) in
    let l = ap length c.as_slice.ensures in
    omega (arith, r, l)

pub between-requires-clause-within : goal.between-requires-clause-within
between-requires-clause-within c =
    let t = c.self.inside in
    let table = c.args.self.now in
    let pair = c.args.pair in
    let lt = steps.is_there t.shape.now t.count t.bytes table c.self.view_is c.args.at c.requires.at
    in
    let some : pair < length t.shape.now.kinds =
    omega (arith, c.requires.pair, ap (λ (v : Docs). length v.kinds) c.self.view_is) in
    let part = steps.own_part_is c.args.at t.width t.bytes c.as_slice.result.now
    c.doc_of-doc.result.now c.as_slice.ensures c.doc_of-doc.ensures.part in
    let within = steps.pair_within t.shape.now t.counts.now t.count t.width t.bytes c.self.invariant
    c.args.at pair lt some c.doc_of-doc.result.now c.between-states.result.now part
    c.between-states.ensures.part c.doc_of-doc.ensures.lengths in
    let start = c.widths-start.ensures.value
    ∙ ap (λ (ks : List AggKind). widths (take pair ks)) c.as_slice-kinds.ensures in
    let wide = c.width.ensures
    ∙ ap (λ (ks : List AggKind). width_of (get_or ks pair kinds.Count)) c.as_slice-kinds.ensures in
    omega (arith, within, start, wide)

pub unreachable-requires : goal.unreachable-requires
unreachable-requires c =
    let t = c.self.inside in
    let pair = c.args.pair in
    let states = c.between-states.result.now in
    let lt = steps.is_there t.shape.now t.count t.bytes c.args.self.now c.self.view_is c.args.at
    c.requires.at in
    let some : pair < length t.shape.now.kinds =
    omega (arith, c.requires.pair, ap (λ (v : Docs). length v.kinds) c.self.view_is) in
    let part = steps.own_part_is c.args.at t.width t.bytes c.as_slice.result.now
    c.doc_of-doc.result.now c.as_slice.ensures c.doc_of-doc.ensures.part in
    let there = steps.pair_there t.shape.now t.counts.now t.count t.width t.bytes c.self.invariant
    c.args.at pair lt some c.doc_of-doc.result.now states part c.between-states.ensures.part in
    let own = steps.own_pair_is t.shape.now t.counts.now t.count t.width t.bytes c.self.invariant
    c.args.at pair lt some c.doc_of-doc.result.now states part c.between-states.ensures.part
    c.as_slice-kinds.result.now c.widths-start.result c.width.result c.between.result.now
    c.as_slice-kinds.ensures c.widths-start.ensures.value c.width.ensures c.between.ensures.part in
    let again = c.take.ensures.again there.v
    (there.kind_is
    ∙ ap (λ (ks : List AggKind). get_or ks pair kinds.Count) (sym c.as_slice-kinds.ensures))
    there.stored (there.is ∙ sym own) in
    cc (again, c.in-Err.is)

pub returns : goal.returns
returns c =
    let t = c.self.inside in
    let pair = c.args.pair in
    let states = c.between-states.result.now in
    let lt = steps.is_there t.shape.now t.count t.bytes c.args.self.now c.self.view_is c.args.at
    c.requires.at in
    let some : pair < length t.shape.now.kinds =
    omega (arith, c.requires.pair, ap (λ (v : Docs). length v.kinds) c.self.view_is) in
    let part = steps.own_part_is c.args.at t.width t.bytes c.as_slice.result.now
    c.doc_of-doc.result.now c.as_slice.ensures c.doc_of-doc.ensures.part in
    let own = steps.own_pair_is t.shape.now t.counts.now t.count t.width t.bytes c.self.invariant
    c.args.at pair lt some c.doc_of-doc.result.now states part c.between-states.ensures.part
    c.as_slice-kinds.result.now c.widths-start.result c.width.result c.between.result.now
    c.as_slice-kinds.ensures c.widths-start.ensures.value c.width.ensures c.between.ensures.part in
    let found = c.in-Ok.ensures.found in
    ap (λ (v : Docs). slice_get (doc_at v.docs c.args.at).1 pair) (sym c.self.view_is)
    ∙ steps.pair_is t.shape.now t.counts.now t.count t.width t.bytes c.self.invariant c.args.at pair
    lt some c.doc_of-doc.result.now states part c.between-states.ensures.part c.between.result.now
    c.in-Ok.state own
    (found.0 ∙ ap (λ (ks : List AggKind). get_or ks pair kinds.Count) c.as_slice-kinds.ensures)
    found.1 found.2
