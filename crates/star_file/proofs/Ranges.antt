-- The bytes of documents from one number up to another.
use Rattle.std.proofs.Common.{◌≡◌, ◌∙◌, ◌<◌, ◌≤◌, ◌+◌, ◌-◌, ◌*◌, ℕ, List, [], ◌++◌, length, length-drop, take, drop, get_or, Result, Ok, Err, OnOk, refl, sym, ap, arith, append-nil}
use Rattle.std.proofs.lemmas.List.{get_or-drop}
use Rattle.std.proofs.Math.Seq.{take-length}
use Rattle.agg_laws.specs.declared.aggregate_kind.AggKind.{AggKind}
use Rattle.agg_laws.specs.declared.tree_shape.TreeShape.{TreeShape}
use Rattle.state_columns.specs.Docs.{Doc, HaveShape, AreStored, doc_at}
use Rattle.state_columns.specs.Region.{range}
use Rattle.state_columns.proofs.RegionLemmas.{any_default}
use Rattle.star_file.specs.Bytes.{doc_bytes, state_bytes, words}
use Rattle.star_file.specs.Rules.{widths}
use Rattle.star_file.proofs.TreeDocs.{docs_long}
use Rattle.star_file.proofs.Written as steps

-- no document yet
pub range_none : (from : ℕ) (docs : List Doc) (old : List ℕ) → old ≡ old ++ doc_bytes (range from from docs)
range_none from docs old =
    let none : from - from ≡ 0 = omega arith in
    sym (append-nil old) ∙ ap (λ n. old ++ doc_bytes (take n (drop from docs))) (sym none)

-- one more
pub range_more : (docs : List Doc) (from at : ℕ) (old mid new : List ℕ) → from ≤ at → at < length docs
    → mid ≡ old ++ doc_bytes (range from at docs)
    → new ≡ mid ++ (words (doc_at docs at).0 ++ state_bytes (doc_at docs at).1)
    → new ≡ old ++ doc_bytes (range from (at + 1) docs)
range_more docs from at old mid new le lt so_far more =
    let place : from + (at - from) ≡ at = omega (arith, le) in
    let next : at - from + 1 ≡ at + 1 - from = omega (arith, le) in
    let there : doc_at docs at ≡ get_or (drop from docs) (at - from) (doc_at docs at) =
    any_default docs at ([], []) (doc_at docs at) lt
    ∙ ap (λ n. get_or docs n (doc_at docs at)) (sym place)
    ∙ sym (get_or-drop from docs (at - from) (doc_at docs at)) in
    steps.more doc_bytes (λ (e : Doc). words e.0 ++ state_bytes e.1) refl steps.doc_first
    (drop from docs) (at - from) (doc_at docs at) old mid new (omega (arith, le, lt, length-drop from docs))
    there so_far more
    ∙ ap (λ n. old ++ doc_bytes (take n (drop from docs))) next

-- all of them
pub range_all : (docs : List Doc) (to : ℕ) → to ≡ length docs → range 0 to docs ≡ docs
range_all docs to is =
    let all : to - 0 ≡ length docs = omega (arith, is) in
    ap (λ n. take n docs) all ∙ take-length docs

-- how long they are
pub docs_of_width : (dims : ℕ) (kinds : List AggKind) (docs : List Doc) → HaveShape dims kinds docs → AreStored docs
    → length (doc_bytes docs) ≡ length docs * (4 * dims + widths kinds)
docs_of_width dims kinds docs shape stored =
    let made : TreeShape = record { dims = dims; skipped = 0; leaf = 1; kinds = kinds } in
    docs_long made docs (shape, stored)

pub on_ok_then : {A E P Q : Type 0} (r : Result A E) → (P → Q) → OnOk r P → OnOk r Q
on_ok_then (Ok x) f p = f p
on_ok_then (Err e) f p = tt
