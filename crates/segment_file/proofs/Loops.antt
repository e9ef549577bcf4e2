-- Loops that write or make one thing after the other.
use Rattle.std.proofs.Common.{◌≡◌, ◌∙◌, ◌<◌, ◌≤◌, ◌+◌, ℕ, Bool, true, false, List, [], ◌∷◌, ◌++◌, length, map, sum, get_or, drop, sym, ap, arith, append_assoc, append-nil}
use Rattle.std.proofs.lemmas.List.{drop_all, drop_more}
use Rattle.std.proofs.lemmas.List.Sums.{sum_by-drop_more}
use Rattle.segment_file.specs.declared.part.Part.{Part}
use Rattle.segment_file.specs.Front.{Extent, directory, extent_bytes, extents_from}
use Rattle.segment_file.specs.Parts.{marked_from}

-- ---- sections, each where the one before it ends

pub extents_next : (parts : List Part) (sizes : List ℕ) (at offset : ℕ) (d : Part) → at < length parts → at < length sizes
    → extents_from offset (drop at parts) (drop at sizes) ≡ record { part = get_or parts at d; offset = offset; size = get_or sizes at 0 } ∷ extents_from (offset + get_or sizes at 0) (drop (at + 1) parts) (drop (at + 1) sizes)
extents_next parts sizes at offset d lt more = (λ i. extents_from offset (drop_more parts at d lt i) (drop_more sizes at 0 more i))

pub extents_none : (parts : List Part) (sizes : List ℕ) (at offset : ℕ) → length parts ≤ at → extents_from offset (drop at parts) sizes ≡ []
extents_none parts sizes at offset over = ap (λ ps. extents_from offset ps sizes) (drop_all at parts over)

pub entries_step : (parts : List Part) (sizes : List ℕ) (at offset : ℕ) (d : Part) (out new whole : List ℕ) → at < length parts → at < length sizes
    → new ≡ out ++ extent_bytes (record { part = get_or parts at d; offset = offset; size = get_or sizes at 0 }) → out ++ directory (extents_from offset (drop at parts) (drop at sizes)) ≡ whole
    → new ++ directory (extents_from (offset + get_or sizes at 0) (drop (at + 1) parts) (drop (at + 1) sizes)) ≡ whole
entries_step parts sizes at offset d out new whole lt more written so_far =
    let one : Extent = record { part = get_or parts at d; offset = offset; size = get_or sizes at 0 } in
    let rest : List ℕ = directory (extents_from (offset + get_or sizes at 0) (drop (at + 1) parts) (drop (at + 1) sizes)) in
    ap (λ b. b ++ rest) written
    ∙ append_assoc out (extent_bytes one) rest
    ∙ ap (λ es. out ++ directory es) (sym (extents_next parts sizes at offset d lt more))
    ∙ so_far

pub entries_stop : (parts : List Part) (sizes : List ℕ) (at offset : ℕ) (out whole : List ℕ) → length parts ≤ at → out ++ directory (extents_from offset (drop at parts) sizes) ≡ whole → out ≡ whole
entries_stop parts sizes at offset out whole over so_far =
    sym (append-nil out) ∙ ap (λ es. out ++ directory es) (sym (extents_none parts sizes at offset over)) ∙ so_far

pub offset_step : (sizes : List ℕ) (at offset end : ℕ) → at < length sizes → offset + sum (drop at sizes) ≡ end → (offset + get_or sizes at 0) + sum (drop (at + 1) sizes) ≡ end
offset_step sizes at offset end lt so_far = omega (arith, sum_by-drop_more (λ x. x) sizes at 0 lt, so_far)

pub offset_fits : (sizes : List ℕ) (at offset end : ℕ) → at < length sizes → offset + sum (drop at sizes) ≡ end → offset + get_or sizes at 0 ≤ end
offset_fits sizes at offset end lt so_far = omega (arith, sum_by-drop_more (λ x. x) sizes at 0 lt, so_far)

-- ---- the sections of columns that are marked

pub marks_step : (part : ℕ → Part) (marks : List Bool) (at : ℕ) (d : Bool) (out new whole : List Part) → at < length marks → get_or marks at d ≡ true → new ≡ out ++ part at ∷ [] → out ++ map part (marked_from at (drop at marks)) ≡ whole → new ++ map part (marked_from (at + 1) (drop (at + 1) marks)) ≡ whole
marks_step part marks at d out new whole lt is made so_far =
    let rest : List Part = map part (marked_from (at + 1) (drop (at + 1) marks)) in
    ap (λ b. b ++ rest) made
    ∙ append_assoc out (part at ∷ []) rest
    ∙ ap (λ ms. out ++ map part (marked_from at ms)) (sym (drop_more marks at d lt ∙ ap (λ m. m ∷ drop (at + 1) marks) is))
    ∙ so_far

pub marks_pass : (part : ℕ → Part) (marks : List Bool) (at : ℕ) (d : Bool) (out new whole : List Part) → at < length marks → get_or marks at d ≡ false → new ≡ out → out ++ map part (marked_from at (drop at marks)) ≡ whole → new ++ map part (marked_from (at + 1) (drop (at + 1) marks)) ≡ whole
marks_pass part marks at d out new whole lt is same so_far =
    ap (λ b. b ++ map part (marked_from (at + 1) (drop (at + 1) marks))) same
    ∙ ap (λ ms. out ++ map part (marked_from at ms)) (sym (drop_more marks at d lt ∙ ap (λ m. m ∷ drop (at + 1) marks) is))
    ∙ so_far

pub marks_stop : (part : ℕ → Part) (marks : List Bool) (at : ℕ) (out whole : List Part) → length marks ≤ at → out ++ map part (marked_from at (drop at marks)) ≡ whole → out ≡ whole
marks_stop part marks at out whole over so_far = sym (append-nil out) ∙ ap (λ ms. out ++ map part (marked_from at ms)) (sym (drop_all at marks over)) ∙ so_far
