-- Loops that look at or make one thing after the other.
use Rattle.std.proofs.Common.{◌≡◌, ◌∙◌, ◌<◌, ◌≤◌, ◌+◌, ◌-◌, ℕ, All, List, [], ◌∷◌, ◌++◌, length, map, get_or, take, drop, Some, sym, ap, arith, append_assoc, append-nil}
use Rattle.std.proofs.lemmas.List.{drop_all, drop_more, map-append, take_all, take_more}
use Rattle.std.proofs.lemmas.Option.{get_or_from_slice_get}
use Rattle.std.specs.List.{slice_get}
use Rattle.values.specs.declared.value.Value.{Value}
use Rattle.value_ids.specs.Dictionary.{Distinct}
use Rattle.segment_file.specs.declared.bounds.Ends.{Ends}
use Rattle.segment_file.specs.declared.part.Part.{Part}
use Rattle.segment_file.specs.declared.section.Section.{Section}
use Rattle.segment_file.specs.Bounds.{bounds_bytes, bounds_of, ends_of}
use Rattle.segment_file.specs.Front.{Extent, extents_from}
use Rattle.segment_head.specs.Heads.{placed}
use Rattle.segment_head.specs.Stored.{live}
use Rattle.segment_head.specs.declared.stored.Stored.{Stored}
use Rattle.segment_file.specs.Reading.{count_at}
use Rattle.segment_file.proofs.Tails.{counted_at}
use Rattle.segment_file.proofs.Loops.{extents_next, extents_none}

-- ---- bounds

pub none_kept : (values : List Value) (old : List Ends) → length values ≡ 0 → old ≡ old ++ ends_of values
none_kept [] old e = sym (append-nil old)
none_kept (v ∷ vs) old e = absurd (omega arith)

pub ends_kept : (values : List Value) (first last : Value) (old new : List Ends) → slice_get values 0 ≡ Some first → slice_get values (length values - 1) ≡ Some last → new ≡ old ++ record { least = first; greatest = last } ∷ [] → new ≡ old ++ ends_of values
ends_kept [] first last old new f l n = absurd cc
ends_kept (v ∷ vs) first last old new f l n =
    let least : first ≡ v = cc in
    let count : length (v ∷ vs) - 1 ≡ length vs = omega arith in
    let greatest : get_or (v ∷ vs) (length vs) v ≡ last = get_or_from_slice_get (v ∷ vs) (length vs) last v (ap (slice_get (v ∷ vs)) (sym count) ∙ l) in
    n ∙ (λ i. old ++ record { least = least i; greatest = sym greatest i } ∷ [])

-- the bounds of one more column
pub bounds_step : (ds : List Distinct) (at : ℕ) (d : Distinct) (out new whole : List Ends) → at < length ds → d ≡ get_or ds at d → new ≡ out ++ ends_of d.values → out ++ bounds_of (drop at ds) ≡ whole → new ++ bounds_of (drop (at + 1) ds) ≡ whole
bounds_step ds at d out new whole lt is kept so_far =
    let rest : List Ends = bounds_of (drop (at + 1) ds) in
    ap (λ b. b ++ rest) kept
    ∙ append_assoc out (ends_of d.values) rest
    ∙ ap (λ b. out ++ b) (ap (λ x. ends_of x.values ++ rest) is ∙ sym (ap bounds_of (drop_more ds at d lt)))
    ∙ so_far

pub bounds_stop : (ds : List Distinct) (at : ℕ) (out whole : List Ends) → length ds ≤ at → out ++ bounds_of (drop at ds) ≡ whole → out ≡ whole
bounds_stop ds at out whole over so_far = sym (append-nil out) ∙ ap (λ xs. out ++ bounds_of xs) (sym (drop_all at ds over)) ∙ so_far

pub written_stop : (ds : List Distinct) (at : ℕ) (out whole : List ℕ) → length ds ≤ at → out ++ bounds_bytes (bounds_of (drop at ds)) ≡ whole → out ≡ whole
written_stop ds at out whole over so_far = sym (append-nil out) ∙ ap (λ xs. out ++ bounds_bytes (bounds_of xs)) (sym (drop_all at ds over)) ∙ so_far

-- ---- sections, each where the one before it ends

pub sections_step : (file : List ℕ) (parts : List Part) (sizes : List ℕ) (at offset : ℕ) (d : Part) (out new whole : List Section) → at < length parts → at < length sizes
    → new ≡ out ++ placed file (record { part = get_or parts at d; offset = offset; size = get_or sizes at 0 }) ∷ [] → out ++ map (placed file) (extents_from offset (drop at parts) (drop at sizes)) ≡ whole
    → new ++ map (placed file) (extents_from (offset + get_or sizes at 0) (drop (at + 1) parts) (drop (at + 1) sizes)) ≡ whole
sections_step file parts sizes at offset d out new whole lt more made so_far =
    let one : Extent = record { part = get_or parts at d; offset = offset; size = get_or sizes at 0 } in
    let rest : List Section = map (placed file) (extents_from (offset + get_or sizes at 0) (drop (at + 1) parts) (drop (at + 1) sizes)) in
    ap (λ b. b ++ rest) made
    ∙ append_assoc out (placed file one ∷ []) rest
    ∙ ap (λ es. out ++ map (placed file) es) (sym (extents_next parts sizes at offset d lt more))
    ∙ so_far

pub sections_stop : (file : List ℕ) (parts : List Part) (sizes : List ℕ) (at offset : ℕ) (out whole : List Section) → length parts ≤ at → out ++ map (placed file) (extents_from offset (drop at parts) sizes) ≡ whole → out ≡ whole
sections_stop file parts sizes at offset out whole over so_far =
    sym (append-nil out) ∙ ap (λ es. out ++ map (placed file) es) (sym (extents_none parts sizes at offset over)) ∙ so_far

-- ---- how many values columns have

pub counts_step : (ds : List Distinct) (columns : List ℕ) (at n : ℕ) (d : Distinct) (out new : List ℕ) → All (λ c. c < length ds) columns → at < length columns → d ≡ get_or ds (get_or columns at 0) d → n ≡ length d.values
    → new ≡ out ++ n ∷ [] → out ≡ map (count_at ds) (take at columns) → new ≡ map (count_at ds) (take (at + 1) columns)
counts_step ds columns at n d out new all lt is n_is counted so_far =
    let one : n ≡ count_at ds (get_or columns at 0) = n_is ∙ sym (counted_at ds (get_or columns at 0) d (all at 0 lt) is) in
    counted
    ∙ (λ i. so_far i ++ one i ∷ [])
    ∙ sym (ap (map (count_at ds)) (take_more columns at 0 lt) ∙ map-append (count_at ds) (take at columns) (get_or columns at 0 ∷ []))

pub counts_stop : (ds : List Distinct) (columns : List ℕ) (at : ℕ) (out : List ℕ) → length columns ≤ at → out ≡ map (count_at ds) (take at columns) → out ≡ map (count_at ds) columns
counts_stop ds columns at out over so_far = so_far ∙ ap (map (count_at ds)) (take_all at columns over)

-- ---- segments that a store publishes

pub live_step : (names : List (List ℕ)) (at : ℕ) (name : List ℕ) (out new : List Stored) → at < length names → name ≡ get_or names at name → new ≡ out ++ live name ∷ [] → out ≡ map live (take at names) → new ≡ map live (take (at + 1) names)
live_step names at name out new lt is kept so_far =
    kept
    ∙ (λ i. so_far i ++ live (is i) ∷ [])
    ∙ sym (ap (map live) (take_more names at name lt) ∙ map-append live (take at names) (get_or names at name ∷ []))

pub live_stop : (names : List (List ℕ)) (at : ℕ) (out : List Stored) → length names ≤ at → out ≡ map live (take at names) → out ≡ map live names
live_stop names at out over so_far = so_far ∙ ap (map live) (take_all at names over)
