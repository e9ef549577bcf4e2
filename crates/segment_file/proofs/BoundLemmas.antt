-- The bounds of columns are written.
use Rattle.std.proofs.Common.{◌≡◌, ◌∙◌, ◌<◌, ◌+◌, ◌-◌, ℕ, zero, suc, true, Result, Ok, Err, OnOk, List, [], ◌∷◌, ◌++◌, length, get_or, drop, Some, sym, ap, subst, arith, append_assoc, append-nil}
use Rattle.std.proofs.lemmas.Bool.{false≢true}
use Rattle.std.proofs.lemmas.List.{drop_more}
use Rattle.std.proofs.lemmas.Grind.{flat_map-append}
use Rattle.std.proofs.lemmas.Option.{get_or_from_slice_get}
use Rattle.std.specs.List.{All, slice_get}
use Rattle.data_types.specs.declared.kind.FieldKind.{FieldKind}
use Rattle.data_types.specs.declared.kind.FieldKind.TheVariants as kind
use Rattle.values.specs.declared.value.Value.{Value}
use Rattle.values.specs.declared.value.Value.TheVariants.{Whole, Text}
use Rattle.values.specs.Kinds.{fits}
use Rattle.value_ids.specs.Dictionary.{Distinct, Fits, IsDictionary}
use Rattle.segment_file.specs.declared.bounds.Ends.{Ends}
use Rattle.segment_file.specs.Bounds.{IsShort, bound_bytes, bounds_bytes, bounds_of, ends_of, pair_bytes}
use borrow.Author.Tests.{leb-true}

pub fits_short : (k : FieldKind) (v : Value) → fits k v ≡ true → IsShort v
fits_short k (Whole z) e = tt
fits_short kind.Int (Text t) e = absurd (false≢true e)
fits_short kind.Long (Text t) e = absurd (false≢true e)
fits_short kind.Text (Text t) e = leb-true (length t) 512 e

-- a value of a dictionary at a place
at_place : {X : Type 0} (P : X → Type 0) (xs : List X) (i : ℕ) (x : X) → All P xs → slice_get xs i ≡ Some x → P x
at_place P [] i x all e = absurd cc
at_place P (y ∷ ys) zero x all e = let same : y ≡ x = cc in subst P same (all 0 y (omega arith))
at_place P (y ∷ ys) (suc i) x all e = at_place P ys i x (λ k d lt. all (suc k) d (omega arith)) e

pub short_at : (d : Distinct) (i : ℕ) (v : Value) → IsDictionary d → slice_get d.values i ≡ Some v → IsShort v
short_at d i v stands e = fits_short d.kind v (at_place (Fits d.kind) d.values i v stands.fit e)

pub on_ok : {A E : Type 0} (r : Result A E) (P Q : Type 0) → (P → Q) → OnOk r P → OnOk r Q
on_ok (Ok x) P Q f p = f p
on_ok (Err e) P Q f p = tt

pub ends_written : (values : List Value) (first last : Value) (old mid new : List ℕ) → slice_get values 0 ≡ Some first → slice_get values (length values - 1) ≡ Some last
    → mid ≡ old ++ bound_bytes first → new ≡ mid ++ bound_bytes last → new ≡ old ++ bounds_bytes (ends_of values)
ends_written [] first last old mid new f l m n = absurd cc
ends_written (v ∷ vs) first last old mid new f l m n =
    let e : Ends = record { least = v; greatest = get_or (v ∷ vs) (length vs) v } in
    let least : first ≡ v = cc in
    let count : length (v ∷ vs) - 1 ≡ length vs = omega arith in
    let greatest : get_or (v ∷ vs) (length vs) v ≡ last = get_or_from_slice_get (v ∷ vs) (length vs) last v (ap (slice_get (v ∷ vs)) (sym count) ∙ l) in
    n ∙ ap (λ x. x ++ bound_bytes last) m ∙ append_assoc old (bound_bytes first) (bound_bytes last)
    ∙ (λ i. old ++ (bound_bytes (least i) ++ bound_bytes (sym greatest i)))
    ∙ ap (λ x. old ++ x) (sym (append-nil (pair_bytes e)))

pub none_written : (values : List Value) (old : List ℕ) → length values ≡ 0 → old ≡ old ++ bounds_bytes (ends_of values)
none_written [] old e = sym (append-nil old)
none_written (v ∷ vs) old e = absurd (omega arith)

-- the bounds of one more column
pub column_written : (ds : List Distinct) (at : ℕ) (d : Distinct) (old out new : List ℕ) → at < length ds → new ≡ out ++ bounds_bytes (ends_of (get_or ds at d).values)
    → out ++ bounds_bytes (bounds_of (drop at ds)) ≡ old ++ bounds_bytes (bounds_of ds) → new ++ bounds_bytes (bounds_of (drop (at + 1) ds)) ≡ old ++ bounds_bytes (bounds_of ds)
column_written ds at d old out new lt is so_far =
    let one : List Ends = ends_of (get_or ds at d).values in
    let rest : List Ends = bounds_of (drop (at + 1) ds) in
    ap (λ x. x ++ bounds_bytes rest) is
    ∙ append_assoc out (bounds_bytes one) (bounds_bytes rest)
    ∙ ap (λ x. out ++ x) (sym (flat_map-append pair_bytes one rest) ∙ ap (λ xs. bounds_bytes (bounds_of xs)) (sym (drop_more ds at d lt)))
    ∙ so_far
