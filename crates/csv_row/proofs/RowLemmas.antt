-- The places of fields in a header.
use Rattle.std.proofs.Common.{◌≡◌, ◌<◌, ◌≤◌, ◌+◌, ℕ, zero, suc, List, [], ◌∷◌, length, map, get_or, Bool, true, false, cond, Option, Some, None, IfSome, sym, subst, arith}
use Rattle.std.specs.List.{position_from}
use Rattle.std.specs.Str.{bytes_eq}
use Rattle.table_schema.specs.declared.field.Field.{Field}
use Rattle.csv_row.specs.Row.{place_of}

abbrev Within : ℕ → ℕ → Option ℕ → Type 0
Within from size o = IfSome o (λ n. (from ≤ n) × (n < from + size))

later : (from size : ℕ) (o : Option ℕ) → Within (from + 1) size o → Within from (suc size) o
later from size None w = tt
later from size (Some n) w = (omega (arith, w.0), omega (arith, w.1))

found_or_later : (from size : ℕ) (b : Bool) (o : Option ℕ) → Within (from + 1) size o → Within from (suc size) (cond b (Some from) o)
found_or_later from size true o w = (omega arith, omega arith)
found_or_later from size false o w = later from size o w

-- a place that is found lies in the list
place_within : {X : Type 0} (p : X → Bool) (xs : List X) (from : ℕ) → Within from (length xs) (position_from p from xs)
place_within p [] from = tt
place_within p (x ∷ xs) from = found_or_later from (length xs) (p x) (position_from p (from + 1) xs) (place_within p xs (from + 1))

places_within : (header : List (List ℕ)) (fields : List Field) (i : ℕ) → Within 1 (length header) (get_or (map (place_of header) fields) i None)
places_within header [] zero = tt
places_within header [] (suc i) = tt
places_within header (f ∷ fs) zero = place_within (bytes_eq f.name) header 1
places_within header (f ∷ fs) (suc i) = places_within header fs i

all_within : (header : List (List ℕ)) (fields : List Field) (places : List (Option ℕ)) (i : ℕ) → places ≡ map (place_of header) fields → Within 1 (length header) (get_or places i None)
all_within header fields places i same = subst (λ ps. Within 1 (length header) (get_or ps i None)) (sym same) (places_within header fields i)

from_one : (size : ℕ) (o : Option ℕ) → Within 1 size o → IfSome o (λ n. 1 ≤ n)
from_one size None w = tt
from_one size (Some n) w = w.0

to_size : (size : ℕ) (o : Option ℕ) → Within 1 size o → IfSome o (λ n. n ≤ size)
to_size size None w = tt
to_size size (Some n) w = omega (arith, w.1)

pub places-first : (header : List (List ℕ)) (fields : List Field) (places : List (Option ℕ)) (i : ℕ) → places ≡ map (place_of header) fields → IfSome (get_or places i None) (λ n. 1 ≤ n)
places-first header fields places i same = from_one (length header) (get_or places i None) (all_within header fields places i same)

pub places-last : (header : List (List ℕ)) (fields : List Field) (places : List (Option ℕ)) (i size : ℕ) → places ≡ map (place_of header) fields → length header ≡ size → IfSome (get_or places i None) (λ n. n ≤ size)
places-last header fields places i size same is = subst (λ k. IfSome (get_or places i None) (λ n. n ≤ k)) is (to_size (length header) (get_or places i None) (all_within header fields places i same))
