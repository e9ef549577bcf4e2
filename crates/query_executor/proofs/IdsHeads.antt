-- A head with the dictionaries of the rows of columns of which ids are tested.
use Rattle.std.proofs.Common.{◌≡◌, ◌≢◌, ◌∙◌, ◌<◌, ◌+◌, ◌==◌, ℕ, zero, suc, Bool, true, false, Option, Some, None, List, [], ◌∷◌, length, map, slice_get, refl, sym, ap, subst, arith}
use Rattle.std.specs.List.{AllZip}
use Rattle.value_ids.specs.Dictionary.{Distinct}
use Rattle.table_schema.specs.declared.table.Table.{Table}
use Rattle.segment_head.specs.Heads.{IsHeadOf, IsPartOf, IsSlotOf, Seen}
use Rattle.segment_opening.specs.Found.{count_of, keeping}

-- the dictionaries, with those of others for each column that has a count
abbrev pub own_in : List (Option ℕ) → List (Option Distinct) → List (Option Distinct) → List (Option Distinct)
own_in [] own ds = ds
own_in (count ∷ counts) [] ds = ds
own_in (count ∷ counts) (o ∷ own) [] = []
own_in (None ∷ counts) (o ∷ own) (d ∷ ds) = d ∷ own_in counts own ds
own_in (Some n ∷ counts) (o ∷ own) (d ∷ ds) = o ∷ own_in counts own ds

pub own_long : (counts : List (Option ℕ)) (own ds : List (Option Distinct)) → length (own_in counts own ds) ≡ length ds
own_long [] own ds = refl
own_long (None ∷ counts) [] ds = refl
own_long (Some n ∷ counts) [] ds = refl
own_long (None ∷ counts) (o ∷ own) [] = refl
own_long (Some n ∷ counts) (o ∷ own) [] = refl
own_long (None ∷ counts) (o ∷ own) (d ∷ ds) = ap (λ n. suc n) (own_long counts own ds)
own_long (Some n ∷ counts) (o ∷ own) (d ∷ ds) = ap (λ n. suc n) (own_long counts own ds)

pub own_kept : (counts : List (Option ℕ)) (own ds : List (Option Distinct)) (c : ℕ) → count_of counts c ≡ None → slice_get (own_in counts own ds) c ≡ slice_get ds c
own_kept [] own ds c none = refl
own_kept (None ∷ counts) [] ds c none = refl
own_kept (Some n ∷ counts) [] ds c none = refl
own_kept (None ∷ counts) (o ∷ own) [] c none = refl
own_kept (Some n ∷ counts) (o ∷ own) [] c none = refl
own_kept (None ∷ counts) (o ∷ own) (d ∷ ds) zero none = refl
own_kept (Some n ∷ counts) (o ∷ own) (d ∷ ds) zero none = absurd cc
own_kept (None ∷ counts) (o ∷ own) (d ∷ ds) (suc c) none = own_kept counts own ds c none
own_kept (Some n ∷ counts) (o ∷ own) (d ∷ ds) (suc c) none = own_kept counts own ds c none

pub own_there : (counts : List (Option ℕ)) (own ds : List (Option Distinct)) (c n : ℕ) → count_of counts c ≡ Some n → c < length own → c < length ds → slice_get (own_in counts own ds) c ≡ slice_get own c
own_there [] own ds c n is lt few = absurd cc
own_there (x ∷ counts) [] ds c n is lt few = absurd (omega (arith, lt))
own_there (x ∷ counts) (o ∷ own) [] c n is lt few = absurd (omega (arith, few))
own_there (None ∷ counts) (o ∷ own) (d ∷ ds) zero n is lt few = absurd cc
own_there (Some m ∷ counts) (o ∷ own) (d ∷ ds) zero n is lt few = refl
own_there (None ∷ counts) (o ∷ own) (d ∷ ds) (suc c) n is lt few = own_there counts own ds c n is (omega (arith, lt)) (omega (arith, few))
own_there (Some m ∷ counts) (o ∷ own) (d ∷ ds) (suc c) n is lt few = own_there counts own ds c n is (omega (arith, lt)) (omega (arith, few))

slot_same : {A : Type 0} (w : Option A) → IsSlotOf w w
slot_same None = tt
slot_same (Some d) = refl

own_slots : (counts : List (Option ℕ)) (ws ds : List (Option Distinct)) → AllZip IsSlotOf ws ds → AllZip IsSlotOf ws (own_in counts ws ds)
own_slots [] ws ds all = all
own_slots (None ∷ counts) [] ds all = all
own_slots (Some n ∷ counts) [] ds all = all
own_slots (None ∷ counts) (w ∷ ws) [] all = absurd all
own_slots (Some n ∷ counts) (w ∷ ws) [] all = absurd all
own_slots (None ∷ counts) (w ∷ ws) (d ∷ ds) all = (all.0, own_slots counts ws ds all.1)
own_slots (Some n ∷ counts) (w ∷ ws) (d ∷ ds) all = (slot_same w, own_slots counts ws ds all.1)

slots_long : {A : Type 0} (ws ds : List (Option A)) → AllZip IsSlotOf ws ds → length ws ≡ length ds
slots_long [] [] all = refl
slots_long [] (d ∷ ds) all = absurd all
slots_long (w ∷ ws) [] all = absurd all
slots_long (w ∷ ws) (d ∷ ds) all = ap (λ n. suc n) (slots_long ws ds all.1)

-- as many dictionaries as the head of a table has fields
pub whole_long : (table : Table) (whole head : Seen) → IsPartOf whole head → IsHeadOf table head → length whole.dictionaries ≡ length table.schema.fields
whole_long table whole head part is = slots_long whole.dictionaries head.dictionaries part.slots ∙ is.has.slots

-- ---- the head of a table

-- a head with as many other dictionaries is one of the table
pub kept_head : (table : Table) (head : Seen) (ds : List (Option Distinct)) → length ds ≡ length head.dictionaries → IsHeadOf table head → IsHeadOf table (keeping ds head)
kept_head table head ds long is = record {
  name = is.name;
  file = is.file;
  front = is.front;
  at_most = is.at_most;
  each = is.each;
  small = is.small;
  has = record { rows_are = is.has.rows_are; sections_are = is.has.sections_are; slots = long ∙ is.has.slots; tree_slots = is.has.tree_slots };
}

-- with dictionaries of the whole head it is a part of that
pub own_part : (whole head : Seen) (counts : List (Option ℕ)) → IsPartOf whole head → IsPartOf whole (keeping (own_in counts whole.dictionaries head.dictionaries) head)
own_part whole head counts part = record {
  rows_same = part.rows_same;
  sections_same = part.sections_same;
  bounds_same = part.bounds_same;
  slots = own_slots counts whole.dictionaries head.dictionaries part.slots;
  tree_slots = part.tree_slots;
}

-- ---- lists

pub lists_same : {X : Type 0} (xs ys : List X) → length xs ≡ length ys → ((k : ℕ) → k < length xs → slice_get xs k ≡ slice_get ys k) → xs ≡ ys
lists_same [] [] long each = refl
lists_same [] (y ∷ ys) long each = absurd (omega (arith, long))
lists_same (x ∷ xs) [] long each = absurd (omega (arith, long))
lists_same (x ∷ xs) (y ∷ ys) long each =
    let first = each 0 (omega arith) in
    let here : x ≡ y = cc in
    let more = lists_same xs ys (omega (arith, long)) (λ k lt. each (suc k) (omega (arith, lt))) in
    (λ i. here i ∷ more i)
