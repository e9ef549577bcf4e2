-- Rows of cells that become wider, and the pool that they are of.
use Rattle.std.proofs.Common.{◌≡◌, ◌∙◌, ℕ, zero, suc, ◌+◌, ◌-◌, ◌*◌, ◌<◌, ◌≤◌, ◌⊎◌, inl, inr, Bool, true, false, cond, List, [], ◌∷◌, ◌++◌, append_assoc, length, get_or, take, drop, Option, Some, None, refl, sym, ap, arith}
use borrow.Author.Tests.{eqb-true}
use Rattle.std.proofs.lemmas.Bool.{cases_lt}
use Rattle.std.proofs.lemmas.Nat.{mul-le}
use native.Mathlib.Nat.{suc-mul}
use Rattle.std.specs.FinMap as finite
use Rattle.std.specs.FinMap.{nat_cmp-IsAntisymmetric}
use Rattle.std.specs.Cmp.{nat_cmp_total}
use lib.Seq.{paste}
use Rattle.agg_laws.specs.declared.states.AggState.{AggState}
use Rattle.agg_laws.specs.Rows.{units_of}
use Rattle.state_pool.specs.declared.pool.Owner.{Owner}
use Rattle.state_pool.specs.Pool.{Pool, Place, Slots, is_of, row_of, slots_of, kinds_at, Takes}
use Rattle.state_pool.specs.Kept.{IsKept, HasRoom, Widens, part_of, with_part, pool_in}
use Rattle.state_pool.proofs.SlotLemmas.{slot_at}
use Rattle.state_pool.proofs.CellLemmas.{in_range, row_before, row_after, part_before, part_after, part_written, length-spliced, within}
use Rattle.state_pool.proofs.PartSteps.{length-part}

-- ---- one row moved after another, from the last one on

-- the first of some of a list
first_of : {X : Type 0} (few n : ℕ) (xs : List X) → few ≤ n → take few (take n xs) ≡ take few xs
first_of zero n xs le = refl
first_of (suc few) zero xs le = absurd (omega (arith, le))
first_of (suc few) (suc n) [] le = refl
first_of (suc few) (suc n) (x ∷ xs) le = ap (λ l. x ∷ l) (first_of few n xs (omega (arith, le)))

-- a row that was moved to another place
pub moved_row : (xs : List AggState) (from to n : ℕ) → from + n ≤ length xs → paste xs to (drop from xs) (from + n - from) ≡ with_part xs to n (part_of xs from n)
moved_row xs from to n le = append_assoc (take to xs) (take (from + n - from) (drop from xs)) (drop (to + (from + n - from)) xs)
    ∙ ap (λ k. take to xs ++ (take k (drop from xs) ++ drop (to + k) xs)) (let e : from + n - from ≡ n = omega arith in e)

-- rows of a number or more have been moved, and those below it have not
pub record AreMoved (count width wider : ℕ) (left : ℕ) (old now : List AggState) : Type 0 where
  pub after : (q few : ℕ) → q < count → few ≤ width → left ≤ q → part_of now (q * wider) few ≡ part_of old (q * width) few
  pub before : (q few : ℕ) → few ≤ width → q < left → part_of now (q * width) few ≡ part_of old (q * width) few
  pub same_length : length now ≡ length old

pub none_moved : (count width wider : ℕ) (old : List AggState) → AreMoved count width wider count old old
none_moved count width wider old = record {
  after = λ q few lt le ge. absurd (omega (arith, lt, ge));
  before = λ q few le lt. refl;
  same_length = refl;
}

module _ (count width wider : ℕ) (old now : List AggState) (grows : width ≤ wider) (len : length old ≡ count * wider) (number : ℕ) (lt : number < count)
    (m : AreMoved count width wider (suc number) old now) where
  pub from_fits : number * width + width ≤ length now
  from_fits =
      let there : number * width + width ≤ count * width = row_before number count width width lt (let e : width ≤ width = omega arith in e) in
      let same : count ≤ count = omega arith in
      let wide : count * width ≤ count * wider = mul-le count width count wider same grows in
      omega (arith, there, wide, len, m.same_length)

  to_fits : number * wider + width ≤ length now
  to_fits = omega (arith, row_before number count wider width lt grows, len, m.same_length)

  row : List AggState
  row = part_of now (number * width) width

  row_length : length row ≡ width
  unfolding row
  row_length = length-part now (number * width) width from_fits

  pub one_moved : AreMoved count width wider number old (with_part now (number * wider) width (part_of now (number * width) width))
  unfolding row
  one_moved = record {
    after = λ q few less le ge. after q few less le ge (cases_lt number q);
    before = λ q few le less.
        let below : q * width + few ≤ number * width = row_before q number width few less le in
        let wide : number * width ≤ number * wider = mul-le number width number wider (let e : number ≤ number = omega arith in e) grows in
        part_before now row (number * wider) width row_length to_fits (q * width) few (omega (arith, below, wide)) ∙ m.before q few le (omega (arith, less));
    same_length = length-spliced now row (number * wider) width row_length to_fits ∙ m.same_length;
  }
    where
      after : (q few : ℕ) → q < count → few ≤ width → number ≤ q → (number < q) ⊎ (q ≤ number)
          → part_of (with_part now (number * wider) width (part_of now (number * width) width)) (q * wider) few ≡ part_of old (q * width) few
      after q few less le ge (inl more) = part_after now row (number * wider) width row_length to_fits (q * wider) few (row_after q number wider width more grows)
          ∙ m.after q few less le (omega (arith, more))
      after q few less le ge (inr last) = let same : number ≡ q = omega (arith, ge, last) in
          ap (λ q. part_of (with_part now (number * wider) width (part_of now (number * width) width)) (q * wider) few) (sym same)
          ∙ sym (first_of few width (drop (number * wider) (with_part now (number * wider) width (part_of now (number * width) width))) le)
          ∙ ap (take few) (part_written now row (number * wider) width row_length to_fits)
          ∙ first_of few width (drop (number * width) now) le
          ∙ m.before number few le (omega arith)
          ∙ ap (λ q. part_of old (q * width) few) same

-- ---- rows that have become wider

pub wide_length : (count width wanted : ℕ) → width ≤ wanted → count * width + count * (wanted - width) ≡ count * wanted
wide_length zero width wanted le = omega arith
wide_length (suc n) width wanted le = omega (arith, suc-mul n width, suc-mul n (wanted - width), suc-mul n wanted, wide_length n width wanted le, le)

pub stay_wide : (count width wanted : ℕ) (cells : List AggState) → wanted ≤ width → length cells ≡ count * width → Widens count width wanted width cells cells
stay_wide count width wanted cells le len = record {
  enough = le;
  grows = omega arith;
  least = λ most few more. few;
  rows = λ q few lt le. refl;
  all_cells = len;
}

-- cells added, and the rows of all moved
pub grow_wide : (count width wanted : ℕ) (cells spare now : List AggState) → width ≤ wanted → length cells ≡ count * width → length now ≡ count * wanted
    → ((q few : ℕ) → q < count → few ≤ width → part_of now (q * wanted) few ≡ part_of (cells ++ spare) (q * width) few)
    → Widens count width wanted wanted cells now
grow_wide count width wanted cells spare now grows len long rows = record {
  enough = omega arith;
  grows = grows;
  least = λ most few more. more;
  rows = λ q few lt le. rows q few lt le ∙ within cells spare (q * width) few (omega (arith, row_before q count width few lt le, len));
  all_cells = long;
}

-- room for more cells
pub roomier : (slots width h c f more : ℕ) → c ≤ more → HasRoom slots width h c f → HasRoom slots width h more f
roomier slots width h c f more le room = record {
  small = room.small;
  holders_fit = room.holders_fit;
  cells_fit = omega (arith, room.cells_fit, le);
  free_fit = room.free_fit;
}

-- ---- the pool with wider rows

module _ (owners : List Owner) (holders : List (Option ℕ)) (limit width : ℕ) (cells : List AggState) (free : List ℕ)
    (kept : IsKept owners (pool_in owners holders limit width cells) free) (wanted wider : ℕ) (new_cells : List AggState)
    (fits : wanted ≤ limit) (wide : Widens (length holders) width wanted wider cells new_cells) where
  pub same_slots_wider : (owner : ℕ) → slots_of (pool_in owners holders limit wider new_cells) owner ≡ slots_of (pool_in owners holders limit width cells) owner
  same_slots_wider owner = finite.same_map nat_cmp_total nat_cmp-IsAntisymmetric (slots_of (pool_in owners holders limit wider new_cells) owner) (slots_of (pool_in owners holders limit width cells) owner)
      (λ q. slot_at (pool_in owners holders limit wider new_cells) owner q ∙ by q (get_or holders q None) refl ∙ sym (slot_at (pool_in owners holders limit width cells) owner q))
    where
      its : (q other : ℕ) → get_or holders q None ≡ Some other → (b : Bool) → is_of owner (Some other) ≡ b
          → cond b (Some (row_of (pool_in owners holders limit wider new_cells) owner q)) None ≡ cond b (Some (row_of (pool_in owners holders limit width cells) owner q)) None
      its q other e true t = let same : owner ≡ other = eqb-true owner other t in let own = e ∙ ap Some (sym same) in
          ap Some (wide.rows q (length (kinds_at (pool_in owners holders limit width cells) owner)) (in_range holders q owner own) (kept.narrow q owner own))
      its q other e false t = refl

      by : (q : ℕ) (h : Option ℕ) → get_or holders q None ≡ h
          → cond (is_of owner (get_or holders q None)) (Some (row_of (pool_in owners holders limit wider new_cells) owner q)) None
          ≡ cond (is_of owner (get_or holders q None)) (Some (row_of (pool_in owners holders limit width cells) owner q)) None
      by q None e = ap (λ (h : Option ℕ). cond (is_of owner h) (Some (row_of (pool_in owners holders limit wider new_cells) owner q)) None) e
          ∙ sym (ap (λ (h : Option ℕ). cond (is_of owner h) (Some (row_of (pool_in owners holders limit width cells) owner q)) None) e)
      by q (Some other) e = ap (λ (h : Option ℕ). cond (is_of owner h) (Some (row_of (pool_in owners holders limit wider new_cells) owner q)) None) e
          ∙ its q other e (is_of owner (Some other)) refl
          ∙ sym (ap (λ (h : Option ℕ). cond (is_of owner h) (Some (row_of (pool_in owners holders limit width cells) owner q)) None) e)

  pub wider_kept : IsKept owners (pool_in owners holders limit wider new_cells) free
  wider_kept = record {
    each = λ at d less. let o = kept.each at d less in record {
      counted = o.counted ∙ ap finite.len (sym (same_slots_wider at));
      within = o.within;
      fits = o.fits;
    };
    known = kept.known;
    narrow = λ number owner e. omega (arith, kept.narrow number owner e, wide.grows);
    within = wide.least limit kept.within fits;
    free_are = kept.free_are;
    all_cells = wide.all_cells;
    all_numbers = kept.all_numbers;
    few_numbers = kept.few_numbers;
  }

  -- a slot that is taken then
  pub takes_wider : (owner : ℕ) (slot : Place) (new : Pool) → Takes owner slot (pool_in owners holders limit wider new_cells) new
      → Takes owner slot (pool_in owners holders limit width cells) new
  takes_wider owner slot new t = record {
    owner_is = t.owner_is;
    new_number = λ other. ap (λ (m : Slots). finite.get m slot.number) (sym (same_slots_wider other)) ∙ t.new_number other;
    changes = record {
      quotas = t.changes.quotas;
      kinds = t.changes.kinds;
      width = t.changes.width;
      own = t.changes.own ∙ ap (λ (m : Slots). finite.insert m slot.number (units_of (kinds_at (pool_in owners holders limit width cells) owner))) (same_slots_wider owner);
      others = λ other ne. t.changes.others other ne ∙ same_slots_wider other;
    };
  }
