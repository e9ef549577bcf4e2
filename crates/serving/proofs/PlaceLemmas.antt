-- The cursor at a place once it has moved on, among the others.
use Rattle.std.proofs.Common.{◌≡◌, ◌≢◌, ◌∙◌, ◌<◌, ◌≤◌, ◌||◌, ℕ, zero, suc, Bool, true, false, cond, nat_eq, List, [], ◌∷◌, length, map, get_or, set, Option, Some, None, refl, sym, ap, subst, arith}
use Rattle.std.specs.List.{All, AllByRecursion, IsDistinct, list_any}
use Rattle.std.specs.FinMap as finite
use Rattle.std.specs.Option.{option_map}
use borrow.Author.Tests.{eqb-true, eqb-false}
use Rattle.std.proofs.lemmas.Bool.{false≢true}
use Rattle.std.proofs.lemmas.Map.Keys.{IsDistinct-head, IsDistinct-tail}
use Rattle.segment_file.specs.Names.{IsSegmentName}
use Rattle.table_schema.specs.ValidQuery.{IsValidQuery}
use Rattle.table_schema.specs.declared.table.Table.{Table}
use Rattle.cursors.specs.Answered.{IsMoved}
use Rattle.state_pool.specs.Pool.{Pool, held}
use Rattle.cursor_serve.specs.ServingStands.{OpenCursor, kept_under}
use Rattle.cursor_serve.proofs.FetchLemmas.{tied}
use Rattle.cursors.specs.Kept.{AreCursors, IsCursorIn, IsOver, IsPool, KeepsAside, cursor_in, cursors_in, keeper, owners_of, place_under, same_name}
use Rattle.cursors.specs.declared.cursor.Cursor.{Cursor}
use Rattle.cursors.proofs.StillLemmas.{no_keeper, seen_by_same, still_by}
use Rattle.serving.proofs.StandLemmas.{PutsUnder}

-- ---- at a place

-- the cursor at a place, and P of all others
abbrev pub AtPlace : (Cursor → Type 0) → ℕ → Cursor → List Cursor → Type 0
AtPlace P at c [] = ⊥
AtPlace P zero c (d ∷ ds) = (d ≡ c) × AllByRecursion P ds
AtPlace P (suc at) c (d ∷ ds) = P d × AtPlace P at c ds

-- the others have owners of their own
abbrev pub IsOther : Cursor → Cursor → Type 0
IsOther c d = d.groups.owner ≢ c.groups.owner

apart_owner : (n m : ℕ) → nat_eq n m ≡ false → m ≢ n
apart_owner n m e is = omega (arith, eqb-false n m e, is)

pub all_apart : (n : ℕ) (ds : List Cursor) → AllByRecursion (λ m. nat_eq n m ≡ false) (owners_of ds) → AllByRecursion (λ (d : Cursor). d.groups.owner ≢ n) ds
all_apart n [] none = tt
all_apart n (d ∷ ds) none = (apart_owner n d.groups.owner none.0, all_apart n ds none.1)

not_at : (n : ℕ) (ds : List Cursor) (at : ℕ) (c dflt : Cursor) → at < length ds → get_or ds at dflt ≡ c → AllByRecursion (λ m. nat_eq n m ≡ false) (owners_of ds) → n ≢ c.groups.owner
not_at n [] at c dflt lt is none = λ e. omega (arith, lt)
not_at n (d ∷ ds) zero c dflt lt is none = λ e. eqb-false n d.groups.owner none.0 (e ∙ ap (λ (x : Cursor). x.groups.owner) (sym is))
not_at n (d ∷ ds) (suc at) c dflt lt is none = not_at n ds at c dflt (omega (arith, lt)) is none.1

pub at_place : (ds : List Cursor) (at : ℕ) (c dflt : Cursor) → at < length ds → get_or ds at dflt ≡ c → IsDistinct nat_eq (owners_of ds) → AtPlace (IsOther c) at c ds
at_place [] at c dflt lt is once = absurd (omega (arith, lt))
at_place (d ∷ ds) zero c dflt lt is once = (is, subst (λ (x : Cursor). AllByRecursion (IsOther x) ds) is (all_apart d.groups.owner ds (IsDistinct-head nat_eq d.groups.owner (owners_of ds) once)))
at_place (d ∷ ds) (suc at) c dflt lt is once = (
  not_at d.groups.owner ds at c dflt (omega (arith, lt)) is (IsDistinct-head nat_eq d.groups.owner (owners_of ds) once),
  at_place ds at c dflt (omega (arith, lt)) is (IsDistinct-tail nat_eq d.groups.owner (owners_of ds) once),
)

-- ---- numbers that may be absent

pub no_zero : (n : ℕ) → Some 0 ≡ Some (suc n) → ⊥
no_zero n e = let same : 0 ≡ suc n = cc in omega (arith, same)

pub no_suc : (o : Option ℕ) → option_map suc o ≡ Some 0 → ⊥
no_suc None e = absurd cc
no_suc (Some n) e = let same : suc n ≡ 0 = cc in omega (arith, same)

pub lower : (o : Option ℕ) (at : ℕ) → option_map suc o ≡ Some (suc at) → o ≡ Some at
lower None at e = absurd cc
lower (Some n) at e = let same : suc n ≡ suc at = cc in let one : n ≡ at = omega (arith, same) in ap Some one

-- ---- the others as they were

-- the quotas and the width are as they were
pub pool_still : (one two : ℕ) (old new : Pool) → KeepsAside one two old new → IsPool old → IsPool new
pool_still one two old new keeps is = record {
  owners = ap length keeps.quotas ∙ is.owners;
  quotas = λ owner lt. ap (λ qs. get_or qs owner 0) keeps.quotas ∙ is.quotas owner lt;
  width = keeps.width ∙ is.width;
}

-- an owner that no cursor has
pub cursors_aside : (one : ℕ) (old new : Pool) (ds : List Cursor) → KeepsAside one one old new → AreCursors old ds → list_any (nat_eq one) (owners_of ds) ≡ false → held new one ≡ 0 → AreCursors new ds
cursors_aside one old new ds keeps all free none = record {
  pool_is = pool_still one one old new keeps all.pool_is;
  few = all.few;
  each = each_aside ds free all.each;
  owners = all.owners;
  names = all.names;
  free = λ other is. by other is (nat_eq other one) refl;
}
  where
    first : (a b : Bool) → (a || b) ≡ false → (a ≡ false) × (b ≡ false)
    first true b is = absurd cc
    first false b is = (refl, is)

    each_aside : (ds : List Cursor) → list_any (nat_eq one) (owners_of ds) ≡ false → AllByRecursion (IsCursorIn old) ds → AllByRecursion (IsCursorIn new) ds
    each_aside [] free own = tt
    each_aside (d ∷ ds) free own =
        let two = first (nat_eq one d.groups.owner) (list_any (nat_eq one) (owners_of ds)) free in
        let ne : d.groups.owner ≢ one = λ is. eqb-false one d.groups.owner two.0 (sym is) in
        (still_by one one old new keeps d ne ne own.0, each_aside ds two.1 own.1)

    by : (other : ℕ) → list_any (nat_eq other) (owners_of ds) ≡ false → (b : Bool) → nat_eq other one ≡ b → held new other ≡ 0
    by other is true same = ap (held new) (eqb-true other one same) ∙ none
    by other is false apart =
        let ne : other ≢ one = λ e. eqb-false other one apart e in
        ap finite.len (keeps.slots other ne ne) ∙ all.free other is

module _ (old new : Pool) (c e : Cursor) (keeps : KeepsAside c.groups.owner keeper old new) where
  other_still : (d : Cursor) → IsOther c d → IsCursorIn old d → IsCursorIn new d
  other_still d ne own = still_by c.groups.owner keeper old new keeps d ne (no_keeper old d own) own

  other_same : (d : Cursor) → IsOther c d → IsCursorIn old d → cursor_in new d ≡ cursor_in old d
  other_same d ne own = seen_by_same c.groups.owner keeper old new keeps d ne (no_keeper old d own) own

  pub rest_still : (ds : List Cursor) → AllByRecursion (IsOther c) ds → AllByRecursion (IsCursorIn old) ds → AllByRecursion (IsCursorIn new) ds
  rest_still [] ne own = tt
  rest_still (d ∷ ds) ne own = (other_still d ne.0 own.0, rest_still ds ne.1 own.1)

  pub rest_same : (ds : List Cursor) → AllByRecursion (IsOther c) ds → AllByRecursion (IsCursorIn old) ds → cursors_in new ds ≡ cursors_in old ds
  rest_same [] ne own = refl
  rest_same (d ∷ ds) ne own = λ i. other_same d ne.0 own.0 i ∷ rest_same ds ne.1 own.1 i

  pub each_moved : (ds : List Cursor) (at : ℕ) → AtPlace (IsOther c) at c ds → AllByRecursion (IsCursorIn old) ds → IsCursorIn new e → AllByRecursion (IsCursorIn new) (set ds at e)
  each_moved [] at place own it = absurd place
  each_moved (d ∷ ds) zero place own it = (it, rest_still ds place.1 own.1)
  each_moved (d ∷ ds) (suc at) place own it = (other_still d place.0 own.0, each_moved ds at place.1 own.1 it)

  pub same_field : {X : Type 0} (f : Cursor → X) (ds : List Cursor) (at : ℕ) → f e ≡ f c → AtPlace (IsOther c) at c ds → map f (set ds at e) ≡ map f ds
  same_field f [] at is place = refl
  same_field f (d ∷ ds) zero is place = ap (λ x. x ∷ map f ds) (is ∙ ap f (sym place.0))
  same_field f (d ∷ ds) (suc at) is place = ap (λ l. f d ∷ l) (same_field f ds at is place.1)

  pub cursors_moved : (ds : List Cursor) (at : ℕ) → AtPlace (IsOther c) at c ds → AreCursors old ds → IsCursorIn new e → e.name ≡ c.name → e.groups.owner ≡ c.groups.owner → held new keeper ≡ 0
      → AreCursors new (set ds at e)
  cursors_moved ds at place all it name owner closed =
      let owners : owners_of (set ds at e) ≡ owners_of ds = same_field (λ (d : Cursor). d.groups.owner) ds at owner place in
      record {
        pool_is = pool_still c.groups.owner keeper old new keeps all.pool_is;
        few = subst (λ n. n ≤ 16) (sym (long ds at place)) all.few;
        each = each_moved ds at place all.each it;
        owners = subst (IsDistinct nat_eq) (sym owners) all.owners;
        names = subst (IsDistinct same_name) (sym (same_field (λ (d : Cursor). d.name) ds at name place)) all.names;
        free = λ other none.
            let not : list_any (nat_eq other) (owners_of ds) ≡ false = ap (list_any (nat_eq other)) (sym owners) ∙ none in
            by other not (nat_eq other keeper) refl;
      }
    where
      long : (ds : List Cursor) (at : ℕ) → AtPlace (IsOther c) at c ds → length (set ds at e) ≡ length ds
      long [] at place = refl
      long (d ∷ ds) zero place = refl
      long (d ∷ ds) (suc at) place = ap suc (long ds at place.1)

      among : (other : ℕ) (ds : List Cursor) (at : ℕ) → AtPlace (IsOther c) at c ds → list_any (nat_eq other) (owners_of ds) ≡ false → other ≢ c.groups.owner
      among other [] at place none = absurd place
      among other (d ∷ ds) zero place none = λ is. eqb-false other d.groups.owner (first (nat_eq other d.groups.owner) (list_any (nat_eq other) (owners_of ds)) none) (is ∙ ap (λ (x : Cursor). x.groups.owner) (sym place.0))
        where
          first : (a b : Bool) → (a || b) ≡ false → a ≡ false
          first true b is = is
          first false b is = refl
      among other (d ∷ ds) (suc at) place none = among other ds at place.1 (second (nat_eq other d.groups.owner) (list_any (nat_eq other) (owners_of ds)) none)
        where
          second : (a b : Bool) → (a || b) ≡ false → b ≡ false
          second true b is = absurd cc
          second false b is = is

      by : (other : ℕ) → list_any (nat_eq other) (owners_of ds) ≡ false → (b : Bool) → nat_eq other keeper ≡ b → held new other ≡ 0
      by other none true is = ap (held new) (eqb-true other keeper is) ∙ closed
      by other none false is = ap finite.len (keeps.slots other (among other ds at place none) (λ e. eqb-false other keeper is e)) ∙ all.free other none

  -- what callers see of it
  abbrev Seen : List ℕ → List ℕ → ℕ → List Cursor → Type 0
  Seen name q at ds = kept_under q (cursors_in new (set ds at e)) ≡ cond (same_name q name) (Some (cursor_in new e)) (kept_under q (cursors_in old ds))

  seen_here : (name q : List ℕ) (d : Cursor) (rest : Option OpenCursor) (b : Bool) → same_name q name ≡ b → name ≡ d.name
      → cond b (Some (cursor_in new e)) rest ≡ cond b (Some (cursor_in new e)) (cond (same_name q d.name) (Some (cursor_in old d)) rest)
  seen_here name q d rest true t own_name = refl
  seen_here name q d rest false t own_name = sym (ap (λ b. cond b (Some (cursor_in old d)) rest) (ap (same_name q) (sym own_name) ∙ t))

  pub seen_later : (name q : List ℕ) (d : Cursor) (rest : Option OpenCursor) → same_name name d.name ≡ false → (a : Bool) → same_name q d.name ≡ a → (b : Bool) → same_name q name ≡ b
      → cond a (Some (cursor_in old d)) (cond b (Some (cursor_in new e)) rest) ≡ cond b (Some (cursor_in new e)) (cond a (Some (cursor_in old d)) rest)
  seen_later name q d rest apart true s true t =
      let same : same_name name d.name ≡ true = ap (λ n. same_name n d.name) (sym (tied q name t)) ∙ s in
      absurd (false≢true (sym apart ∙ same))
  seen_later name q d rest apart true s false t = refl
  seen_later name q d rest apart false s true t = refl
  seen_later name q d rest apart false s false t = refl

  seen_by : (name q : List ℕ) (d : Cursor) (ds : List Cursor) → AllByRecursion (IsCursorIn old) (d ∷ ds) → e.name ≡ c.name
      → ((at : ℕ) → place_under name ds ≡ Some at → AtPlace (IsOther c) at c ds → Seen name q at ds)
      → (b : Bool) → same_name name d.name ≡ b → (at : ℕ) → cond b (Some 0) (option_map suc (place_under name ds)) ≡ Some at → AtPlace (IsOther c) at c (d ∷ ds) → Seen name q at (d ∷ ds)
  seen_by name q d ds own is again true same zero found place =
      let own_name : name ≡ d.name = tied name d.name same in
      let named : e.name ≡ name = is ∙ ap (λ (x : Cursor). x.name) (sym place.0) ∙ sym own_name in
      (λ i. cond (same_name q (named i)) (Some (cursor_in new e)) (kept_under q (rest_same ds place.1 own.1 i)))
      ∙ seen_here name q d (kept_under q (cursors_in old ds)) (same_name q name) refl own_name
  seen_by name q d ds own is again true same (suc at) found place = absurd (no_zero at found)
  seen_by name q d ds own is again false apart zero found place = absurd (no_suc (place_under name ds) found)
  seen_by name q d ds own is again false apart (suc at) found place =
      (λ i. cond (same_name q d.name) (Some (other_same d place.0 own.0 i)) (kept_under q (cursors_in new (set ds at e))))
      ∙ ap (cond (same_name q d.name) (Some (cursor_in old d))) (again at (lower (place_under name ds) at found) place.1)
      ∙ seen_later name q d (kept_under q (cursors_in old ds)) apart (same_name q d.name) refl (same_name q name) refl

  pub puts_moved : (name : List ℕ) (ds : List Cursor) (at : ℕ) → place_under name ds ≡ Some at → AtPlace (IsOther c) at c ds → AllByRecursion (IsCursorIn old) ds → e.name ≡ c.name
      → PutsUnder name (cursor_in new e) (cursors_in old ds) (cursors_in new (set ds at e))
  puts_moved name [] at found place own is q = absurd place
  puts_moved name (d ∷ ds) at found place own is q = seen_by name q d ds own is (λ n f p. puts_moved name ds n f p own.1 is q) (same_name name d.name) refl at found place

-- ---- the cursor that a place is of

within_by : (b : Bool) (n at : ℕ) (o : Option ℕ) → ((k : ℕ) → o ≡ Some k → k < n) → cond b (Some 0) (option_map suc o) ≡ Some at → at < suc n
within_by true n zero o again found = omega arith
within_by true n (suc at) o again found = absurd (no_zero at found)
within_by false n zero o again found = absurd (no_suc o found)
within_by false n (suc at) o again found = let lt = again at (lower o at found) in omega (arith, lt)

pub place_within : (name : List ℕ) (ds : List Cursor) (at : ℕ) → place_under name ds ≡ Some at → at < length ds
place_within name [] at found = absurd cc
place_within name (d ∷ ds) at found = within_by (same_name name d.name) (length ds) at (place_under name ds) (λ k is. place_within name ds k is) found

kept_by_place : (pool : Pool) (d dflt : Cursor) (ds : List Cursor) (rest : Option OpenCursor) (b : Bool) (at : ℕ) (o : Option ℕ) → ((k : ℕ) → o ≡ Some k → rest ≡ Some (cursor_in pool (get_or ds k dflt)))
    → cond b (Some 0) (option_map suc o) ≡ Some at → cond b (Some (cursor_in pool d)) rest ≡ Some (cursor_in pool (get_or (d ∷ ds) at dflt))
kept_by_place pool d dflt ds rest true zero o again found = refl
kept_by_place pool d dflt ds rest true (suc at) o again found = absurd (no_zero at found)
kept_by_place pool d dflt ds rest false zero o again found = absurd (no_suc o found)
kept_by_place pool d dflt ds rest false (suc at) o again found = again at (lower o at found)

pub place_kept : (pool : Pool) (name : List ℕ) (ds : List Cursor) (at : ℕ) (dflt : Cursor) → place_under name ds ≡ Some at → kept_under name (cursors_in pool ds) ≡ Some (cursor_in pool (get_or ds at dflt))
place_kept pool name [] at dflt found = absurd cc
place_kept pool name (d ∷ ds) at dflt found =
    kept_by_place pool d dflt ds (kept_under name (cursors_in pool ds)) (same_name name d.name) at (place_under name ds) (λ k is. place_kept pool name ds k dflt is) found

none_by : (b : Bool) (o : Option ℕ) (kept : OpenCursor) (rest : Option OpenCursor) → (o ≡ None → rest ≡ None) → cond b (Some 0) (option_map suc o) ≡ None → cond b (Some kept) rest ≡ None
none_by true o kept rest again found = absurd cc
none_by false None kept rest again found = again refl
none_by false (Some n) kept rest again found = absurd cc

pub no_place : (pool : Pool) (name : List ℕ) (ds : List Cursor) → place_under name ds ≡ None → kept_under name (cursors_in pool ds) ≡ None
no_place pool name [] none = refl
no_place pool name (d ∷ ds) none = none_by (same_name name d.name) (place_under name ds) (cursor_in pool d) (kept_under name (cursors_in pool ds)) (no_place pool name ds) none

-- ---- where no owner of a cursor has changed anything

module _ (old new : Pool) (keeps : KeepsAside keeper keeper old new) where
  pub all_same : (ds : List Cursor) → AllByRecursion (IsCursorIn old) ds → cursors_in new ds ≡ cursors_in old ds
  all_same [] own = refl
  all_same (d ∷ ds) own =
      let no = no_keeper old d own.0 in
      λ i. seen_by_same keeper keeper old new keeps d no no own.0 i ∷ all_same ds own.1 i

-- ---- what holds of the cursor at a place, and of those that others are put in the place of

pub each_at : (P : Cursor → Type 0) (ds : List Cursor) (at : ℕ) (c dflt : Cursor) → at < length ds → get_or ds at dflt ≡ c → AllByRecursion P ds → P c
each_at P [] at c dflt lt is all = absurd (omega (arith, lt))
each_at P (d ∷ ds) zero c dflt lt is all = subst P is all.0
each_at P (d ∷ ds) (suc at) c dflt lt is all = each_at P ds at c dflt (omega (arith, lt)) is all.1

pub each_set : (P : Cursor → Type 0) (ds : List Cursor) (at : ℕ) (e : Cursor) → AllByRecursion P ds → P e → AllByRecursion P (set ds at e)
each_set P [] at e all it = tt
each_set P (d ∷ ds) zero e all it = (it, all.1)
each_set P (d ∷ ds) (suc at) e all it = (all.0, each_set P ds at e all.1 it)

pub set_same : (ds : List Cursor) (at : ℕ) (c dflt : Cursor) → at < length ds → get_or ds at dflt ≡ c → set ds at c ≡ ds
set_same [] at c dflt lt is = refl
set_same (d ∷ ds) zero c dflt lt is = ap (λ x. x ∷ ds) (sym is)
set_same (d ∷ ds) (suc at) c dflt lt is = ap (λ l. d ∷ l) (set_same ds at c dflt (omega (arith, lt)) is)

-- the owner of the segments that are being answered is no cursor's
pub keeper_free : (pool : Pool) (ds : List Cursor) → AllByRecursion (IsCursorIn pool) ds → list_any (nat_eq keeper) (owners_of ds) ≡ false
keeper_free pool [] own = refl
keeper_free pool (d ∷ ds) own = by (nat_eq keeper d.groups.owner) refl (keeper_free pool ds own.1)
  where
    by : (b : Bool) → nat_eq keeper d.groups.owner ≡ b → list_any (nat_eq keeper) (owners_of ds) ≡ false → (b || list_any (nat_eq keeper) (owners_of ds)) ≡ false
    by true is rest = absurd (no_keeper pool d own.0 (sym (eqb-true keeper d.groups.owner is)))
    by false is rest = rest

-- the query and the names of a cursor are over the table still
pub over_moved : (table : Table) (to : ℕ) (c e : Cursor) → IsMoved to c e → IsOver table c → IsOver table e
over_moved table to c e is over = record { query = subst (IsValidQuery table) (sym is.query) over.query; named = subst (All IsSegmentName) (sym is.segments) over.named }
