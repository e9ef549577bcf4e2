-- A cursor at a place is out, as the machine has it.
use Rattle.std.proofs.Common.{◌≡◌, ◌≢◌, ◌∙◌, ◌<◌, ◌||◌, ◌⊎◌, inl, inr, ℕ, zero, suc, Bool, true, false, cond, nat_eq, List, [], ◌∷◌, length, map, get_or, Option, Some, None, Ok, Err, refl, sym, ap, subst, arith, slice_get}
use Rattle.std.specs.FinMap as finite
use Rattle.std.specs.List.{AllByRecursion, IsDistinct, list_any, remove}
use borrow.Author.Tests.{eqb-true, eqb-false}
use Rattle.std.proofs.lemmas.Bool.{false≢true}
use Rattle.std.proofs.lemmas.Map.Keys.{IsDistinct-head, IsDistinct-tail}
use Rattle.outside.specs.Files.{Files}
use Rattle.table_schema.specs.declared.table.Table.{Table}
use Rattle.state_pool.specs.Pool.{Pool, held}
use Rattle.group_table.specs.Pooled.{KeepsOthers}
use Rattle.table_store.specs.Kept.{IsKeptName}
use Rattle.table_store.specs.Stands.{KeptIdle, Stands}
use Rattle.table_store.specs.declared.fault.StoreFault.{StoreFault}
use Rattle.table_store.specs.declared.fault.StoreFault.TheVariants as store
use Rattle.query_executor.proofs.EndLemmas.{Failed, own_fault}
use Rattle.serving.specs.Faults.{of_store}
use Rattle.std.specs.Option.{option_map}
use Rattle.std.specs.Prelude.{IsSomeAnd}
use Rattle.table_store.specs.State.{HasTable}
use Rattle.cursor_serve.specs.Machine as machine
use Rattle.cursor_serve.specs.Machine.{After, Close, Machine, closed, closed_by}
use Rattle.cursor_serve.specs.Numbered.{IsNumbered}
use Rattle.cursor_serve.specs.Sound.{IsSound}
use Rattle.cursor_serve.specs.ServingStands.{OpenCursor, ServingStands, kept_under, segments_of}
use Rattle.cursor_serve.proofs.FetchLemmas.{itself, tied}
use Rattle.cursor_serve.proofs.NumberedLemmas.{stays_numbered}
use Rattle.cursor_serve.proofs.SoundLemmas.{stays_sound}
use Rattle.serving.specs.Calls.{IsAnsweredAs, Serves}
use Rattle.serving.specs.Closed.{AreGone, HasNoOther, IsGone, has_file, without_files}
use Rattle.cursors.specs.Kept.{AreCursors, IsCursorIn, KeepsAside, cursor_in, cursors_in, keeper, owners_of, place_under, same_name}
use Rattle.cursors.specs.declared.cursor.Cursor.{Cursor}
use Rattle.serving.specs.declared.fault.ServeFault.TheVariants as fault
use Rattle.serving.proofs.CloseLemmas.{TakesUnder, closes_stand}
use Rattle.serving.proofs.GoneLemmas.{gone_kept, left_got, left_of, left_stands, without_told}
use Rattle.serving.proofs.PlaceLemmas.{AtPlace, IsOther, lower, no_place, no_suc, no_zero, place_kept, pool_still, rest_same, rest_still}
use Rattle.cursors.proofs.PoolLemmas.{aside_first}
use Rattle.serving.proofs.StepLemmas.{IsFoundAs, found_as, none_kept}

-- no cursor of the name
pub closes_none : (table : Table) (pool : Pool) (ds : List Cursor) (name : List ℕ) (held : Option Files) → place_under name ds ≡ None
    → Serves (closed name) table (cursors_in pool ds) (cursors_in pool ds) held held (Err fault.NoCursor)
closes_none table pool ds name None none = tt
closes_none table pool ds name (Some files) none = λ texts m stands.
    let is : finite.get m.cursors name ≡ None = none_kept m name (cursors_in pool ds) (stands.cursors name) (no_place pool name ds none) in
    subst (λ o. IsAnsweredAs (closed_by name o m) (ServingStands (cursors_in pool ds) files texts table) (Stands files (HasTable texts (segments_of m.live))) (Err fault.NoCursor)) (sym is) (refl, stands)

-- ---- by index and by name

abbrev names_of : List Cursor → List (List ℕ)
names_of ds = map (λ (d : Cursor). d.name) ds

other_of : (n : List ℕ) (ds : List Cursor) (i : ℕ) (d : Cursor) → AllByRecursion (λ m. same_name n m ≡ false) (names_of ds) → slice_get ds i ≡ Some d → same_name n d.name ≡ false
other_of n [] i d all got = absurd cc
other_of n (x ∷ ds) zero d all got = let one : x ≡ d = cc in ap (λ (d : Cursor). same_name n d.name) (sym one) ∙ all.0
other_of n (x ∷ ds) (suc i) d all got = other_of n ds i d all.1 got

turned : (x y : List ℕ) → same_name x y ≡ false → same_name y x ≡ false
turned x y is = by (same_name y x) refl
  where
    by : (b : Bool) → same_name y x ≡ b → b ≡ false
    by true e = absurd (false≢true (sym is ∙ ap (same_name x) (tied y x e) ∙ itself x))
    by false e = refl

-- cursors at two places have two names
apart_at : (ds : List Cursor) (i at : ℕ) (d c : Cursor) → IsDistinct same_name (names_of ds) → slice_get ds i ≡ Some d → slice_get ds at ≡ Some c → i ≢ at → same_name d.name c.name ≡ false
apart_at [] i at d c once got there ne = absurd cc
apart_at (x ∷ ds) zero zero d c once got there ne = absurd (ne refl)
apart_at (x ∷ ds) zero (suc at) d c once got there ne =
    let one : x ≡ d = cc in
    ap (λ (x : Cursor). same_name x.name c.name) (sym one) ∙ other_of x.name ds at c (IsDistinct-head same_name x.name (names_of ds) once) there
apart_at (x ∷ ds) (suc i) zero d c once got there ne =
    let one : x ≡ c = cc in
    ap (λ (x : Cursor). same_name d.name x.name) (sym one) ∙ turned x.name d.name (other_of x.name ds i d (IsDistinct-head same_name x.name (names_of ds) once) got)
apart_at (x ∷ ds) (suc i) (suc at) d c once got there ne = apart_at ds i at d c (IsDistinct-tail same_name x.name (names_of ds) once) got there (λ e. ne (ap suc e))

-- the cursor at a place is the one that is kept under its name
pub under_at : (pool : Pool) (ds : List Cursor) (i : ℕ) (d : Cursor) → IsDistinct same_name (names_of ds) → slice_get ds i ≡ Some d → kept_under d.name (cursors_in pool ds) ≡ Some (cursor_in pool d)
under_at pool [] i d once got = absurd cc
under_at pool (x ∷ ds) zero d once got =
    let one : x ≡ d = cc in
    ap (λ b. cond b (Some (cursor_in pool x)) (kept_under d.name (cursors_in pool ds))) (ap (λ (x : Cursor). same_name d.name x.name) one ∙ itself d.name) ∙ ap (λ x. Some (cursor_in pool x)) one
under_at pool (x ∷ ds) (suc i) d once got =
    ap (λ b. cond b (Some (cursor_in pool x)) (kept_under d.name (cursors_in pool ds))) (turned x.name d.name (other_of x.name ds i d (IsDistinct-head same_name x.name (names_of ds) once) got))
    ∙ under_at pool ds i d (IsDistinct-tail same_name x.name (names_of ds) once) got

pub record IsAtPlace (pool : Pool) (q : List ℕ) (k : OpenCursor) (ds : List Cursor) : Type 0 where
  pub i : ℕ
  pub d : Cursor
  pub got : slice_get ds i ≡ Some d
  pub seen : cursor_in pool d ≡ k
  pub named : same_name q d.name ≡ true

pub at_of : (pool : Pool) (q : List ℕ) (k : OpenCursor) (ds : List Cursor) → kept_under q (cursors_in pool ds) ≡ Some k → IsAtPlace pool q k ds
at_of pool q k [] is = absurd cc
at_of pool q k (x ∷ ds) is = by (same_name q x.name) refl is (at_of pool q k ds)
  where
    by : (b : Bool) → same_name q x.name ≡ b → cond b (Some (cursor_in pool x)) (kept_under q (cursors_in pool ds)) ≡ Some k → (kept_under q (cursors_in pool ds) ≡ Some k → IsAtPlace pool q k ds) → IsAtPlace pool q k (x ∷ ds)
    by true e is more = record { i = 0; d = x; got = refl; seen = cc; named = e }
    by false e is more = let r = more is in record { i = suc r.i; d = r.d; got = r.got; seen = r.seen; named = r.named }

-- ---- the others, once one is out

module _ (old new : Pool) (c : Cursor) (keeps : KeepsAside c.groups.owner keeper old new) where
  each_out : (ds : List Cursor) (at : ℕ) → AtPlace (IsOther c) at c ds → AllByRecursion (IsCursorIn old) ds → AllByRecursion (IsCursorIn new) (remove ds at)
  each_out [] at place own = absurd place
  each_out (d ∷ ds) zero place own = rest_still old new c c keeps ds place.1 own.1
  each_out (d ∷ ds) (suc at) place own = ((rest_still old new c c keeps (d ∷ []) (place.0, tt) (own.0, tt)).0, each_out ds at place.1 own.1)

  seen_out : (ds : List Cursor) (at : ℕ) → AtPlace (IsOther c) at c ds → AllByRecursion (IsCursorIn old) ds → cursors_in new (remove ds at) ≡ remove (cursors_in old ds) at
  seen_out [] at place own = absurd place
  seen_out (d ∷ ds) zero place own = rest_same old new c c keeps ds place.1 own.1
  seen_out (d ∷ ds) (suc at) place own =
      (λ i. one (rest_same old new c c keeps (d ∷ []) (place.0, tt) (own.0, tt)) i ∷ cursors_in new (remove ds at))
      ∙ ap (λ l. cursor_in old d ∷ l) (seen_out ds at place.1 own.1)
    where
      one : {x y : OpenCursor} → x ∷ [] ≡ y ∷ [] → x ≡ y
      one e = cc

  long_out : (ds : List Cursor) (at : ℕ) → AtPlace (IsOther c) at c ds → suc (length (remove ds at)) ≡ length ds
  long_out [] at place = absurd place
  long_out (d ∷ ds) zero place = refl
  long_out (d ∷ ds) (suc at) place = ap suc (long_out ds at place.1)

all_out : {X : Type 0} (P : X → Type 0) (xs : List X) (at : ℕ) → AllByRecursion P xs → AllByRecursion P (remove xs at)
all_out P [] zero all = tt
all_out P [] (suc at) all = tt
all_out P (x ∷ xs) zero all = all.1
all_out P (x ∷ xs) (suc at) all = (all.0, all_out P xs at all.1)

map_out : {X Y : Type 0} (f : X → Y) (xs : List X) (at : ℕ) → map f (remove xs at) ≡ remove (map f xs) at
map_out f [] zero = refl
map_out f [] (suc at) = refl
map_out f (x ∷ xs) zero = refl
map_out f (x ∷ xs) (suc at) = ap (λ l. f x ∷ l) (map_out f xs at)

once_out : {X : Type 0} (eq : X → X → Bool) (xs : List X) (at : ℕ) → IsDistinct eq xs → IsDistinct eq (remove xs at)
unfolding IsDistinct
once_out eq [] zero once = tt
once_out eq [] (suc at) once = tt
once_out eq (x ∷ xs) zero once = once.1
once_out eq (x ∷ xs) (suc at) once = (all_out (λ y. eq x y ≡ false) xs at once.0, once_out eq xs at once.1)

-- an owner that none of the others has is the one that is out, or none had it
owner_out : (other : ℕ) (c : Cursor) (ds : List Cursor) (at : ℕ) → AtPlace (IsOther c) at c ds → other ≢ c.groups.owner → list_any (nat_eq other) (owners_of (remove ds at)) ≡ false → list_any (nat_eq other) (owners_of ds) ≡ false
owner_out other c [] at place ne none = absurd place
owner_out other c (d ∷ ds) zero place ne none = ap (λ b. b || list_any (nat_eq other) (owners_of ds)) (differs other d.groups.owner (λ e. ne (e ∙ ap (λ (x : Cursor). x.groups.owner) place.0))) ∙ none
  where
    differs : (n m : ℕ) → n ≢ m → nat_eq n m ≡ false
    differs n m apart = by (nat_eq n m) refl
      where
        by : (b : Bool) → nat_eq n m ≡ b → b ≡ false
        by true e = absurd (apart (eqb-true n m e))
        by false e = refl
owner_out other c (d ∷ ds) (suc at) place ne none = by (nat_eq other d.groups.owner) none (owner_out other c ds at place.1 ne)
  where
    by : (b : Bool) → (b || list_any (nat_eq other) (owners_of (remove ds at))) ≡ false → (list_any (nat_eq other) (owners_of (remove ds at)) ≡ false → list_any (nat_eq other) (owners_of ds) ≡ false) → (b || list_any (nat_eq other) (owners_of ds)) ≡ false
    by true none more = none
    by false none more = more none

all_at : {X Y : Type 0} (P : Y → Type 0) (f : X → Y) (xs : List X) (at : ℕ) (x : X) → AllByRecursion P (map f xs) → slice_get xs at ≡ Some x → P (f x)
all_at P f [] at x all got = absurd cc
all_at P f (y ∷ xs) zero x all got = let one : y ≡ x = cc in subst (λ x. P (f x)) one all.0
all_at P f (y ∷ xs) (suc at) x all got = all_at P f xs at x all.1 got

-- no cursor but the one that is out has its name
module _ (name : List ℕ) where
  none_under : (ks : List OpenCursor) → AllByRecursion (λ n. same_name name n ≡ false) (map (λ k. k.name) ks) → kept_under name ks ≡ None
  none_under [] all = refl
  none_under (k ∷ ks) all = ap (λ b. cond b (Some k) (kept_under name ks)) all.0 ∙ none_under ks all.1

  takes_at : (ks : List OpenCursor) (at : ℕ) (k : OpenCursor) → slice_get ks at ≡ Some k → k.name ≡ name → IsDistinct same_name (map (λ k. k.name) ks) → TakesUnder name ks (remove ks at)
  takes_at [] at k got is once q = absurd cc
  takes_at (x ∷ ks) zero k got is once q =
      let one : x ≡ k = cc in
      let named : x.name ≡ name = ap (λ (x : OpenCursor). x.name) one ∙ is in
      by (same_name q name) refl named
    where
      by : (b : Bool) → same_name q name ≡ b → x.name ≡ name → kept_under q ks ≡ cond b None (cond (same_name q x.name) (Some x) (kept_under q ks))
      by true e named =
          let other = none_under ks (subst (λ n. AllByRecursion (λ m. same_name n m ≡ false) (map (λ k. k.name) ks)) named (IsDistinct-head same_name x.name (map (λ k. k.name) ks) once)) in
          ap (λ n. kept_under n ks) (tied q name e) ∙ other
      by false e named = sym (ap (λ b. cond b (Some x) (kept_under q ks)) (ap (same_name q) named ∙ e))
  takes_at (x ∷ ks) (suc at) k got is once q =
      ap (cond (same_name q x.name) (Some x)) (takes_at ks at k got is (IsDistinct-tail same_name x.name (map (λ k. k.name) ks) once) q)
      ∙ by (same_name q x.name) refl (same_name q name) refl
      (ap (same_name x.name) (sym is) ∙ all_at (λ n. same_name x.name n ≡ false) (λ k. k.name) ks at k (IsDistinct-head same_name x.name (map (λ k. k.name) ks) once) got)
    where
      by : (a : Bool) → same_name q x.name ≡ a → (b : Bool) → same_name q name ≡ b → same_name x.name name ≡ false → cond a (Some x) (cond b None (kept_under q ks)) ≡ cond b None (cond a (Some x) (kept_under q ks))
      by true s true t apart = absurd (false≢true (sym apart ∙ ap (λ n. same_name n name) (sym (tied q x.name s)) ∙ t))
      by true s false t apart = refl
      by false s true t apart = refl
      by false s false t apart = refl

-- ---- the pool, once the groups of one are closed

pub cursors_out : (old new : Pool) (c : Cursor) (ds : List Cursor) (at : ℕ) → AtPlace (IsOther c) at c ds → AreCursors old ds → KeepsOthers c.groups.owner old new → held new c.groups.owner ≡ 0 → AreCursors new (remove ds at)
cursors_out old new c ds at place all closes none =
    let keeps : KeepsAside c.groups.owner keeper old new = aside_first c.groups.owner keeper old new closes in
    record {
      pool_is = pool_still c.groups.owner keeper old new keeps all.pool_is;
      few = let long = long_out old new c keeps ds at place in let few = all.few in omega (arith, long, few);
      each = each_out old new c keeps ds at place all.each;
      owners = subst (IsDistinct nat_eq) (sym (map_out (λ (d : Cursor). d.groups.owner) ds at)) (once_out nat_eq (owners_of ds) at all.owners);
      names = subst (IsDistinct same_name) (sym (map_out (λ (d : Cursor). d.name) ds at)) (once_out same_name (names_of ds) at all.names);
      free = λ other is. by other is (nat_eq other c.groups.owner) refl;
    }
  where
    by : (other : ℕ) → list_any (nat_eq other) (owners_of (remove ds at)) ≡ false → (b : Bool) → nat_eq other c.groups.owner ≡ b → held new other ≡ 0
    by other is true same = ap (held new) (eqb-true other c.groups.owner same) ∙ none
    by other is false apart =
        let ne : other ≢ c.groups.owner = λ e. eqb-false other c.groups.owner apart e in
        ap finite.len (closes.others other ne) ∙ all.free other (owner_out other c ds at place ne is)

-- ---- the call

names_seen : (pool : Pool) (ds : List Cursor) → map (λ k. k.name) (cursors_in pool ds) ≡ names_of ds
names_seen pool [] = refl
names_seen pool (d ∷ ds) = ap (λ l. d.name ∷ l) (names_seen pool ds)

seen_at : (pool : Pool) (ds : List Cursor) (at : ℕ) (c : Cursor) → slice_get ds at ≡ Some c → slice_get (cursors_in pool ds) at ≡ Some (cursor_in pool c)
seen_at pool [] at c got = absurd cc
seen_at pool (d ∷ ds) zero c got = let one : d ≡ c = cc in ap (λ d. Some (cursor_in pool d)) one
seen_at pool (d ∷ ds) (suc at) c got = seen_at pool ds at c got

module _ (table : Table) (idle : KeptIdle) (pool new : Pool) (ds : List Cursor) (name : List ℕ) (at : ℕ) (c dflt : Cursor) (place : place_under name ds ≡ Some at) (got : slice_get ds at ≡ Some c) (is : get_or ds at dflt ≡ c)
    (named : same_name name c.name ≡ true) (all : AreCursors pool ds) where
  module _ (place_c : AtPlace (IsOther c) at c ds) (closes : KeepsOthers c.groups.owner pool new) where
    alone_of : (f : List ℕ) → HasNoOther at ds f → (q : List ℕ) (k : OpenCursor) → same_name q name ≡ false → kept_under q (cursors_in pool ds) ≡ Some k → has_file f k.files ≡ false
    alone_of f none q k apart under =
        let r = at_of pool q k ds under in
        ap (λ (k : OpenCursor). has_file f k.files) (sym r.seen) ∙ none r.i r.d (λ same. by r.i r.d r.got r.named same) r.got
      where
        by : (i : ℕ) (d : Cursor) → slice_get ds i ≡ Some d → same_name q d.name ≡ true → i ≡ at → ⊥
        by i d there q_is same =
            let both : Some d ≡ Some c = sym there ∙ ap (slice_get ds) same ∙ got in
            let one : d ≡ c = cc in
            let q_name : q ≡ name = tied q d.name q_is ∙ ap (λ (d : Cursor). d.name) one ∙ sym (tied name c.name named) in
            false≢true (sym apart ∙ ap (λ n. same_name n name) q_name ∙ itself name)

    no_other : (f : List ℕ) → ((q : List ℕ) (k : OpenCursor) → same_name q name ≡ false → kept_under q (cursors_in pool ds) ≡ Some k → has_file f k.files ≡ false) → HasNoOther at ds f
    no_other f alone i d ne there =
        alone d.name (cursor_in pool d) (ap (same_name d.name) (tied name c.name named) ∙ apart_at ds i at d c all.names there got ne) (under_at pool ds i d all.names there)

    pub closes_out : (held_old held_new : Option Files) (names : List (List ℕ)) → AreGone at ds names → held_new ≡ without_files names held_old
        → Serves (closed name) table (cursors_in pool ds) (cursors_in new (remove ds at)) held_old held_new (Ok tt)
    closes_out None held_new names gone same = tt
    closes_out (Some files) held_new names gone same = λ texts m stands.
        let olds : List OpenCursor = cursors_in pool ds in
        let keeps : KeepsAside c.groups.owner keeper pool new = aside_first c.groups.owner keeper pool new closes in
        let found : IsFoundAs m name (cursor_in pool c) = found_as m name olds (cursor_in pool c) (stands.cursors name) (place_kept pool name ds at dflt place ∙ ap (λ d. Some (cursor_in pool d)) is) in
        let goes : closed name m ≡ closed_by name (Some found.cursor) m = ap (λ o. closed_by name o m) found.got in
        let takes : TakesUnder name olds (cursors_in new (remove ds at)) = subst (TakesUnder name olds) (sym (seen_out pool new c keeps ds at place_c all.each))
        (takes_at name olds at (cursor_in pool c) (seen_at pool ds at c got) (sym (tied name c.name named)) (subst (IsDistinct same_name) (sym (names_seen pool ds)) all.names)) in
        subst (λ o. IsSomeAnd o (λ left. IsAnsweredAs (closed name m) (ServingStands (cursors_in new (remove ds at)) left texts table) (Stands left (HasTable texts (segments_of m.live))) (Ok tt)))
        (sym (same ∙ without_told names files))
        (subst (λ (a : After (Unit {0})). IsAnsweredAs a (ServingStands (cursors_in new (remove ds at)) (left_of names files) texts table) (Stands (left_of names files) (HasTable texts (segments_of m.live))) (Ok tt)) (sym goes) (
          refl,
          closes_stand table files (left_of names files) texts m name olds (cursors_in new (remove ds at)) found.cursor (cursor_in pool c) stands found.got found.is names
              (λ f went. alone_of f (went_at f names gone.each went).alone)
              (λ f kept has alone. gone.all c got f has (record { kept = kept; alone = no_other f alone }))
              (left_got names files) takes (left_stands idle texts (segments_of m.live) names files (gone_kept at ds names gone.each) stands.live)
              (subst (λ (a : After (Unit {0})). IsSound a.machine) goes (stays_sound 0 (Close name) m stands.sound))
              (subst (λ (a : After (Unit {0})). IsNumbered a.machine) goes (stays_numbered 0 (Close name) m stands.sound stands.numbered)),
        ))
      where
        went_at : (f : List ℕ) (names : List (List ℕ)) → AllByRecursion (IsGone at ds) names → list_any (same_name f) names ≡ true → IsGone at ds f
        went_at f [] each any = absurd (false≢true any)
        went_at f (n ∷ names) each any = by (same_name f n) refl any (went_at f names each.1)
          where
            by : (b : Bool) → same_name f n ≡ b → (b || list_any (same_name f) names) ≡ true → (list_any (same_name f) names ≡ true → IsGone at ds f) → IsGone at ds f
            by true e any more = subst (IsGone at ds) (sym (tied f n e)) each.0
            by false e any more = more any

-- a device or memory failed after some kept files were taken away
pub closes_fault : (table : Table) → KeptIdle → (pool : Pool) (ds : List Cursor) (name : List ℕ) (old new : Option Files) (names : List (List ℕ)) (why : StoreFault) → AllByRecursion IsKeptName names → new ≡ without_files names old
    → (why ≡ store.WriteFault) ⊎ (why ≡ store.NoMemory) → Serves (closed name) table (cursors_in pool ds) (cursors_in pool ds) old new (Err (of_store why))
closes_fault table idle pool ds name None new names why kept same is = tt
closes_fault table idle pool ds name (Some files) new names why kept same is = λ texts m stands.
    subst (λ o. IsSomeAnd o (λ left. IsAnsweredAs (closed name m) (ServingStands (cursors_in pool ds) left texts table) (Stands left (HasTable texts (segments_of m.live))) (Err (of_store why))))
    (sym (same ∙ without_told names files))
    (by (closed name m) (ServingStands (cursors_in pool ds) (left_of names files) texts table) (Stands (left_of names files) (HasTable texts (segments_of m.live))) why is (left_stands idle texts (segments_of m.live) names files kept stands.live))
  where
    by : (after : After (Unit {0})) (stands : Machine → Type 0) (live : Type 0) (why : StoreFault) → (why ≡ store.WriteFault) ⊎ (why ≡ store.NoMemory) → live → IsAnsweredAs after stands live (Err (of_store why))
    by after stands live why (inl e) it = subst (λ w. IsAnsweredAs after stands live (Err (of_store w))) (sym e) it
    by after stands live why (inr e) it = subst (λ w. IsAnsweredAs after stands live (Err (of_store w))) (sym e) it

-- ---- the cursor at a place

pub got_at : (ds : List Cursor) (at : ℕ) (c dflt : Cursor) → at < length ds → get_or ds at dflt ≡ c → slice_get ds at ≡ Some c
got_at [] at c dflt lt is = absurd (omega (arith, lt))
got_at (d ∷ ds) zero c dflt lt is = ap Some is
got_at (d ∷ ds) (suc at) c dflt lt is = got_at ds at c dflt (omega (arith, lt)) is

named_by : (b : Bool) (name : List ℕ) (d c dflt : Cursor) (ds : List Cursor) (at : ℕ) (o : Option ℕ) → same_name name d.name ≡ b → ((k : ℕ) → o ≡ Some k → get_or ds k dflt ≡ c → same_name name c.name ≡ true)
    → cond b (Some 0) (option_map suc o) ≡ Some at → get_or (d ∷ ds) at dflt ≡ c → same_name name c.name ≡ true
named_by true name d c dflt ds zero o s again found is = ap (λ (d : Cursor). same_name name d.name) (sym is) ∙ s
named_by true name d c dflt ds (suc at) o s again found is = absurd (no_zero at found)
named_by false name d c dflt ds zero o s again found is = absurd (no_suc o found)
named_by false name d c dflt ds (suc at) o s again found is = again at (lower o at found) is

pub place_named : (name : List ℕ) (ds : List Cursor) (at : ℕ) (c dflt : Cursor) → place_under name ds ≡ Some at → get_or ds at dflt ≡ c → same_name name c.name ≡ true
place_named name [] at c dflt found is = absurd cc
place_named name (d ∷ ds) at c dflt found is = named_by (same_name name d.name) name d c dflt ds at (place_under name ds) refl (λ k e i. place_named name ds k c dflt e i) found is

pub over_out : (P : Cursor → Type 0) (ds : List Cursor) (at : ℕ) → AllByRecursion P ds → AllByRecursion P (remove ds at)
over_out P ds at all = all_out P ds at all

pub write_or_memory : (why : StoreFault) → (Failed (Unit {0}) why ≡ Failed (Unit {0}) store.WriteFault) ⊎ (Failed (Unit {0}) why ≡ Failed (Unit {0}) store.NoMemory) → (why ≡ store.WriteFault) ⊎ (why ≡ store.NoMemory)
write_or_memory why (inl e) = inl (own_fault (Unit {0}) why store.WriteFault e)
write_or_memory why (inr e) = inr (own_fault (Unit {0}) why store.NoMemory e)
