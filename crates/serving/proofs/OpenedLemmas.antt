-- A cursor is opened, as the machine does.
use Rattle.std.proofs.Common.{◌≡◌, ◌≢◌, ◌∙◌, ◌+◌, ◌<◌, ◌≤◌, ◌||◌, ℕ, suc, Bool, true, false, cond, nat_eq, nat_le, List, [], ◌∷◌, ◌++◌, length, map, Option, Some, None, IfSome, Ok, Err, refl, sym, ap, subst, arith, is_some, length-append}
use Rattle.std.specs.FinMap as finite
use Rattle.std.specs.Cmp.{eq_by_cmp_equiv}
use Rattle.std.specs.List.{AllByRecursion, IsDistinct, list_any}
use Rattle.std.specs.Option.{option_map}
use Rattle.std.proofs.lemmas.Bool.{false≢true, le-leb, leb-true}
use Rattle.std.proofs.lemmas.Cmp.{nat_list_cmp_total}
use Rattle.std.proofs.lemmas.List.{length-map}
use Rattle.std.proofs.lemmas.Map.Made.{length-from_same_keys}
use borrow.Author.Tests.{eqb-false}
use Rattle.outside.specs.Files.{Files}
use Rattle.table_schema.specs.declared.query.BoundQuery.{BoundQuery}
use Rattle.table_schema.specs.declared.table.Table.{Table}
use Rattle.state_pool.specs.Pool.{Pool, held}
use Rattle.group_table.proofs.SlotFrames.{push_apart}
use Rattle.segment_file.specs.Names.{file_of}
use Rattle.table_store.specs.Segments.{AreFirstNames}
use Rattle.table_store.specs.Stands.{Stands}
use Rattle.table_store.specs.State.{HasTable}
use Rattle.table_store.proofs.NameLemmas.{entries_apart}
use Rattle.cursor_serve.specs.Machine as machine
use Rattle.cursor_serve.specs.Machine.{After, Cursor as Kept, Machine, Open, lists_of, most_cursors, opened, refused}
use Rattle.cursor_serve.specs.Numbered.{IsNumbered}
use Rattle.cursor_serve.specs.Sound.{IsSound}
use Rattle.cursor_serve.specs.ServingStands.{BothKept, IsKeptAs, OpenCursor, ServingStands, kept_under, segments_of}
use Rattle.cursor_serve.proofs.FetchLemmas.{itself, tied}
use Rattle.cursor_serve.proofs.NumberedLemmas.{stays_numbered}
use Rattle.cursor_serve.proofs.SoundLemmas.{all_joined, stays_sound}
use Rattle.serving.specs.Calls.{IsAnsweredAs, Serves}
use Rattle.cursors.specs.Kept.{AreCursors, IsCursorIn, KeepsAside, cursor_in, cursors_in, keeper, owners_of, place_under, same_name}
use Rattle.cursors.specs.Opened.{IsNewCursor}
use Rattle.cursors.specs.declared.cursor.Cursor.{Cursor}
use Rattle.serving.specs.declared.fault.ServeFault.{ServeFault}
use Rattle.serving.specs.declared.fault.ServeFault.TheVariants as fault
use Rattle.serving.proofs.OpenLemmas.{files_live, live_filed, live_listed, names_live}
use Rattle.serving.proofs.PlaceLemmas.{IsOther, all_apart, no_place, pool_still, rest_same, rest_still}
use Rattle.serving.proofs.StandLemmas.{PutsUnder, names_in, stands_with, with_cursor}

-- ---- how many cursors there are

both_there : (m : Machine) (a : Option Kept) (b : Option OpenCursor) → BothKept m a b → is_some a ≡ is_some b
both_there m None None h = refl
both_there m None (Some k) h = absurd h
both_there m (Some c) None h = absurd h
both_there m (Some c) (Some k) h = refl

any_by : {X : Type 0} (b : Bool) (x : X) (o : Option X) (any : Bool) → is_some o ≡ any → is_some (cond b (Some x) o) ≡ (b || any)
any_by true x o any is = refl
any_by false x o any is = is

under_any : (q : List ℕ) (ks : List OpenCursor) → is_some (kept_under q ks) ≡ list_any (same_name q) (map (λ k. k.name) ks)
under_any q [] = refl
under_any q (k ∷ ks) = any_by (same_name q k.name) k (kept_under q ks) (list_any (same_name q) (map (λ k. k.name) ks)) (under_any q ks)

names_kept : (pool : Pool) (ds : List Cursor) → map (λ k. k.name) (cursors_in pool ds) ≡ map (λ (d : Cursor). d.name) ds
names_kept pool [] = refl
names_kept pool (d ∷ ds) = ap (λ l. d.name ∷ l) (names_kept pool ds)

pub cursors_counted : (m : Machine) (pool : Pool) (ds : List Cursor) → AreCursors pool ds → ((q : List ℕ) → BothKept m (finite.get m.cursors q) (kept_under q (cursors_in pool ds))) → finite.len m.cursors ≡ length ds
cursors_counted m pool ds all both =
    let names : List (List ℕ) = map (λ (d : Cursor). d.name) ds in
    let keys : List (List ℕ) = finite.keys m.cursors in
    let members : (q : List ℕ) → list_any (same_name q) keys ≡ list_any (same_name q) names =
    λ q. sym (finite.contains_key-keys m.cursors q) ∙ both_there m (finite.get m.cursors q) (kept_under q (cursors_in pool ds)) (both q) ∙ under_any q (cursors_in pool ds) ∙ ap (list_any (same_name q)) (names_kept pool ds) in
    finite.len-entries m.cursors ∙ sym (length-map (finite.entries m.cursors) (λ e. e.0))
    ∙ length-from_same_keys (eq_by_cmp_equiv nat_list_cmp_total) keys names (entries_apart (finite.entries m.cursors) (finite.entries_sorted m.cursors)) all.names members ∙ length-map ds (λ (d : Cursor). d.name)

-- ---- refusals

abbrev opened_free : List ℕ → BoundQuery → Machine → After ℕ
opened_free name query m = cond (nat_le most_cursors (finite.len m.cursors)) (refused machine.TooManyCursors m) (record {
  answer = Ok (length (lists_of m.live));
  machine = with_cursor name (record { query = query; lists = lists_of m.live; answered = 0 }) m;
})

opened_as : (name : List ℕ) (query : BoundQuery) (m : Machine) (b : Bool) → is_some (finite.get m.cursors name) ≡ b → opened name query m ≡ cond b (refused machine.CursorTaken m) (opened_free name query m)
opened_as name query m b is = ap (λ b. cond b (refused machine.CursorTaken m) (opened_free name query m)) is

module _ (table : Table) (pool : Pool) (ds : List Cursor) (name : List ℕ) (query : BoundQuery) where
  taken_as : (m : Machine) → ((q : List ℕ) → BothKept m (finite.get m.cursors q) (kept_under q (cursors_in pool ds))) → is_some (finite.get m.cursors name) ≡ is_some (place_under name ds)
  taken_as m both = both_there m (finite.get m.cursors name) (kept_under name (cursors_in pool ds)) (both name) ∙ by (place_under name ds) refl
    where
      by : (o : Option ℕ) → place_under name ds ≡ o → is_some (kept_under name (cursors_in pool ds)) ≡ is_some o
      by None is = ap is_some (no_place pool name ds is)
      by (Some at) is = under_any name (cursors_in pool ds) ∙ ap (list_any (same_name name)) (names_kept pool ds) ∙ placed name ds at is
        where
          placed : (name : List ℕ) (ds : List Cursor) (at : ℕ) → place_under name ds ≡ Some at → list_any (same_name name) (map (λ (d : Cursor). d.name) ds) ≡ true
          placed name [] at is = absurd cc
          placed name (d ∷ ds) at is = either (same_name name d.name) (place_under name ds) (λ n e. placed name ds n e) is
            where
              either : (b : Bool) (o : Option ℕ) → ((n : ℕ) → o ≡ Some n → list_any (same_name name) (map (λ (d : Cursor). d.name) ds) ≡ true)
                  → cond b (Some 0) (option_map suc o) ≡ Some at → (b || list_any (same_name name) (map (λ (d : Cursor). d.name) ds)) ≡ true
              either true o again is = refl
              either false None again is = absurd cc
              either false (Some n) again is = again n refl

  pub opens_taken : (held : Option Files) → is_some (place_under name ds) ≡ true → Serves (opened name query) table (cursors_in pool ds) (cursors_in pool ds) held held (Err fault.CursorTaken)
  opens_taken None is = tt
  opens_taken (Some files) is = λ texts m stands.
      subst (λ (a : After ℕ). IsAnsweredAs a (ServingStands (cursors_in pool ds) files texts table) (Stands files (HasTable texts (segments_of m.live))) (Err fault.CursorTaken))
      (sym (opened_as name query m true (taken_as m stands.cursors ∙ is))) (refl, stands)

  pub opens_many : (held : Option Files) → AreCursors pool ds → is_some (place_under name ds) ≡ false → most_cursors ≤ length ds → Serves (opened name query) table (cursors_in pool ds) (cursors_in pool ds) held held (Err fault.TooManyCursors)
  opens_many None all is many = tt
  opens_many (Some files) all is many = λ texts m stands.
      let count = cursors_counted m pool ds all stands.cursors in
      let full : nat_le most_cursors (finite.len m.cursors) ≡ true = ap (nat_le most_cursors) count ∙ le-leb most_cursors (length ds) many in
      let goes : opened name query m ≡ refused machine.TooManyCursors m = opened_as name query m false (taken_as m stands.cursors ∙ is)
      ∙ ap (λ b. cond b (refused machine.TooManyCursors m) (record { answer = Ok (length (lists_of m.live)); machine = with_cursor name (record { query = query; lists = lists_of m.live; answered = 0 }) m })) full in
      subst (λ (a : After ℕ). IsAnsweredAs a (ServingStands (cursors_in pool ds) files texts table) (Stands files (HasTable texts (segments_of m.live))) (Err fault.TooManyCursors)) (sym goes) (refl, stands)

  -- a device or memory failed
  pub opens_live : (held : Option Files) (news : List OpenCursor) (why : ServeFault) → ((after : After ℕ) (stands : Machine → Type 0) (live : Type 0) → live → IsAnsweredAs after stands live (Err why)) → Serves (opened name query) table (cursors_in pool ds) news held held (Err why)
  opens_live None news why f = tt
  opens_live (Some files) news why f = λ texts m stands. f (opened name query m) (ServingStands news files texts table) (Stands files (HasTable texts (segments_of m.live))) stands.live

-- ---- one cursor more

-- the last of some cursors, where none before has its name
puts_by : (a : Bool) (q name : List ℕ) (d k : OpenCursor) (rest : Option OpenCursor) → same_name q d.name ≡ a → (b : Bool) → same_name q name ≡ b → same_name name d.name ≡ false
    → cond a (Some d) (cond b (Some k) rest) ≡ cond b (Some k) (cond a (Some d) rest)
puts_by true q name d k rest s true t apart =
    let same : same_name name d.name ≡ true = ap (λ n. same_name n d.name) (sym (tied q name t)) ∙ s in
    absurd (false≢true (sym apart ∙ same))
puts_by true q name d k rest s false t apart = refl
puts_by false q name d k rest s true t apart = refl
puts_by false q name d k rest s false t apart = refl

none_first : (b : Bool) (d : OpenCursor) (rest : Option OpenCursor) → cond b (Some d) rest ≡ None → (b ≡ false) × (rest ≡ None)
none_first true d rest is = absurd cc
none_first false d rest is = (refl, is)

puts_last : (name : List ℕ) (k : OpenCursor) (ks : List OpenCursor) → k.name ≡ name → kept_under name ks ≡ None → PutsUnder name k ks (ks ++ k ∷ [])
puts_last name k [] is none q = ap (λ n. cond (same_name q n) (Some k) None) is
puts_last name k (d ∷ ks) is none q =
    let two = none_first (same_name name d.name) d (kept_under name ks) none in
    ap (cond (same_name q d.name) (Some d)) (puts_last name k ks is two.1 q)
    ∙ puts_by (same_name q d.name) q name d k (kept_under q ks) refl (same_name q name) refl two.0

aside_one : (one two : ℕ) (old new : Pool) → KeepsAside one one old new → KeepsAside one two old new
aside_one one two old new k = record {
  quotas = k.quotas;
  width = k.width;
  kinds = λ other ne no. k.kinds other ne ne;
  slots = λ other ne no. k.slots other ne ne;
}

joined_map : {X Y : Type 0} (f : X → Y) (xs ys : List X) → map f (xs ++ ys) ≡ map f xs ++ map f ys
joined_map f [] ys = refl
joined_map f (x ∷ xs) ys = ap (λ l. f x ∷ l) (joined_map f xs ys)

none_among : (n : ℕ) (ns : List ℕ) → list_any (nat_eq n) ns ≡ false → AllByRecursion (λ m. nat_eq n m ≡ false) ns
none_among n [] is = tt
none_among n (m ∷ ns) is = by (nat_eq n m) refl is (none_among n ns)
  where
    by : (b : Bool) → nat_eq n m ≡ b → (b || list_any (nat_eq n) ns) ≡ false → (list_any (nat_eq n) ns ≡ false → AllByRecursion (λ m. nat_eq n m ≡ false) ns) → (nat_eq n m ≡ false) × AllByRecursion (λ m. nat_eq n m ≡ false) ns
    by true e is more = absurd cc
    by false e is more = (e, more is)

no_name : (name : List ℕ) (ds : List Cursor) → place_under name ds ≡ None → AllByRecursion (λ n. same_name name n ≡ false) (map (λ (d : Cursor). d.name) ds)
no_name name [] is = tt
no_name name (d ∷ ds) is = by (same_name name d.name) refl (place_under name ds) refl is (no_name name ds)
  where
    by : (b : Bool) → same_name name d.name ≡ b → (o : Option ℕ) → place_under name ds ≡ o → cond b (Some 0) (option_map suc o) ≡ None
        → (place_under name ds ≡ None → AllByRecursion (λ n. same_name name n ≡ false) (map (λ (d : Cursor). d.name) ds))
        → (same_name name d.name ≡ false) × AllByRecursion (λ n. same_name name n ≡ false) (map (λ (d : Cursor). d.name) ds)
    by true e o there is more = absurd cc
    by false e None there is more = (e, more there)
    by false e (Some n) there is more = absurd cc

turned : (x y : List ℕ) → same_name x y ≡ false → same_name y x ≡ false
turned x y is = by (same_name y x) refl
  where
    by : (b : Bool) → same_name y x ≡ b → b ≡ false
    by true e = absurd (false≢true (sym is ∙ ap (same_name x) (tied y x e) ∙ itself x))
    by false e = refl

push_name : (ns : List (List ℕ)) (n : List ℕ) → AllByRecursion (λ m. same_name n m ≡ false) ns → IsDistinct same_name ns → IsDistinct same_name (ns ++ n ∷ [])
unfolding IsDistinct
push_name [] n none d = (tt, tt)
push_name (m ∷ ns) n none d = (all_joined (λ k. same_name m k ≡ false) ns (n ∷ []) d.0 (turned n m none.0, tt), push_name ns n none.1 d.1)

any_first : (a b : Bool) → (a || b) ≡ false → a ≡ false
any_first true b is = is
any_first false b is = refl

any_split : (p : ℕ → Bool) (ns : List ℕ) (n : ℕ) → list_any p (ns ++ n ∷ []) ≡ false → (list_any p ns ≡ false) × (p n ≡ false)
any_split p [] n is = (refl, any_first (p n) false is)
any_split p (m ∷ ns) n is = by (p m) is (any_split p ns n)
  where
    by : (b : Bool) → (b || list_any p (ns ++ n ∷ [])) ≡ false → (list_any p (ns ++ n ∷ []) ≡ false → (list_any p ns ≡ false) × (p n ≡ false)) → ((b || list_any p ns) ≡ false) × (p n ≡ false)
    by true is more = absurd cc
    by false is more = more is

module _ (table : Table) (pool new : Pool) (ds : List Cursor) (name : List ℕ) (query : BoundQuery) (segments : List (List ℕ)) (owner : ℕ) (e : Cursor) (all : AreCursors pool ds)
    (made : IsNewCursor owner name query segments new e) (keeps : KeepsAside owner owner pool new) (free : list_any (nat_eq owner) (owners_of ds) ≡ false) (none : place_under name ds ≡ None) where
  keeps_e : KeepsAside e.groups.owner keeper pool new
  keeps_e = aside_one e.groups.owner keeper pool new (subst (λ o. KeepsAside o o pool new) (sym made.owner_is) keeps)

  others : AllByRecursion (IsOther e) ds
  others = all_apart e.groups.owner ds (none_among e.groups.owner (owners_of ds) (subst (λ o. list_any (nat_eq o) (owners_of ds) ≡ false) (sym made.owner_is) free))

  pub cursors_opened : length ds < most_cursors → AreCursors new (ds ++ e ∷ [])
  cursors_opened few = record {
    pool_is = pool_still owner owner pool new keeps all.pool_is;
    few = let long = length-append ds (e ∷ []) in omega (arith, long, few);
    each = all_joined (IsCursorIn new) ds (e ∷ []) (rest_still pool new e e keeps_e ds others all.each) (made.kept, tt);
    owners = subst (IsDistinct nat_eq) (sym (joined_map (λ (d : Cursor). d.groups.owner) ds (e ∷ [])))
        (push_apart (owners_of ds) e.groups.owner (none_among e.groups.owner (owners_of ds) (subst (λ o. list_any (nat_eq o) (owners_of ds) ≡ false) (sym made.owner_is) free)) all.owners);
    names = subst (IsDistinct same_name) (sym (joined_map (λ (d : Cursor). d.name) ds (e ∷ [])))
        (push_name (map (λ (d : Cursor). d.name) ds) e.name (subst (λ n. AllByRecursion (λ m. same_name n m ≡ false) (map (λ (d : Cursor). d.name) ds)) (sym made.name_is) (no_name name ds none)) all.names);
    free = λ other is.
        let two = any_split (nat_eq other) (owners_of ds) e.groups.owner (ap (list_any (nat_eq other)) (sym (joined_map (λ (d : Cursor). d.groups.owner) ds (e ∷ []))) ∙ is) in
        let ne : other ≢ owner = λ same. eqb-false other e.groups.owner two.1 (same ∙ sym made.owner_is) in
        ap finite.len (keeps.slots other ne ne) ∙ all.free other two.0;
  }

  pub opens_made : (held : Option Files) → length ds < most_cursors → IfSome held (λ files. AreFirstNames files segments)
      → Serves (opened name query) table (cursors_in pool ds) (cursors_in new (ds ++ e ∷ [])) held held (Ok (length segments))
  opens_made None few are = tt
  opens_made (Some files) few are = λ texts m stands.
      let olds : List OpenCursor = cursors_in pool ds in
      let news : List OpenCursor = cursors_in new (ds ++ e ∷ []) in
      let cursor : Kept = record { query = query; lists = lists_of m.live; answered = 0 } in
      let named : segments ≡ names_in (lists_of m.live) = names_live olds files texts table m stands segments are in
      let count : length segments ≡ length (lists_of m.live) = ap length named ∙ length-map (lists_of m.live) (λ listed. listed.name) in
      let counted = cursors_counted m pool ds all stands.cursors in
      let room : nat_le most_cursors (finite.len m.cursors) ≡ false = ap (nat_le most_cursors) counted ∙ not_full (length ds) few in
      let goes : opened name query m ≡ record { answer = Ok (length (lists_of m.live)); machine = with_cursor name cursor m } =
      opened_as name query m false (taken_as table pool ds name query m stands.cursors ∙ ap is_some none)
      ∙ ap (λ b. cond b (refused machine.TooManyCursors m) (record { answer = Ok (length (lists_of m.live)); machine = with_cursor name cursor m })) room in
      let sound : IsSound (with_cursor name cursor m) = subst (λ (a : After ℕ). IsSound a.machine) goes (stays_sound 0 (Open name query) m stands.sound) in
      let numbered : IsNumbered (with_cursor name cursor m) = subst (λ (a : After ℕ). IsNumbered a.machine) goes (stays_numbered 0 (Open name query) m stands.sound stands.numbered) in
      let kept : IsKeptAs m cursor (cursor_in new e) = record {
        query = made.query_is;
        segments = made.segments_are ∙ named;
        answered = made.none;
        groups = made.groups_are;
        files = made.files_are ∙ ap (map (λ segment. Some (file_of segment))) named ∙ files_live olds files texts table m stands;
      } in
      let puts : PutsUnder name (cursor_in new e) olds news = subst (PutsUnder name (cursor_in new e) olds)
      (sym (joined_map (cursor_in new) ds (e ∷ []) ∙ ap (λ l. l ++ cursor_in new e ∷ []) (rest_same pool new e e keeps_e ds others all.each)))
      (puts_last name (cursor_in new e) olds made.name_is (no_place pool name ds none)) in
      subst (λ (a : After ℕ). IsAnsweredAs a (ServingStands news files texts table) (Stands files (HasTable texts (segments_of m.live))) (Ok (length segments))) (sym goes)
      (ap Ok (sym count), stands_with olds news files texts table m name cursor (cursor_in new e) stands puts kept sound numbered (live_filed olds files texts table m stands) (live_listed olds files texts table m stands))
    where
      not_full : (n : ℕ) → n < 16 → nat_le 16 n ≡ false
      not_full n lt = by (nat_le 16 n) refl
        where
          by : (b : Bool) → nat_le 16 n ≡ b → b ≡ false
          by true is = absurd (let le = leb-true 16 n is in omega (arith, le, lt))
          by false is = refl

-- ---- what a new cursor is made of

-- an owner that no cursor says that it has
pub owner_free : (pool : Pool) (ds : List Cursor) (owner : ℕ) → AllByRecursion (IsCursorIn pool) ds → list_any (λ (d : Cursor). nat_eq owner d.owner) ds ≡ false → list_any (nat_eq owner) (owners_of ds) ≡ false
owner_free pool [] owner all is = is
owner_free pool (d ∷ ds) owner all is = by (nat_eq owner d.owner) refl is (owner_free pool ds owner all.1)
  where
    by : (b : Bool) → nat_eq owner d.owner ≡ b → (b || list_any (λ (d : Cursor). nat_eq owner d.owner) ds) ≡ false → (list_any (λ (d : Cursor). nat_eq owner d.owner) ds ≡ false → list_any (nat_eq owner) (owners_of ds) ≡ false)
        → (nat_eq owner d.groups.owner || list_any (nat_eq owner) (owners_of ds)) ≡ false
    by true e is more = absurd cc
    by false e is more = ap (λ b. b || list_any (nat_eq owner) (owners_of ds)) (ap (nat_eq owner) (sym all.0.owner_is) ∙ e) ∙ more is

pub none_some : (o : Option ℕ) → is_some o ≡ false → o ≡ None
none_some None is = refl
none_some (Some n) is = absurd (false≢true (sym is))
